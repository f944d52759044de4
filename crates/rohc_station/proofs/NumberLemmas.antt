-- The numbers of links, and the counts for them.
use Rattle.std.proofs.Common.{◌≡◌, ℕ, ◌+◌, ◌<◌, List, [], ◌∷◌, ◌++◌, length, map, take, get_or, ⊎_elim, Bool, true, false, ◌==◌, if◌then◌else◌, nat_eq, Option, Some, None, Result, Ok, Err, refl, sym, ap, subst, ◌∙◌, eq-eqb, ne_eqb}
use Rattle.std.specs.Prelude.{is_some, IfOk, OnOk}
use Rattle.std.specs.Cmp.{nat_eq_equiv}
use Rattle.std.specs.List.{AllByRecursion}
use Rattle.std.specs.Map.{keys_of}
use Rattle.std.specs.Option.{option_or}
use Rattle.std.specs.HashMap.{HashMap, get, keys, Updates, IsUnique}
use Rattle.std.proofs.lemmas.Bool.{cases_eq}
use Rattle.std.proofs.lemmas.List.{take_more}
use Rattle.std.proofs.lemmas.List.Folds.{find-append}
use Rattle.std.proofs.lemmas.Option.{slice_get-get_or}
use Rattle.std.proofs.lemmas.Map.Made.{is_some-lookup}
use Rattle.std.proofs.lemmas.Map.Entries.{hash_map_get_place}
use Rattle.rohc_concentrator.specs.declared.concentrator.Concentrator.{Concentrator}
use Rattle.rohc_concentrator.specs.declared.records.LinkRecords.{LinkRecords}
use Rattle.rohc_concentrator.specs.declared.setting.LinkSetting.{LinkSetting}
use Rattle.rohc_concentrator.specs.Setup.{entry_of}
use Rattle.rohc_concentrator.specs.Tables.{setting_at, AreTables}
use Rattle.rohc_concentrator.proofs.WayLemmas.{each_of}
use Rattle.rohc_station.specs.declared.counters.LinkCounters.{LinkCounters}
use Rattle.rohc_station.specs.Counting.{KeepsCounts}
use Rattle.rohc_station.specs.Reload.{AreLinks}

none_if : {X : Type 0} (o : Option X) → is_some o ≡ false → o ≡ None
none_if None e = refl
none_if (Some x) e = absurd (let bad : true ≡ false = e in cc)

-- the keys of a table have the settings of its records
settings_of_keys : (f : ℕ → Option LinkSetting) (es : List (ℕ × LinkRecords)) → AllByRecursion (λ (e : ℕ × LinkRecords). f e.0 ≡ Some e.1.setting) es
    → map f (keys_of es) ≡ map (λ (s : LinkSetting). Some s) (map (λ (e : ℕ × LinkRecords). e.1.setting) es)
settings_of_keys f [] all = refl
settings_of_keys f (e ∷ es) all = (λ i. all.0 i ∷ settings_of_keys f es all.1 i)

-- so the keys of a concentrator's tables are the numbers of its links
numbers_are : {S : Type 0} (k : Concentrator) (tables : HashMap ℕ LinkRecords S) (numbers : List ℕ) → AreTables k tables → IsUnique nat_eq tables → numbers ≡ keys tables → AreLinks k numbers
numbers_are k tables numbers are unique is = subst (AreLinks k) (sym is) (record {
  in_order = settings_of_keys (setting_at k) tables.entries (each_of (λ (e : ℕ × LinkRecords). setting_at k e.0 ≡ Some e.1.setting) tables.entries (λ j d within.
      let e : ℕ × LinkRecords = get_or tables.entries j d in
      (are.there e.0 e.1 (hash_map_get_place nat_eq_equiv tables j e.0 e.1 unique (slice_get-get_or tables.entries j d within))).setting))
      ∙ ap (map (λ (s : LinkSetting). Some s)) are.in_order;
  apart = unique;
  whole = λ l none. are.absent l (none_if (get nat_eq tables l) (is_some-lookup (nat_eq l) tables.entries ∙ none));
})

pub numbers_if : {S V E : Type 0} (k : Concentrator) (tables : HashMap ℕ LinkRecords S) (are : AreTables k tables) (items : V → List ℕ) (r : Result V E) → IfOk r (λ v. items v ≡ keys tables) → OnOk r (IsUnique nat_eq tables)
    → IfOk r (λ v. AreLinks k (items v))
numbers_if k tables are items (Ok v) is unique = numbers_are k tables (items v) are unique is
numbers_if k tables are items (Err e) is unique = tt

entry_more : (l : ℕ) (xs : List LinkSetting) (n : ℕ) (s : LinkSetting) → n < length xs → s ≡ get_or xs n s → entry_of l (take (n + 1) xs) ≡ option_or (entry_of l (take n xs)) (if s.link == l then Some s else None)
entry_more l xs n s within is =
    ap (entry_of l) (take_more xs n s within ∙ ap (λ t. take n xs ++ t ∷ []) (sym is))
    ∙ find-append (λ (t : LinkSetting). t.link == l) (take n xs) (s ∷ [])

or_none : (o : Option LinkSetting) → option_or o None ≡ o
or_none None = refl
or_none (Some s) = refl

-- the counts of one setting more
pub counts_more : {S T : Type 0} (counters : HashMap ℕ LinkCounters S) (m n : HashMap ℕ LinkCounters T) (xs : List LinkSetting) (i : ℕ) (s : LinkSetting) (c : LinkCounters) →
    i < length xs → s ≡ get_or xs i s → Updates nat_eq m n s.link (Some c) → ((t : LinkSetting) → KeepsCounts (get nat_eq counters s.link) (Some t) (Some c)) →
    ((l : ℕ) → KeepsCounts (get nat_eq counters l) (entry_of l (take i xs)) (get nat_eq m l)) →
    (l : ℕ) → KeepsCounts (get nat_eq counters l) (entry_of l (take (i + 1) xs)) (get nat_eq n l)
counts_more counters m n xs i s c within is put has before l =
    subst (λ e. KeepsCounts (get nat_eq counters l) e (get nat_eq n l)) (sym (entry_more l xs i s within is)) (⊎_elim
    (λ e.
    let here : get nat_eq n l ≡ Some c = subst (λ k. get nat_eq n k ≡ Some c) e put.1 in
    let yes : (s.link == l) ≡ true = eq-eqb s.link l e in
    subst (λ v. KeepsCounts (get nat_eq counters l) (option_or (entry_of l (take i xs)) (if s.link == l then Some s else None)) v) (sym here)
    (subst (λ (b : Bool). KeepsCounts (get nat_eq counters l) (option_or (entry_of l (take i xs)) (if b then Some s else None)) (Some c)) (sym yes)
    (listed (entry_of l (take i xs)) (λ t. subst (λ k. KeepsCounts (get nat_eq counters k) (Some t) (Some c)) e (has t)))))
    (λ ne.
    let no : (s.link == l) ≡ false = ne_eqb s.link l ne in
    let other : get nat_eq n l ≡ get nat_eq m l = put.2 l no in
    subst (λ v. KeepsCounts (get nat_eq counters l) (option_or (entry_of l (take i xs)) (if s.link == l then Some s else None)) v) (sym other)
    (subst (λ (b : Bool). KeepsCounts (get nat_eq counters l) (option_or (entry_of l (take i xs)) (if b then Some s else None)) (get nat_eq m l)) (sym no)
    (subst (λ o. KeepsCounts (get nat_eq counters l) o (get nat_eq m l)) (sym (or_none (entry_of l (take i xs)))) (before l))))
    (cases_eq s.link l))
  where
    listed : (o : Option LinkSetting) → ((t : LinkSetting) → KeepsCounts (get nat_eq counters l) (Some t) (Some c)) → KeepsCounts (get nat_eq counters l) (option_or o (Some s)) (Some c)
    listed None each = each s
    listed (Some t) each = each t
