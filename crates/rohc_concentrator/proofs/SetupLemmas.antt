use Rattle.std.specs.Option.{option_map, option_and_then}
use Rattle.std.proofs.Common.{◌≡◌, ◌≢◌, ℕ, zero, suc, ◌+◌, ◌<◌, List, [], ◌∷◌, ◌++◌, length, take, get_or, Bool, true, false, ◌||◌, ◌==◌, nat_eq, Option, Some, None, arith, refl, sym, ◌∙◌, ap, subst, eq-eqb, eqb-true, ne_eqb, length-take, ⊎_elim, map, if◌then◌else◌}
use Rattle.std.specs.List.{AllZip}
use Rattle.std.specs.Option.{option_or}
use Rattle.std.proofs.lemmas.List.Folds.{find-append}
use Rattle.std.proofs.lemmas.Bool.{cases_eq}
use Rattle.std.specs.HashMap.{HashMap, get, Updates}
use Rattle.std.proofs.lemmas.List.{take_more, get_or-take, get_or_default}
use Rattle.rohc_concentrator.specs.declared.records.LinkRecords.{LinkRecords}
use Rattle.rohc_concentrator.specs.Tables.{record_in}
use Rattle.std.proofs.lemmas.List.{map-append}
use Rattle.indexmap.specs.IndexMap.{insert_entry}
use Rattle.indexmap.proofs.CallerLemmas.{insert_entry-new}
use Rattle.std.proofs.lemmas.List.Elements.{All-push}
use Rattle.std.proofs.lemmas.List.Quantifiers.{all_pairs_push}
use Rattle.rohc_concentrator.specs.declared.setting.CidRange.{CidRange}
use Rattle.rohc_concentrator.specs.declared.setting.LinkSetting.{LinkSetting}
use Rattle.rohc_concentrator.specs.Setting.{IsGoodSetting}
use Rattle.rohc_concentrator.specs.Setup.{AreSound, names_link, entry_of}

or_false : (a b : Bool) → (a || b) ≡ false → (a ≡ false) × (b ≡ false)
or_false false false e = (refl, refl)
or_false false true e = cc
or_false true b e = cc

-- where no setting is of the link, none at any index is
not_named : (link : ℕ) (xs : List LinkSetting) → names_link link xs ≡ false → (k : ℕ) (d : LinkSetting) → k < length xs → (get_or xs k d).link ≢ link
not_named link [] none k d within e = absurd (omega arith)
not_named link (x ∷ xs) none zero d within e = let h = or_false (x.link == link) (names_link link xs) none in let t : (x.link == link) ≡ true = eq-eqb x.link link e in cc
not_named link (x ∷ xs) none (suc k) d within e = not_named link xs (or_false (x.link == link) (names_link link xs) none).1 k d (omega arith) e

-- a good setting of another link may come behind sound ones
pub sound_more : (xs : List LinkSetting) (n : ℕ) (s : LinkSetting) → n < length xs → s ≡ get_or xs n s → AreSound (take n xs) → IsGoodSetting s → names_link s.link (take n xs) ≡ false → AreSound (take (n + 1) xs)
sound_more xs n s within is sound good none =
    let more : take (n + 1) xs ≡ take n xs ++ s ∷ [] = take_more xs n s within ∙ ap (λ t. take n xs ++ t ∷ []) (sym is) in
    rw more (record {
      good = All-push IsGoodSetting (take n xs) s sound.good good;
      apart = all_pairs_push (λ (s t : LinkSetting). s.link ≢ t.link) (take n xs) s sound.apart (not_named s.link (take n xs) none);
    })

-- lists that are equal place by place are equal
pub equal_by_place : {A : Type 0} (xs ys : List A) → AllZip (λ (x y : A). y ≡ x) xs ys → ys ≡ xs
equal_by_place [] [] h = refl
equal_by_place (x ∷ xs) (y ∷ ys) h = ap (λ z. z ∷ ys) h.0 ∙ ap (λ zs. x ∷ zs) (equal_by_place xs ys h.1)
equal_by_place [] (y ∷ ys) h = absurd h
equal_by_place (x ∷ xs) [] h = absurd h

-- a clone of a setting is the setting
pub clone_is : (s t : LinkSetting) → t.link ≡ s.link → t.settings ≡ s.settings → AllZip (λ (x y : CidRange). y ≡ x) s.ranges.items t.ranges.items → t ≡ s
clone_is s t link settings ranges = let r = equal_by_place s.ranges.items t.ranges.items ranges in (λ i. record { link = link i; settings = settings i; ranges = record { items = r i } })

-- a link that no setting is of has no setting
not_found : (link : ℕ) (xs : List LinkSetting) → ((k : ℕ) (d : LinkSetting) → k < length xs → (get_or xs k d).link ≢ link) → entry_of link xs ≡ None
not_found link [] other = refl
not_found link (x ∷ xs) other =
    elim (x.link == link) as (λ b. (x.link == link) ≡ b → (if b then Some x else entry_of link xs) ≡ None) [
      | true ↦ λ e. absurd (other zero x (omega arith) (eqb-true x.link link e))
      | false ↦ λ e. not_found link xs (λ k d within. other (suc k) d (omega arith))
    ] refl

-- among sound settings, none before an entry is of its link
pub none_before : (xs : List LinkSetting) (n : ℕ) (s : LinkSetting) → AreSound xs → n < length xs → s ≡ get_or xs n s → entry_of s.link (take n xs) ≡ None
none_before xs n s sound within is = not_found s.link (take n xs) (λ k d before same.
    let inside : k < n = omega (arith, length-take n xs) in
    let there : get_or (take n xs) k d ≡ get_or xs k d = get_or-take n xs k d inside in
    let here : get_or xs n d ≡ s = get_or_default xs n d s within ∙ sym is in
    sound.apart k n d inside within (ap (λ (t : LinkSetting). t.link) (sym there) ∙ same ∙ ap (λ (t : LinkSetting). t.link) (sym here)))

-- the settings of a longer front
entry_of-more : (link : ℕ) (xs : List LinkSetting) (n : ℕ) (s : LinkSetting) → n < length xs → s ≡ get_or xs n s → entry_of link (take (n + 1) xs) ≡ option_or (entry_of link (take n xs)) (if s.link == link then Some s else None)
entry_of-more link xs n s within is =
    ap (entry_of link) (take_more xs n s within ∙ ap (λ t. take n xs ++ t ∷ []) (sym is))
    ∙ find-append (λ (t : LinkSetting). t.link == link) (take n xs) (s ∷ [])

or_none : (o : Option LinkSetting) → option_or o None ≡ o
or_none None = refl
or_none (Some s) = refl

-- a record of the next setting, put into the table, gives the table of one setting more
pub each_more : {S : Type 0} (m n : HashMap ℕ LinkRecords S) (xs : List LinkSetting) (i : ℕ) (s : LinkSetting) (r : LinkRecords) →
    AreSound xs → i < length xs → s ≡ get_or xs i s → r.setting ≡ s → Updates nat_eq m n s.link (Some r) →
    ((link : ℕ) → option_map (λ (r : LinkRecords). r.setting) (get nat_eq m link) ≡ entry_of link (take i xs)) →
    (link : ℕ) → option_map (λ (r : LinkRecords). r.setting) (get nat_eq n link) ≡ entry_of link (take (i + 1) xs)
each_more m n xs i s r sound within is set put each link =
    let more = entry_of-more link xs i s within is in
    ⊎_elim (λ e.
    let e' : s.link ≡ link = e in
    let here : get nat_eq n link ≡ Some r = subst (λ k. get nat_eq n k ≡ Some r) e' put.1 in
    let none : entry_of link (take i xs) ≡ None = subst (λ k. entry_of k (take i xs) ≡ None) e' (none_before xs i s sound within is) in
    let yes : (s.link == link) ≡ true = eq-eqb s.link link e' in
    rw (here, more, none, yes) (ap Some set))
    (λ ne.
    let no : (s.link == link) ≡ false = ne_eqb s.link link ne in
    let other : get nat_eq n link ≡ get nat_eq m link = put.2 link no in
    rw (other, more, no) (each link ∙ sym (or_none (entry_of link (take i xs)))))
    (cases_eq s.link link)

pub no_records : (o : Option LinkRecords) → option_map (λ (r : LinkRecords). r.setting) o ≡ None → o ≡ None
no_records None e = refl
no_records (Some r) e = cc

-- the settings in their order are one more
pub in_order_more : {S : Type 0} (m n : HashMap ℕ LinkRecords S) (xs : List LinkSetting) (i : ℕ) (s : LinkSetting) (r : LinkRecords) →
    AreSound xs → i < length xs → s ≡ get_or xs i s → r.setting ≡ s → n.entries ≡ insert_entry nat_eq m.entries s.link r →
    ((link : ℕ) → option_map (λ (r : LinkRecords). r.setting) (get nat_eq m link) ≡ entry_of link (take i xs)) →
    map (λ (e : ℕ × LinkRecords). e.1.setting) m.entries ≡ take i xs →
    map (λ (e : ℕ × LinkRecords). e.1.setting) n.entries ≡ take (i + 1) xs
in_order_more m n xs i s r sound within is set put each order =
    let absent : get nat_eq m s.link ≡ None = no_records (get nat_eq m s.link) (each s.link ∙ none_before xs i s sound within is) in
    let last : n.entries ≡ m.entries ++ (s.link, r) ∷ [] = put ∙ insert_entry-new nat_eq m s.link r absent in
    ap (map (λ (e : ℕ × LinkRecords). e.1.setting)) last
    ∙ map-append (λ (e : ℕ × LinkRecords). e.1.setting) m.entries ((s.link, r) ∷ [])
    ∙ ap (λ ys. ys ++ r.setting ∷ []) order
    ∙ ap (λ t. take i xs ++ t ∷ []) (set ∙ is)
    ∙ sym (take_more xs i s within)

-- and there is still no record
pub empty_more : {S : Type 0} (m n : HashMap ℕ LinkRecords S) (s : LinkSetting) (r : LinkRecords) →
    Updates nat_eq m n s.link (Some r) → ((cid : ℕ) → record_in r cid ≡ None) →
    ((link cid : ℕ) → option_and_then (λ (t : LinkRecords). record_in t cid) (get nat_eq m link) ≡ None) →
    (link cid : ℕ) → option_and_then (λ (t : LinkRecords). record_in t cid) (get nat_eq n link) ≡ None
empty_more m n s r put bare none link cid =
    ⊎_elim (λ e.
    let e' : s.link ≡ link = e in
    let here : get nat_eq n link ≡ Some r = subst (λ k. get nat_eq n k ≡ Some r) e' put.1 in
    rw here (bare cid))
    (λ ne.
    let other : get nat_eq n link ≡ get nat_eq m link = put.2 link (ne_eqb s.link link ne) in
    rw other (none link cid))
    (cases_eq s.link link)
