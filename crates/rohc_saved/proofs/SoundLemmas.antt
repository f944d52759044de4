-- What is saved of a sound concentrator comes back.
use Rattle.std.proofs.Common.{◌≡◌, ℕ, ◌+◌, ◌^◌, ◌<◌, ◌≤◌, List, [], ◌∷◌, ◌++◌, map, length, Bool, true, false, cond, if◌then◌else◌, Option, Some, None, refl, sym, ap, subst, ◌∙◌, arith, append_assoc, append-nil, nat_eq, unwrap_or}
use Rattle.std.specs.Prelude.{All, nat_le}
use Rattle.std.specs.Option.{option_map, option_and_then}
use Rattle.std.specs.List.{AllByRecursion, IsDistinct, list_any}
use Rattle.std.specs.Map.{keys_of, lookup}
use Rattle.std.specs.HashMap.{get, keys}
use Rattle.std.proofs.lemmas.Bool.Decides.{nat_tests}
use Rattle.std.proofs.lemmas.List.{length-map}
use Rattle.std.proofs.lemmas.List.Elements.{All-head, All-tail, All-nil, All-cons}
use Rattle.std.proofs.lemmas.Map.Keys.{IsDistinct-head, IsDistinct-tail}
use Rattle.std.proofs.lemmas.Map.Steps.{length-le_from_distinct_below}
use Rattle.rohc_bits.proofs.Steps.{ok_is}
use Rattle.rohc_frame.specs.declared.header.CidKind.{CidKind}
use Rattle.rohc_frame.specs.declared.header.CidKind.TheVariants.{Small, Large}
use Rattle.rohc_frame.specs.Header.{greatest_cid}
use Rattle.rohc_context.specs.declared.record.Context.{Context}
use Rattle.rohc_context.specs.Record.{Record, record_of}
use Rattle.rohc_context.proofs.StepLaws.{keeps_good}
use Rattle.rohc_concentrator.specs.declared.concentrator.Concentrator.{Concentrator}
use Rattle.rohc_concentrator.specs.declared.records.LinkRecords.{LinkRecords}
use Rattle.rohc_concentrator.specs.declared.setting.LinkSetting.{LinkSetting}
use Rattle.rohc_concentrator.specs.Setting.{IsGoodSetting}
use Rattle.rohc_concentrator.specs.Setup.{entry_of}
use Rattle.rohc_concentrator.specs.Sound.{IsInOrder}
use Rattle.rohc_concentrator.specs.Tables.{setting_at, record_in, settings_in_order, IsLink, KeepsAll}
use Rattle.rohc_saved.specs.declared.fault.SavedFault.{SavedFault}
use Rattle.rohc_saved.specs.Form.{Link, contexts_of, saved_link_of, form_of}
use Rattle.rohc_saved.specs.Restoring.{is_same, up_to, taken_of, puts_in, Restores}
use Rattle.rohc_saved.specs.Laws.{IsGoodContext, IsGoodLink, IsGoodForm, ComesBack}
use Rattle.rohc_saved.proofs.FormLemmas.{contexts_are}
use Rattle.rohc_saved.proofs.BackLemmas.{read_back}
use Rattle.rohc_saved.proofs.Distinct.{numbers, links_apart}
use Rattle.rohc_saved.proofs.PutLemmas.{same, all_puts_in, KeepsTurn, keep_settings, IsHeldAt, holds_none, own, taken_at, links_held}

abbrev seen : List (ℕ × Context) → List (ℕ × Record)
seen es = map (λ (e : ℕ × Context). (e.0, record_of e.1)) es

keys_seen : (es : List (ℕ × Context)) → map (λ (c : ℕ × Record). c.0) (seen es) ≡ keys_of es
keys_seen [] = refl
keys_seen (e ∷ es) = ap (λ ks. e.0 ∷ ks) (keys_seen es)

lookup_seen : (cid : ℕ) (es : List (ℕ × Context)) → lookup (nat_eq cid) (seen es) ≡ option_map record_of (lookup (nat_eq cid) es)
lookup_seen cid [] = refl
lookup_seen cid (e ∷ es) = by (lookup_seen cid es) (nat_eq cid e.0) refl
  where
    by : lookup (nat_eq cid) (seen es) ≡ option_map record_of (lookup (nat_eq cid) es) → (b : Bool) → nat_eq cid e.0 ≡ b
        → cond (nat_eq cid e.0) (Some (record_of e.1)) (lookup (nat_eq cid) (seen es)) ≡ option_map record_of (cond (nat_eq cid e.0) (Some e.1) (lookup (nat_eq cid) es))
    by rest true f = rw f refl
    by rest false f = rw f rest

good_seen : (greatest : ℕ) (es : List (ℕ × Context)) → All (λ cid. cid ≤ greatest) (keys_of es) → All (IsGoodContext greatest) (seen es)
good_seen greatest [] within = All-nil (IsGoodContext greatest)
good_seen greatest (e ∷ es) within =
    All-cons (IsGoodContext greatest) (e.0, record_of e.1) (seen es)
    (record { within = All-head (λ cid. cid ≤ greatest) e.0 (keys_of es) within; good = keeps_good e.1 })
    (good_seen greatest es (All-tail (λ cid. cid ≤ greatest) e.0 (keys_of es) within))

-- all contexts within the greatest are taken
all_up_to : (greatest : ℕ) (cs : List (ℕ × Record)) → All (IsGoodContext greatest) cs → up_to (Some greatest) cs ≡ cs
all_up_to greatest [] good = refl
all_up_to greatest (c ∷ cs) good =
    let first : nat_le c.0 greatest ≡ true = let within = (All-head (IsGoodContext greatest) c cs good).within in grind (arith, nat_tests, within) in
    rw first (ap (λ cs. c ∷ cs) (all_up_to greatest cs (All-tail (IsGoodContext greatest) c cs good)))

-- ---- Settings

at_in : (n : ℕ) (front ss : List LinkSetting) (s : LinkSetting) → AllByRecursion (λ y. nat_eq n y ≡ false) (numbers (front ++ s ∷ ss)) → nat_eq n s.link ≡ false
at_in n [] ss s all = all.0
at_in n (f ∷ front) ss s all = at_in n front ss s all.1

-- a setting is found by its number
found : (front ss : List LinkSetting) (s : LinkSetting) → IsDistinct nat_eq (numbers (front ++ s ∷ ss)) → entry_of s.link (front ++ s ∷ ss) ≡ Some s
found [] ss s distinct = rw (same s.link) refl
found (f ∷ front) ss s distinct =
    let other : nat_eq f.link s.link ≡ false = at_in f.link front ss s (IsDistinct-head nat_eq f.link (numbers (front ++ s ∷ ss)) distinct) in
    rw other (found front ss s (IsDistinct-tail nat_eq f.link (numbers (front ++ s ∷ ss)) distinct))

absent : (n : ℕ) (ss : List LinkSetting) → AllByRecursion (λ y. nat_eq n y ≡ false) (numbers ss) → entry_of n ss ≡ None
absent n [] all = refl
absent n (s ∷ ss) all =
    let other : nat_eq s.link n ≡ false = let apart = all.0 in grind (arith, nat_tests, apart) in
    rw other (absent n ss all.1)

same_size : (size : CidKind) → is_same size size ≡ true
same_size Small = refl
same_size Large = refl

-- what stands for a link, if it is in the settings
abbrev pub if_there : Option LinkSetting → List (ℕ × Record) → List (ℕ × Record)
if_there None contexts = []
if_there (Some s) contexts = contexts

-- ---- One link

is_link : (k : Concentrator) (l : ℕ) (r : LinkRecords) → get nat_eq k.links l ≡ Some r → IsLink k l r
is_link k l r e = record {
  setting = ap (option_map (λ (r : LinkRecords). r.setting)) e;
  records = λ cid. ap (option_and_then (λ (r : LinkRecords). record_in r cid)) e;
  identifiers = ap (λ (o : Option LinkRecords). unwrap_or (option_map (λ (r : LinkRecords). keys r.contexts) o) []) e;
}

-- the records of a link that is there
there : (o : Option LinkRecords) (s : LinkSetting) → option_map (λ (r : LinkRecords). r.setting) o ≡ Some s → (r : LinkRecords) × (o ≡ Some r)
there None s e = absurd (let never : ◌≡◌ {A = Option LinkSetting} None (Some s) = e in cc)
there (Some r) s e = (r, refl)

contexts_seen : (k : Concentrator) (l : ℕ) (r : LinkRecords) → IsInOrder k → get nat_eq k.links l ≡ Some r → contexts_of k l ≡ seen r.contexts.entries
contexts_seen k l r sound e = let is = is_link k l r e in contexts_are k l r is (subst (IsDistinct nat_eq) is.identifiers (sound.apart l))

-- what is listed is within what all are within
listed_within : (n : ℕ) (xs : List ℕ) (q : ℕ) → All (λ x. x ≤ n) xs → list_any (nat_eq q) xs ≡ true → q < n + 1
listed_within n [] q within e = cc
listed_within n (x ∷ xs) q within e = by (nat_eq q x) refl (λ rest. listed_within n xs q (All-tail (λ x. x ≤ n) x xs within) rest) e
  where
    by : (b : Bool) → nat_eq q x ≡ b → (list_any (nat_eq q) xs ≡ true → q < n + 1) → list_any (nat_eq q) (x ∷ xs) ≡ true → q < n + 1
    by true f rest e = let first : x ≤ n = All-head (λ x. x ≤ n) x xs within in let is : q ≡ x = grind (arith, nat_tests, f) in omega (arith, first, is)
    by false f rest e = rest (rw f at e)

greatest_few : (size : CidKind) → greatest_cid size ≤ 16383
greatest_few Small = omega arith
greatest_few Large = omega arith

pub good_of : (k : Concentrator) (s : LinkSetting) → IsInOrder k → setting_at k s.link ≡ Some s → s.link < 65536 → IsGoodSetting s → IsGoodLink (saved_link_of k s)
good_of k s sound at number good =
    let (r, e) = there (get nat_eq k.links s.link) s at in
    let is = is_link k s.link r e in
    let are = contexts_seen k s.link r sound e in
    let within : All (λ cid. cid ≤ s.settings.max_cid) (keys_of r.contexts.entries) = subst (All (λ cid. cid ≤ s.settings.max_cid)) is.identifiers (sound.within s.link s at) in
    let distinct : IsDistinct nat_eq (keys_of r.contexts.entries) = subst (IsDistinct nat_eq) is.identifiers (sound.apart s.link) in
    let max = good.settings_good.max_cid in
    let few = length-le_from_distinct_below (keys_of r.contexts.entries) (s.settings.max_cid + 1) distinct (λ q any. listed_within s.settings.max_cid (keys_of r.contexts.entries) q within any) in
    let bound = greatest_few s.settings.size in
    let count : length (seen r.contexts.entries) ≡ length (keys_of r.contexts.entries) = sym (length-map (seen r.contexts.entries) (λ c. c.0)) ∙ ap length (keys_seen r.contexts.entries) in
    record {
      number = number;
      greatest = max;
      few = subst (λ (cs : List (ℕ × Record)). length cs < 65536) (sym are) (omega (arith, few, bound, max, count));
      contexts = subst (All (IsGoodContext s.settings.max_cid)) (sym are) (good_seen s.settings.max_cid r.contexts.entries within);
      apart = subst (λ (cs : List (ℕ × Record)). IsDistinct nat_eq (map (λ (c : ℕ × Record). c.0) cs)) (sym are) (subst (IsDistinct nat_eq) (sym (keys_seen r.contexts.entries)) distinct);
    }

-- ---- All links

distinct_behind : (front ss : List LinkSetting) → IsDistinct nat_eq (numbers (front ++ ss)) → IsDistinct nat_eq (numbers ss)
distinct_behind [] ss distinct = distinct
distinct_behind (f ∷ front) ss distinct = distinct_behind front ss (IsDistinct-tail nat_eq f.link (numbers (front ++ ss)) distinct)

module _ (k : Concentrator) (sound : IsInOrder k) where
  distinct : IsDistinct nat_eq (numbers (settings_in_order k))
  distinct = links_apart (settings_in_order k) sound.settings.apart

  -- a setting stands for the link of its number
  stands : (front ss : List LinkSetting) (s : LinkSetting) → settings_in_order k ≡ front ++ s ∷ ss → (setting_at k s.link ≡ Some s) × (entry_of s.link (settings_in_order k) ≡ Some s)
  stands front ss s is =
      let entry : entry_of s.link (settings_in_order k) ≡ Some s = ap (entry_of s.link) is ∙ found front ss s (subst (λ xs. IsDistinct nat_eq (numbers xs)) is distinct) in
      (sound.each s.link ∙ entry, entry)

  all_good : (front ss : List LinkSetting) → settings_in_order k ≡ front ++ ss → All (λ (s : LinkSetting). s.link < 65536) ss → All IsGoodSetting ss → All IsGoodLink (map (saved_link_of k) ss)
  all_good front [] is small good = All-nil IsGoodLink
  all_good front (s ∷ ss) is small good =
      All-cons IsGoodLink (saved_link_of k s) (map (saved_link_of k) ss)
      (good_of k s sound (stands front ss s is).0 (All-head (λ (s : LinkSetting). s.link < 65536) s ss small) (All-head IsGoodSetting s ss good))
      (all_good (front ++ s ∷ []) ss (is ∙ sym (append_assoc front (s ∷ []) ss)) (All-tail (λ (s : LinkSetting). s.link < 65536) s ss small) (All-tail IsGoodSetting s ss good))

  numbers_kept : (ss : List LinkSetting) → map (λ (l : ℕ × Link). l.0) (map (saved_link_of k) ss) ≡ numbers ss
  numbers_kept [] = refl
  numbers_kept (s ∷ ss) = ap (λ ns. s.link ∷ ns) (numbers_kept ss)

  good_form : (moment : ℕ) → moment < 2 ^ 64 → IsGoodForm (form_of moment k)
  good_form moment small =
      let count = length-map (settings_in_order k) (saved_link_of k) in
      let few = sound.few in
      record {
        moment = small;
        few = omega (arith, count, few);
        links = all_good [] (settings_in_order k) refl sound.numbers sound.settings.good;
        apart = subst (IsDistinct nat_eq) (sym (numbers_kept (settings_in_order k))) distinct;
      }

  -- of a link all is taken
  pub takes_all : (s : LinkSetting) → entry_of s.link (settings_in_order k) ≡ Some s → IsGoodLink (saved_link_of k s) → taken_of (entry_of s.link (settings_in_order k)) (saved_link_of k s).1 ≡ contexts_of k s.link
  takes_all s entry good =
      ap (λ o. taken_of o (saved_link_of k s).1) entry
      ∙ ap (λ b. up_to (if b then Some s.settings.max_cid else None) (contexts_of k s.link)) (same_size s.settings.size)
      ∙ all_up_to s.settings.max_cid (contexts_of k s.link) good.contexts

  taken_is : (front ss : List LinkSetting) → settings_in_order k ≡ front ++ ss → All IsGoodLink (map (saved_link_of k) ss) → (l : ℕ)
      → taken_at (λ n. entry_of n (settings_in_order k)) (map (saved_link_of k) ss) l ≡ if_there (entry_of l ss) (contexts_of k l)
  taken_is front [] is good l = refl
  taken_is front (s ∷ ss) is good l =
      by (takes_all s (stands front ss s is).1 (All-head IsGoodLink (saved_link_of k s) (map (saved_link_of k) ss) good))
      (taken_is (front ++ s ∷ []) ss (is ∙ sym (append_assoc front (s ∷ []) ss)) (All-tail IsGoodLink (saved_link_of k s) (map (saved_link_of k) ss) good) l)
      (nat_eq s.link l) refl
    where
      own_part : List (ℕ × Record)
      own_part = taken_of (entry_of s.link (settings_in_order k)) (saved_link_of k s).1

      rest_part : List (ℕ × Record)
      rest_part = taken_at (λ n. entry_of n (settings_in_order k)) (map (saved_link_of k) ss) l

      later : s.link ≡ l → entry_of l ss ≡ None
      later e =
          subst (λ n. entry_of n ss ≡ None) e
          (absent s.link ss (IsDistinct-head nat_eq s.link (numbers ss) (distinct_behind front (s ∷ ss) (subst (λ xs. IsDistinct nat_eq (numbers xs)) is distinct))))

      by : own_part ≡ contexts_of k s.link → rest_part ≡ if_there (entry_of l ss) (contexts_of k l) → (b : Bool) → nat_eq s.link l ≡ b
          → own s.link own_part l ++ rest_part ≡ if_there (if nat_eq s.link l then Some s else entry_of l ss) (contexts_of k l)
      by whole rest true e =
          let at : s.link ≡ l = grind (arith, nat_tests, e) in
          let first : own s.link own_part l ≡ contexts_of k l = ap (λ b. if b then own_part else []) e ∙ whole ∙ ap (contexts_of k) at in
          let behind : rest_part ≡ [] = rest ∙ ap (λ o. if_there o (contexts_of k l)) (later at) in
          (λ i. first i ++ behind i) ∙ append-nil (contexts_of k l) ∙ sym (ap (λ b. if_there (if b then Some s else entry_of l ss) (contexts_of k l)) e)
      by whole rest false e =
          let first : own s.link own_part l ≡ [] = ap (λ b. if b then own_part else []) e in
          (λ i. first i ++ rest_part) ∙ rest ∙ sym (ap (λ b. if_there (if b then Some s else entry_of l ss) (contexts_of k l)) e)

  -- each link holds what is saved of it
  pub holds_own : (l : ℕ) → IsHeldAt k l (if_there (entry_of l (settings_in_order k)) (contexts_of k l))
  holds_own l = by (get nat_eq k.links l) refl
    where
      by : (o : Option LinkRecords) → get nat_eq k.links l ≡ o → IsHeldAt k l (if_there (entry_of l (settings_in_order k)) (contexts_of k l))
      by None e =
          let entry = sym (sound.each l) ∙ ap (option_map (λ (r : LinkRecords). r.setting)) e in
          subst (λ o. IsHeldAt k l (if_there o (contexts_of k l))) (sym entry) (record {
            identifiers = ap (λ (o : Option LinkRecords). unwrap_or (option_map (λ (r : LinkRecords). keys r.contexts) o) []) e;
            records = λ cid. ap (option_and_then (λ (r : LinkRecords). record_in r cid)) e;
          })
      by (Some r) e =
          let is = is_link k l r e in
          let entry = sym (sound.each l) ∙ is.setting in
          let held : IsHeldAt k l (seen r.contexts.entries) = record {
            identifiers = is.identifiers ∙ sym (keys_seen r.contexts.entries);
            records = λ cid. is.records cid ∙ sym (lookup_seen cid r.contexts.entries);
          } in
          subst (λ o. IsHeldAt k l (if_there o (contexts_of k l))) (sym entry) (subst (IsHeldAt k l) (sym (contexts_seen k l r sound e)) held)

  keeps : (moment : ℕ) → moment < 2 ^ 64 → (new : Concentrator) → Restores (settings_in_order k) (form_of moment k) new → KeepsAll k new
  keeps moment small new back =
      let set : ℕ → Option LinkSetting = λ n. entry_of n (settings_in_order k) in
      let links : List (ℕ × Link) = map (saved_link_of k) (settings_in_order k) in
      let made = keep_settings (puts_in set links) back.made new (all_puts_in KeepsTurn (λ n c. tt) set links) back.puts in
      let same : (l : ℕ) → IsHeldAt new l (if_there (entry_of l (settings_in_order k)) (contexts_of k l)) =
      λ l. subst (IsHeldAt new l) (taken_is [] (settings_in_order k) refl (good_form moment small).links l) (links_held set links l [] back.made new back.puts (holds_none back.made l (back.empty l))) in
      record {
        settings = record { each = λ l. made.each l ∙ back.each l ∙ sym (sound.each l); in_order = made.in_order ∙ back.in_order };
        records = λ l cid. (same l).records cid ∙ sym ((holds_own l).records cid);
        order = λ l. (same l).identifiers ∙ sym (holds_own l).identifiers;
      }

pub comes_back : ComesBack
comes_back k moment sound small =
    let reads = read_back (form_of moment k) (good_form k sound moment small) in (
      reads,
      λ form new e back.
          keeps k sound moment small new (subst (λ form. Restores (settings_in_order k) form new) (ok_is {E = SavedFault} form (form_of moment k) (sym e ∙ reads)) back),
    )
