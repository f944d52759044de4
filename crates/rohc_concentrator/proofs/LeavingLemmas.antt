-- What is left of the records of a link.
use Rattle.std.proofs.Common.{◌≡◌, ℕ, List, [], ◌∷◌, Bool, true, false, cond, filter, Option, Some, None, nat_eq, refl, sym, ap, ◌∙◌, subst, arith, is_some, if◌then◌else◌}
use Rattle.std.specs.Option.{option_map}
use Rattle.std.specs.List.{AllByRecursion, IsDistinct}
use Rattle.std.specs.Map.{keys_of, lookup}
use Rattle.std.specs.HashMap.{IsUnique}
use Rattle.std.proofs.lemmas.Bool.Decides.{nat_tests}
use Rattle.std.proofs.lemmas.Map.Keys.{IsDistinct-head, IsDistinct-tail}
use Rattle.rohc_context.specs.declared.record.Context.{Context}
use Rattle.rohc_context.specs.Record.{Record, record_of}
use Rattle.rohc_concentrator.specs.declared.records.LinkRecords.{LinkRecords}
use Rattle.rohc_concentrator.specs.Leaving.{left_of, LeavesIn}

-- a filter by tests that agree on each item
filter_same : (f g : ℕ → Bool) (xs : List ℕ) → AllByRecursion (λ x. f x ≡ g x) xs → filter f xs ≡ filter g xs
filter_same f g [] a = refl
filter_same f g (x ∷ xs) a = λ i. cond (a.0 i) (x ∷ filter_same f g xs a.1 i) (filter_same f g xs a.1 i)

each_by : {P Q : ℕ → Type 0} → ((x : ℕ) → P x → Q x) → (xs : List ℕ) → AllByRecursion P xs → AllByRecursion Q xs
each_by f [] a = tt
each_by f (x ∷ xs) a = (f x a.0, each_by f xs a.1)

is_some_if : (b : Bool) (r : Record) → is_some (if b then Some r else None) ≡ b
is_some_if true r = refl
is_some_if false r = refl

module _ (passes : ℕ → Record → Bool) where
  abbrev test : ℕ × Context → Bool
  test e = passes e.0 (record_of e.1)

  -- what is left where a CID is looked up
  abbrev found : List (ℕ × Context) → ℕ → Option Record
  found es cid = option_map record_of (lookup (nat_eq cid) es)

  none_left : (cid : ℕ) (es : List (ℕ × Context)) → AllByRecursion (λ y. nat_eq cid y ≡ false) (keys_of es) → lookup (nat_eq cid) (filter test es) ≡ None
  none_left cid [] a = refl
  none_left cid (e ∷ es) a = by (test e) (none_left cid es a.1)
    where
      by : (t : Bool) → lookup (nat_eq cid) (filter test es) ≡ None → lookup (nat_eq cid) (cond t (e ∷ filter test es) (filter test es)) ≡ None
      by true later = rw a.0 later
      by false later = later

  value_left : (cid : ℕ) (es : List (ℕ × Context)) → IsDistinct nat_eq (keys_of es) → found (filter test es) cid ≡ left_of passes cid (found es cid)
  value_left cid [] d = refl
  value_left cid (e ∷ es) d = by (nat_eq cid e.0) (test e) refl refl (value_left cid es (IsDistinct-tail nat_eq e.0 (keys_of es) d))
    where
      by : (b t : Bool) → nat_eq cid e.0 ≡ b → test e ≡ t → found (filter test es) cid ≡ left_of passes cid (found es cid)
          → option_map record_of (lookup (nat_eq cid) (cond t (e ∷ filter test es) (filter test es))) ≡ left_of passes cid (option_map record_of (cond b (Some e.1) (lookup (nat_eq cid) es)))
      by true true same passed later =
          let is : e.0 ≡ cid = grind (arith, nat_tests) in
          let here : passes cid (record_of e.1) ≡ true = subst (λ n. passes n (record_of e.1) ≡ true) is passed in
          rw (same, here) refl
      by true false same failed later =
          let is : e.0 ≡ cid = grind (arith, nat_tests) in
          let here : passes cid (record_of e.1) ≡ false = subst (λ n. passes n (record_of e.1) ≡ false) is failed in
          let none = none_left cid es (subst (λ n. AllByRecursion (λ y. nat_eq n y ≡ false) (keys_of es)) is (IsDistinct-head nat_eq e.0 (keys_of es) d)) in
          rw (here, none) refl
      by false true other passed later = rw other later
      by false false other failed later = later

  abbrev left_in : List (ℕ × Context) → ℕ → Bool
  left_in xs cid = is_some (left_of passes cid (found xs cid))

  keys_left : (es : List (ℕ × Context)) → IsDistinct nat_eq (keys_of es) → keys_of (filter test es) ≡ filter (λ cid. is_some (left_of passes cid (found es cid))) (keys_of es)
  keys_left [] d = refl
  keys_left (e ∷ es) d = by (test e) own (keys_left es (IsDistinct-tail nat_eq e.0 (keys_of es) d) ∙ sym (filter_same (left_in (e ∷ es)) (left_in es) (keys_of es) others))
    where
      own : left_in (e ∷ es) e.0 ≡ test e
      own = let same : nat_eq e.0 e.0 ≡ true = grind (arith, nat_tests) in rw same (is_some_if (test e) (record_of e.1))

      others : AllByRecursion (λ x. left_in (e ∷ es) x ≡ left_in es x) (keys_of es)
      others = each_by (λ x another. let other : nat_eq x e.0 ≡ false = grind (arith, nat_tests) in rw other refl) (keys_of es) (IsDistinct-head nat_eq e.0 (keys_of es) d)

      by : (t : Bool) → left_in (e ∷ es) e.0 ≡ t → keys_of (filter test es) ≡ filter (left_in (e ∷ es)) (keys_of es)
          → keys_of (cond t (e ∷ filter test es) (filter test es)) ≡ cond (left_in (e ∷ es) e.0) (e.0 ∷ filter (left_in (e ∷ es)) (keys_of es)) (filter (left_in (e ∷ es)) (keys_of es))
      by true is later = rw is (ap (λ ks. e.0 ∷ ks) later)
      by false is later = rw is later

  -- records that are filtered are those that are left
  pub leaves_in : (old new : LinkRecords) → IsUnique nat_eq old.contexts → new.contexts.entries ≡ filter (λ e. passes e.0 (record_of e.1)) old.contexts.entries → LeavesIn old passes new
  leaves_in old new unique filtered = record {
    records = λ cid. ap (λ es. found es cid) filtered ∙ value_left cid old.contexts.entries unique;
    order = ap keys_of filtered ∙ keys_left old.contexts.entries unique;
  }
