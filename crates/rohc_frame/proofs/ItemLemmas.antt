use Rattle.std.proofs.Common.{◌≡◌, ℕ, zero, suc, ◌+◌, ◌-◌, ◌<◌, ◌≤◌, Bool, true, false, List, [], ◌∷◌, ◌++◌, length, take, drop, Option, Some, None, refl, sym, ◌∙◌, ap, arith, append_assoc, length-append}
use Rattle.std.specs.Prelude.{◌==◌, nat_le, if◌then◌else◌}
use Rattle.std.specs.List.{All}
use Rattle.std.specs.Option.{option_map_or}
use Rattle.std.proofs.lemmas.Bool.Decides.{nat_tests}
use Rattle.std.proofs.lemmas.List.{take-append-drop, length-take-le}
use Rattle.std.proofs.Math.Seq.{take-append_seam, drop-append_seam, drop-append-add}
use Rattle.std.proofs.lemmas.List.Elements.{All-nil, All-cons, All-head, All-tail}
use Rattle.rohc_frame.specs.Header.{is_within}
use Rattle.rohc_frame.specs.Items.{Item, Padding, Coded, Sized, IsItem, spelled, sized, coded, first_item, items_up_to, longest_items, after_items, all_spelled}

-- One item: the octets that are split off at the start are those of an item, and the octets of an item are split off.

-- if a choice between some and none gave something, its test holds
chosen : (b : Bool) (x y : Item × List ℕ) → (if b then Some x else None) ≡ Some y → (b ≡ true) × (x ≡ y)
chosen true x y e = (refl, cc)
chosen false x y e = cc

sized_fits : (octets : List ℕ) (item : Item) (rest : List ℕ) → sized octets ≡ Some (item, rest) → IsItem item × (240 ∷ octets ≡ spelled item ++ rest)
sized_fits [] item rest e = cc
sized_fits (size ∷ octets) item rest e =
    let split = chosen (nat_le size (length octets)) (Sized (take size octets), drop size octets) (item, rest) e in
    let enough : size ≤ length octets = grind (arith, nat_tests) in
    let is : Sized (take size octets) ≡ item = ap (λ (x : Item × List ℕ). x.0) split.1 in
    let behind : drop size octets ≡ rest = ap (λ (x : Item × List ℕ). x.1) split.1 in
    rw (← is, ← behind, length-take-le size octets enough, take-append-drop size octets) (tt, refl)

coded_fits : (code : ℕ) (octets : List ℕ) (item : Item) (rest : List ℕ) → 1 ≤ code → code ≤ 7 → coded code octets ≡ Some (item, rest) → IsItem item × ((240 + code) ∷ octets ≡ spelled item ++ rest)
coded_fits code octets item rest low high e =
    let split = chosen (nat_le code (length octets)) (Coded (take code octets), drop code octets) (item, rest) e in
    let enough : code ≤ length octets = grind (arith, nat_tests) in
    let is : Coded (take code octets) ≡ item = ap (λ (x : Item × List ℕ). x.0) split.1 in
    let behind : drop code octets ≡ rest = ap (λ (x : Item × List ℕ). x.1) split.1 in
    rw (← is, ← behind, length-take-le code octets enough, take-append-drop code octets) ((low, high), refl)

-- by cases of the first octet
cases_fit : (padding size code : Bool) (octet : ℕ) (octets : List ℕ) (item : Item) (rest : List ℕ) →
    (octet == 224) ≡ padding → (octet == 240) ≡ size → is_within 241 247 octet ≡ code →
    (if padding then Some (Padding, octets) else if size then sized octets else if code then coded (octet - 240) octets else None) ≡ Some (item, rest) →
    IsItem item × (octet ∷ octets ≡ spelled item ++ rest)
cases_fit true size code octet octets item rest p s c e =
    let split : ◌≡◌ {A = Item × List ℕ} (Padding, octets) (item, rest) = cc in
    let is : Padding ≡ item = ap (λ (x : Item × List ℕ). x.0) split in
    let behind : octets ≡ rest = ap (λ (x : Item × List ℕ). x.1) split in
    let first : octet ≡ 224 = grind (arith, nat_tests) in
    rw (← is, ← behind, first) (tt, refl)
cases_fit false true code octet octets item rest p s c e =
    let first : octet ≡ 240 = grind (arith, nat_tests) in
    rw first (sized_fits octets item rest e)
cases_fit false false true octet octets item rest p s c e =
    let low : 241 ≤ octet = grind (arith, nat_tests) in
    let high : octet ≤ 247 = grind (arith, nat_tests) in
    let first : 240 + (octet - 240) ≡ octet = omega arith in
    rw first at (coded_fits (octet - 240) octets item rest (omega arith) (omega arith) e)
cases_fit false false false octet octets item rest p s c e = cc

pub first_item_fits : (octets : List ℕ) (item : Item) (rest : List ℕ) → first_item octets ≡ Some (item, rest) → IsItem item × (octets ≡ spelled item ++ rest)
unfolding first_item
first_item_fits [] item rest e = cc
first_item_fits (octet ∷ octets) item rest e = cases_fit (octet == 224) (octet == 240) (is_within 241 247 octet) octet octets item rest refl refl refl e

-- as many octets as there are before the rest
enough_left : (octets rest : List ℕ) → nat_le (length octets) (length (octets ++ rest)) ≡ true
enough_left octets rest = let e = length-append octets rest in grind (arith, nat_tests)

coded_spelled : (octets rest : List ℕ) → coded (length octets) (octets ++ rest) ≡ Some (Coded octets, rest)
coded_spelled octets rest = rw (enough_left octets rest, take-append_seam octets rest, drop-append_seam octets rest) refl

pub first_item_spelled : (item : Item) (rest : List ℕ) → IsItem item → first_item (spelled item ++ rest) ≡ Some (item, rest)
unfolding first_item
first_item_spelled Padding rest is = refl
first_item_spelled (Coded octets) rest is =
    let padding : (240 + length octets == 224) ≡ false = grind (arith, nat_tests) in
    let size : (240 + length octets == 240) ≡ false = grind (arith, nat_tests) in
    let code : is_within 241 247 (240 + length octets) ≡ true = grind (arith, nat_tests) in
    let count : 240 + length octets - 240 ≡ length octets = omega arith in
    rw (padding, size, code, count) (coded_spelled octets rest)
first_item_spelled (Sized octets) rest is = rw (enough_left octets rest, take-append_seam octets rest, drop-append_seam octets rest) refl

-- an item has an octet at least
spelled_length : (item : Item) → 1 ≤ length (spelled item)
spelled_length Padding = omega arith
spelled_length (Coded octets) = omega arith
spelled_length (Sized octets) = omega arith

-- and so fewer are left behind it
pub first_item_shorter : (octets : List ℕ) (item : Item) (rest : List ℕ) → first_item octets ≡ Some (item, rest) → length rest < length octets
first_item_shorter octets item rest e =
    let whole = (first_item_fits octets item rest e).1 in
    omega (arith, spelled_length item, length-append (spelled item) rest, ap length whole)

-- The longest list of items is the same for any sufficient number of items that is asked for.

followed : ℕ → Option (Item × List ℕ) → List Item
followed n found = option_map_or (λ (split : Item × List ℕ). split.0 ∷ items_up_to n split.1) found []

same_followed : (n m : ℕ) (found : Option (Item × List ℕ)) → ((item : Item) (rest : List ℕ) → found ≡ Some (item, rest) → items_up_to n rest ≡ items_up_to m rest) → followed n found ≡ followed m found
unfolding followed
same_followed n m None same = refl
same_followed n m (Some split) same = ap (λ items. split.0 ∷ items) (same split.0 split.1 refl)

enough : (n m : ℕ) (octets : List ℕ) → length octets ≤ n → length octets ≤ m → items_up_to n octets ≡ items_up_to m octets
unfolding items_up_to first_item followed
enough zero zero octets l r = refl
enough zero (suc m) [] l r = refl
enough zero (suc m) (octet ∷ octets) l r = absurd (omega arith)
enough (suc n) zero [] l r = refl
enough (suc n) zero (octet ∷ octets) l r = absurd (omega arith)
enough (suc n) (suc m) octets l r = same_followed n m (first_item octets) (λ item rest e.
    let shorter = first_item_shorter octets item rest e in
    enough n m rest (omega arith) (omega arith))

-- without an item at the start there are no items
pub longest_items_none : (octets : List ℕ) → first_item octets ≡ None → longest_items octets ≡ []
unfolding longest_items items_up_to
longest_items_none [] e = refl
longest_items_none (octet ∷ octets) e = rw e refl

-- with an item at the start the items are that one and those of the rest
pub longest_items_some : (octets : List ℕ) (item : Item) (rest : List ℕ) → first_item octets ≡ Some (item, rest) → longest_items octets ≡ item ∷ longest_items rest
unfolding longest_items items_up_to first_item
longest_items_some [] item rest e = cc
longest_items_some (octet ∷ octets) item rest e =
    let shorter = first_item_shorter (octet ∷ octets) item rest e in
    rw e (ap (λ items. item ∷ items) (enough (length octets) (length rest) rest (omega arith) (omega arith)))

pub after_items_none : (octets : List ℕ) → first_item octets ≡ None → after_items octets ≡ octets
unfolding after_items
after_items_none octets e = rw (longest_items_none octets e) refl

pub after_items_some : (octets : List ℕ) (item : Item) (rest : List ℕ) → first_item octets ≡ Some (item, rest) → after_items octets ≡ after_items rest
unfolding after_items
after_items_some octets item rest e =
    let whole = (first_item_fits octets item rest e).1 in
    let items = longest_items_some octets item rest e in
    let more = all_spelled (longest_items rest) in
    rw items (rw whole (rw (length-append (spelled item) more) (drop-append-add (spelled item) rest (length more))))

-- The octets are those of the longest list of items and those after it, where no item stands.
pub record IsDivided (octets : List ℕ) : Type 0 where
  pub are_items : All IsItem (longest_items octets)
  pub whole : octets ≡ all_spelled (longest_items octets) ++ after_items octets
  pub ended : first_item (after_items octets) ≡ None

divided_by : (octets : List ℕ) (found : Option (Item × List ℕ)) → first_item octets ≡ found → ((item : Item) (rest : List ℕ) → found ≡ Some (item, rest) → IsDivided rest) → IsDivided octets
divided_by octets None e below = record {
  are_items = rw (longest_items_none octets e) (All-nil IsItem);
  whole = rw (longest_items_none octets e, after_items_none octets e) refl;
  ended = rw (after_items_none octets e) e;
}
divided_by octets (Some (item, rest)) e below =
    let fits = first_item_fits octets item rest e in
    let divided = below item rest refl in
    let items = longest_items_some octets item rest e in
    let after = after_items_some octets item rest e in
    record {
      are_items = rw items (All-cons IsItem item (longest_items rest) fits.0 divided.are_items);
      whole = rw (items, after) (fits.1 ∙ ap (λ more. spelled item ++ more) divided.whole ∙ sym (append_assoc (spelled item) (all_spelled (longest_items rest)) (after_items rest)));
      ended = rw after divided.ended;
    }

divided_within : (n : ℕ) (octets : List ℕ) → length octets ≤ n → IsDivided octets
divided_within zero octets l = divided_by octets (first_item octets) refl (λ item rest e.
    let shorter = first_item_shorter octets item rest e in absurd (omega arith))
divided_within (suc n) octets l = divided_by octets (first_item octets) refl (λ item rest e.
    let shorter = first_item_shorter octets item rest e in divided_within n rest (omega arith))

pub divided : (octets : List ℕ) → IsDivided octets
divided octets = divided_within (length octets) octets (omega arith)

-- And the longest list of items is the only one, where no item stands after it.
pub longest_items_only : (items : List Item) (after : List ℕ) → All IsItem items → first_item after ≡ None → (longest_items (all_spelled items ++ after) ≡ items) × (after_items (all_spelled items ++ after) ≡ after)
longest_items_only [] after are e = (longest_items_none after e, after_items_none after e)
longest_items_only (item ∷ items) after are e =
    let below = longest_items_only items after (All-tail IsItem item items are) e in
    let octets = all_spelled items ++ after in
    let first : first_item (spelled item ++ octets) ≡ Some (item, octets) = first_item_spelled item octets (All-head IsItem item items are) in
    rw (append_assoc (spelled item) (all_spelled items) after) (
      longest_items_some (spelled item ++ octets) item octets first ∙ ap (λ more. item ∷ more) below.0,
      after_items_some (spelled item ++ octets) item octets first ∙ below.1,
    )

-- No item stands whole where none can be split off, and the other way round.
pub first_item_none : (octets : List ℕ) → first_item octets ≡ None → (item : Item) (rest : List ℕ) → IsItem item → octets ≡ spelled item ++ rest → ⊥
first_item_none octets e item rest is whole =
    let found = first_item_spelled item rest is in
    let same : first_item octets ≡ first_item (spelled item ++ rest) = ap first_item whole in
    cc

none_of : (octets : List ℕ) (found : Option (Item × List ℕ)) → first_item octets ≡ found → ((item : Item) (rest : List ℕ) → IsItem item → octets ≡ spelled item ++ rest → ⊥) → found ≡ None
none_of octets None e missing = refl
none_of octets (Some (item, rest)) e missing =
    let fits = first_item_fits octets item rest e in
    absurd (missing item rest fits.0 fits.1)

pub none_first_item : (octets : List ℕ) → ((item : Item) (rest : List ℕ) → IsItem item → octets ≡ spelled item ++ rest → ⊥) → first_item octets ≡ None
none_first_item octets missing = none_of octets (first_item octets) refl missing
