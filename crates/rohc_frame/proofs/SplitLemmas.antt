use Rattle.std.proofs.Common.{◌≡◌, ◌≢◌, ℕ, ◌<◌, false, List, [], ◌∷◌, length, Option, Some, None, refl, sym, ◌∙◌, ap, arith}
use Rattle.std.specs.Prelude.{◌==◌}
use Rattle.std.proofs.lemmas.Bool.Decides.{nat_tests}
use Rattle.rohc_frame.specs.Header.{is_within}
use Rattle.rohc_frame.specs.Items.{Item, contents, first_item, longest_items, elements_in, after_items, all_contents}
use Rattle.std.specs.List.{cons_option}
use Rattle.rohc_frame.specs.Read.{split_of}
use Rattle.rohc_frame.proofs.ItemLemmas.{first_item_shorter, longest_items_none, longest_items_some, after_items_none, after_items_some}

-- What the code splits off, against the definitions.

found_some : (found : Option (Item × List ℕ)) (wanted : Option (List ℕ)) (rest : List ℕ) → split_of found ≡ Some (wanted, rest) → (item : Item) × (found ≡ Some (item, rest)) × (contents item ≡ wanted)
found_some None wanted rest e = cc
found_some (Some (item, behind)) wanted rest e =
    let split : ◌≡◌ {A = Option (List ℕ) × List ℕ} (contents item, behind) (wanted, rest) = cc in
    let same : behind ≡ rest = ap (λ (x : Option (List ℕ) × List ℕ). x.1) split in
    (item, rw same refl, ap (λ (x : Option (List ℕ) × List ℕ). x.0) split)

found_none : (found : Option (Item × List ℕ)) → split_of found ≡ None → found ≡ None
found_none None e = refl
found_none (Some split) e = cc

-- a step over an item leaves fewer octets, the same octets after the items, and its data comes first
pub record IsStep (octets : List ℕ) (item_contents : Option (List ℕ)) (rest : List ℕ) : Type 0 where
  pub shorter : length rest < length octets
  pub after : after_items octets ≡ after_items rest
  pub elements : elements_in octets ≡ cons_option item_contents (elements_in rest)

pub split_step : (octets : List ℕ) (item_contents : Option (List ℕ)) (rest : List ℕ) → Some (item_contents, rest) ≡ split_of (first_item octets) → IsStep octets item_contents rest
unfolding elements_in
split_step octets item_contents rest e =
    let found = found_some (first_item octets) item_contents rest (sym e) in
    record {
      shorter = first_item_shorter octets found.0 rest found.1;
      after = after_items_some octets found.0 rest found.1;
      elements = ap all_contents (longest_items_some octets found.0 rest found.1) ∙ ap (λ x. cons_option x (all_contents (longest_items rest))) found.2;
    }

-- where nothing is split off, the items have ended
pub split_end : (octets : List ℕ) → None ≡ split_of (first_item octets) → (after_items octets ≡ octets) × (elements_in octets ≡ [])
unfolding elements_in
split_end octets e =
    let none = found_none (first_item octets) (sym e) in
    (after_items_none octets none, ap all_contents (longest_items_none octets none))

-- an octet below F0 that isn't padding begins no item
no_item_at : (octets : List ℕ) (first : ℕ) (behind : List ℕ) → octets ≡ first ∷ behind → first < 240 → first ≢ 224 → first_item octets ≡ None
unfolding first_item
no_item_at octets first behind is low other =
    let padding : (first == 224) ≡ false = grind (arith, nat_tests) in
    let size : (first == 240) ≡ false = grind (arith, nat_tests) in
    let code : is_within 241 247 first ≡ false = grind (arith, nat_tests) in
    rw (is, padding, size, code) refl

pub items_end_at : (octets : List ℕ) (first : ℕ) (behind : List ℕ) → octets ≡ first ∷ behind → first < 240 → first ≢ 224 → after_items octets ≡ octets
items_end_at octets first behind is low other = after_items_none octets (no_item_at octets first behind is low other)

pub no_elements_at : (octets : List ℕ) (first : ℕ) (behind : List ℕ) → octets ≡ first ∷ behind → first < 240 → first ≢ 224 → elements_in octets ≡ []
unfolding elements_in
no_elements_at octets first behind is low other = ap all_contents (longest_items_none octets (no_item_at octets first behind is low other))

pub no_elements_in_none : elements_in [] ≡ []
unfolding elements_in first_item
no_elements_in_none = ap all_contents (longest_items_none [] refl)
