use Rattle.std.proofs.Common.{◌≡◌, ℕ, ◌<◌, ◌≤◌, false, List, [], ◌∷◌, Option, Some, None, Result, Ok, Err, refl, sym, ◌∙◌, ap, ⊎_elim, arith}
use Rattle.std.proofs.lemmas.Bool.Decides.{nat_tests}
use Rattle.std.proofs.lemmas.Bool.{cases_lt}
use Rattle.rohc_frame.specs.declared.header.CidKind.{CidKind}
use Rattle.rohc_frame.specs.declared.header.CidKind.TheVariants.{Small, Large}
use Rattle.rohc_frame.specs.declared.refusal.FrameRefusal.{FrameRefusal}
use Rattle.rohc_frame.specs.Header.{Header, is_within}
use Rattle.rohc_frame.specs.Items.{first_item}
use Rattle.rohc_frame.specs.Parts.{header_parts, small_parts, large_parts}
use Rattle.rohc_frame.specs.Refused.{begins, rows, first_of_rows}

-- The first row that holds is the refusal of what stands after the items.

refusal_in : Result (Option Header) FrameRefusal → Option FrameRefusal
refusal_in (Ok header) = None
refusal_in (Err refusal) = Some refusal

small_rows : (max_cid : ℕ) (r : List ℕ) → (begins 224 224 r ≡ false) → refusal_in (small_parts max_cid r) ≡ first_of_rows (rows Small max_cid r)
unfolding refusal_in
small_rows max_cid [] not_padding = refl
small_rows max_cid (a ∷ []) not_padding = grind (arith, nat_tests)
small_rows max_cid (a ∷ b ∷ r) not_padding = grind (arith, nat_tests)

-- by the first octet of the identifier
large_one : (max_cid a b : ℕ) (r : List ℕ) → b < 128 → is_within 224 224 a ≡ false → refusal_in (large_parts max_cid (a ∷ b ∷ r)) ≡ first_of_rows (rows Large max_cid (a ∷ b ∷ r))
unfolding refusal_in
large_one max_cid a b [] one not_padding = grind (arith, nat_tests)
large_one max_cid a b (c ∷ r) one not_padding = grind (arith, nat_tests)

large_two : (max_cid a b : ℕ) (r : List ℕ) → 128 ≤ b → b < 192 → is_within 224 224 a ≡ false → refusal_in (large_parts max_cid (a ∷ b ∷ r)) ≡ first_of_rows (rows Large max_cid (a ∷ b ∷ r))
unfolding refusal_in
large_two max_cid a b [] more two not_padding = grind (arith, nat_tests)
large_two max_cid a b (c ∷ r) more two not_padding = grind (arith, nat_tests)

large_high : (max_cid a b : ℕ) (r : List ℕ) → 192 ≤ b → is_within 224 224 a ≡ false → refusal_in (large_parts max_cid (a ∷ b ∷ r)) ≡ first_of_rows (rows Large max_cid (a ∷ b ∷ r))
unfolding refusal_in
large_high max_cid a b [] high not_padding = grind (arith, nat_tests)
large_high max_cid a b (c ∷ r) high not_padding = grind (arith, nat_tests)

large_rows : (max_cid : ℕ) (r : List ℕ) → (begins 224 224 r ≡ false) → refusal_in (large_parts max_cid r) ≡ first_of_rows (rows Large max_cid r)
unfolding refusal_in
large_rows max_cid [] not_padding = grind (arith, nat_tests)
large_rows max_cid (a ∷ []) not_padding = grind (arith, nat_tests)
large_rows max_cid (a ∷ b ∷ r) not_padding = ⊎_elim
    (λ (one : b < 128). large_one max_cid a b r one not_padding)
    (λ (more : 128 ≤ b). ⊎_elim
    (λ (two : b < 192). large_two max_cid a b r more two not_padding)
    (λ (high : 192 ≤ b). large_high max_cid a b r high not_padding)
    (cases_lt b 192))
    (cases_lt b 128)

-- the octets after the items do not begin with padding
no_padding : (r : List ℕ) → first_item r ≡ None → begins 224 224 r ≡ false
unfolding first_item
no_padding [] e = refl
no_padding (a ∷ r) e = grind (arith, nat_tests)

same_refusal : (size : CidKind) (max_cid : ℕ) (r : List ℕ) → first_item r ≡ None → refusal_in (header_parts size max_cid r) ≡ first_of_rows (rows size max_cid r)
unfolding header_parts
same_refusal Small max_cid r e = small_rows max_cid r (no_padding r e)
same_refusal Large max_cid r e = large_rows max_cid r (no_padding r e)

refused : (parts : Result (Option Header) FrameRefusal) (refusal : FrameRefusal) → refusal_in parts ≡ Some refusal → parts ≡ Err refusal
unfolding refusal_in
refused (Ok header) refusal e = cc
refused (Err other) refusal e = cc

-- the first row that holds is the refusal, and the refusal is that of the first row that holds
pub rows_from_parts : (size : CidKind) (max_cid : ℕ) (r : List ℕ) (refusal : FrameRefusal) → first_item r ≡ None → header_parts size max_cid r ≡ Err refusal → first_of_rows (rows size max_cid r) ≡ Some refusal
unfolding refusal_in
rows_from_parts size max_cid r refusal none e = sym (same_refusal size max_cid r none) ∙ ap refusal_in e

pub parts_from_rows : (size : CidKind) (max_cid : ℕ) (r : List ℕ) (refusal : FrameRefusal) → first_item r ≡ None → first_of_rows (rows size max_cid r) ≡ Some refusal → header_parts size max_cid r ≡ Err refusal
parts_from_rows size max_cid r refusal none e = refused (header_parts size max_cid r) refusal (same_refusal size max_cid r none ∙ e)
