-- A small identifier in front of feedback.
use Rattle.std.proofs.Common.{◌≡◌, ℕ, zero, suc, ◌+◌, ◌%◌, ◌≤◌, List, [], ◌∷◌, ◌++◌, ◌==◌, if◌then◌else◌, false, get_or, bit_and, ap, ◌∙◌, arith}
use Rattle.std.proofs.lemmas.Nat.{and_mask}
use Rattle.std.proofs.lemmas.Bool.Decides.{nat_tests}
use Rattle.rohc_frame.specs.declared.header.CidKind.TheVariants.{Small}
use Rattle.rohc_feedback.specs.Element.{identifier_octets}
use Rattle.rohc_feedback.specs.Split.{BeginsFeedback}
use Rattle.rohc_feedback.proofs.Spelled.{add_cid_of}

-- a small identifier's octets by arithmetic
pub small_is : (cid : ℕ) (text feedback : List ℕ) → cid ≤ 15 → text ≡ identifier_octets Small cid ++ feedback → text ≡ (if cid == 0 then [] else (224 + cid) ∷ []) ++ feedback
small_is cid text feedback four_bits is = is ∙ ap (λ xs. (if cid == 0 then [] else xs) ++ feedback) (add_cid_of cid four_bits)

-- what stands behind an Add-CID octet, and its low four bits
pub split_small : (cid value : ℕ) (octets feedback : List ℕ) → cid ≤ 15 → 225 ≤ get_or octets 0 0 → BeginsFeedback feedback →
    octets ≡ identifier_octets Small cid ++ feedback → value ≡ bit_and (get_or octets 0 0) 15 → (value ≡ cid) × (octets ≡ (224 + cid) ∷ feedback)
split_small zero value octets [] four_bits high begins is low = absurd begins
split_small zero value octets (first ∷ rest) four_bits high begins is low = absurd (omega (arith, rw is at high, begins))
split_small (suc n) value octets feedback four_bits high begins is low =
    let test : (suc n == 0) ≡ false = grind (arith, nat_tests) in
    let plain : octets ≡ (224 + suc n) ∷ feedback = rw test at (small_is (suc n) octets feedback four_bits is) in
    let mask : bit_and (get_or octets 0 0) 15 ≡ get_or octets 0 0 % 16 = and_mask (get_or octets 0 0) 4 in
    let first : get_or octets 0 0 ≡ 224 + suc n = ap (λ xs. get_or xs 0 0) plain in
    (omega (arith, low, mask, first), plain)
