-- Single bits of a text.
use Rattle.std.proofs.Common.{◌≡◌, ◌==◌, ℕ, zero, suc, ◌+◌, ◌-◌, ◌*◌, ◌/◌, ◌%◌, ◌^◌, ◌<◌, Bool, false, if◌then◌else◌, List, [], ◌∷◌, length, take, drop, refl, sym, ap, ◌∙◌, arith}
use Rattle.std.specs.Prelude.{get_or}
use Rattle.std.proofs.Math.Seq.{take-suc}
use Rattle.std.proofs.lemmas.List.{get_or-drop, length-drop}
use Rattle.rohc_bits.specs.Bits.{bits, number, bits_of}
use Rattle.rohc_explain.specs.Told.{number_at}
use Rattle.rohc_bits.proofs.BitLists.{number-append, length-bits_of}

pub bit_in : (octets : List ℕ) (place : ℕ) → place < 8 * length octets →
    get_or (bits_of octets) place false ≡ (get_or octets (place / 8) 0 / 2 ^ (7 - place % 8) % 2 == 1)
unfolding bits
bit_in [] place below = absurd (omega (arith, below))
bit_in (a ∷ more) zero below = refl
bit_in (a ∷ more) (suc zero) below = refl
bit_in (a ∷ more) (suc (suc zero)) below = refl
bit_in (a ∷ more) (suc (suc (suc zero))) below = refl
bit_in (a ∷ more) (suc (suc (suc (suc zero)))) below = refl
bit_in (a ∷ more) (suc (suc (suc (suc (suc zero))))) below = refl
bit_in (a ∷ more) (suc (suc (suc (suc (suc (suc zero)))))) below = refl
bit_in (a ∷ more) (suc (suc (suc (suc (suc (suc (suc zero))))))) below = refl
bit_in (a ∷ more) (suc (suc (suc (suc (suc (suc (suc (suc p)))))))) below =
    let quotient : suc (suc (suc (suc (suc (suc (suc (suc p))))))) / 8 ≡ suc (p / 8) = omega arith in
    let remainder : suc (suc (suc (suc (suc (suc (suc (suc p))))))) % 8 ≡ p % 8 = omega arith in
    rw (quotient, remainder) (bit_in more p (omega (arith, below)))

-- a number with one more bit
pub next_bit : (octets : List ℕ) (first k : ℕ) (b : Bool) → b ≡ get_or (bits_of octets) (first + k) false → first + k < 8 * length octets →
    number (take (suc k) (drop first (bits_of octets))) ≡ number (take k (drop first (bits_of octets))) * 2 + (if b then 1 else 0)
unfolding number
next_bit octets first k b e below =
    let xs : List Bool = drop first (bits_of octets) in
    let there : k < length xs = omega (arith, length-drop first (bits_of octets), length-bits_of octets, below) in
    let last : get_or xs k false ≡ b = get_or-drop first (bits_of octets) k false ∙ sym e in
    ap number (take-suc xs k false there) ∙ number-append (take k xs) (get_or xs k false ∷ [])
    ∙ rw last (omega arith)

pub one_more : (octets : List ℕ) (first k place : ℕ) (b : Bool) (v w : ℕ) → place ≡ first + k → b ≡ get_or (bits_of octets) place false →
    place < 8 * length octets → v ≡ number_at octets first k → w ≡ v * 2 + (if b then 1 else 0) → w ≡ number_at octets first (k + 1)
one_more octets first k place b v w there e below before after =
    let more : suc k ≡ k + 1 = omega arith in
    let here : b ≡ get_or (bits_of octets) (first + k) false = e ∙ ap (λ j. get_or (bits_of octets) j false) there in
    after ∙ ap (λ j. j * 2 + (if b then 1 else 0)) before ∙ sym (next_bit octets first k b here (omega (arith, below, there)))
    ∙ ap (λ j. number_at octets first j) more
