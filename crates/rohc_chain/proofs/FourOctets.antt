use Rattle.std.proofs.Common.{◌≡◌, ℕ, ◌<◌, List, [], ◌∷◌, ◌++◌, length, refl, arith}
use Rattle.std.specs.Prelude.{Ok, Err}
use Rattle.rohc_bits.specs.Reading.{next_octet}
use Rattle.rohc_chain.specs.declared.refusal.ChainRefusal.TheVariants.{Truncated}
use Rattle.rohc_chain.specs.Octets.{read, four_octets_at}

-- Four octets are read as they stand, and fewer are truncated.

pub four_taken : (front rest : List ℕ) → length front ≡ 4 → read four_octets_at (front ++ rest) ≡ Ok (front, rest)
unfolding four_octets_at next_octet
four_taken (a ∷ b ∷ c ∷ d ∷ []) rest four = refl
four_taken [] rest four = absurd (omega (arith, four))
four_taken (a ∷ []) rest four = absurd (omega (arith, four))
four_taken (a ∷ b ∷ []) rest four = absurd (omega (arith, four))
four_taken (a ∷ b ∷ c ∷ []) rest four = absurd (omega (arith, four))
four_taken (a ∷ b ∷ c ∷ d ∷ e ∷ front) rest four = absurd (omega (arith, four))

pub four_short : (octets : List ℕ) → length octets < 4 → read four_octets_at octets ≡ Err Truncated
unfolding four_octets_at next_octet
four_short [] few = refl
four_short (a ∷ []) few = refl
four_short (a ∷ b ∷ []) few = refl
four_short (a ∷ b ∷ c ∷ []) few = refl
four_short (a ∷ b ∷ c ∷ d ∷ octets) few = absurd (omega (arith, few))
