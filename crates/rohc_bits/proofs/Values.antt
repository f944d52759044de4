-- Which values one to four octets spell.
use Rattle.std.proofs.Common.{◌≡◌, ℕ, zero, suc, ◌+◌, ◌/◌, ◌%◌, ◌^◌, ◌<◌, ◌≤◌, inl, inr, List, [], ◌∷◌, length, refl, sym, ◌∙◌, subst, arith}
use Rattle.std.proofs.lemmas.Bool.Decides.{nat_tests}
use Rattle.std.proofs.lemmas.List.Elements.{All-nil, All-cons}
use Rattle.rohc_bits.specs.Spelling.{IsSpelled, Spells}
use Rattle.rohc_bits.specs.Fronts.{EachValueOfItsBits, value_bits}
use Rattle.rohc_bits.proofs.Arithmetic.{EachFigure, Octets, figures, is_spelled}

greatest : (text : List ℕ) (value : ℕ) → EachFigure text value → value ≤ 536870911
greatest text value (inl f) = omega (arith, f.below)
greatest text value (inr (inl f)) = omega (arith, f.below)
greatest text value (inr (inr (inl f))) = omega (arith, f.below)
greatest text value (inr (inr (inr f))) = omega (arith, f.below)

-- the greatest value that any text spells
pub value_bound : (text : List ℕ) (value : ℕ) → Spells text value → value ≤ 536870911
value_bound text value s = greatest text value (figures text value s)

range_of : (count : ℕ) → (7 ≤ value_bits count) × (value_bits count ≤ 29)
range_of count = (grind (arith, nat_tests), grind (arith, nat_tests))

below : (count value : ℕ) (text : List ℕ) → length text ≡ count → EachFigure text value → value < 2 ^ value_bits count
below count value text is (inl f) = subst (λ n. value < 2 ^ value_bits n) (sym f.counted ∙ is) f.below
below count value text is (inr (inl f)) = subst (λ n. value < 2 ^ value_bits n) (sym f.counted ∙ is) f.below
below count value text is (inr (inr (inl f))) = subst (λ n. value < 2 ^ value_bits n) (sym f.counted ∙ is) f.below
below count value text is (inr (inr (inr f))) = subst (λ n. value < 2 ^ value_bits n) (sym f.counted ∙ is) f.below

-- a value has no more bits than are said
pub value_fits : (text : List ℕ) (value : ℕ) → Spells text value → value < 2 ^ value_bits (length text)
value_fits text value s = below (length text) value text refl (figures text value s)

-- as many bits as are said
pub value_range : (text : List ℕ) (value : ℕ) → Spells text value → (7 ≤ value_bits (length text)) × (value_bits (length text) ≤ 29)
value_range text value s = range_of (length text)

behind : (a : ℕ) (text : List ℕ) → a < 256 → Octets text → Octets (a ∷ text)
behind a text range all = All-cons (λ octet. octet < 256) a text range all

none : Octets []
none = All-nil (λ octet. octet < 256)

spelling : (count value : ℕ) → 1 ≤ count → count ≤ 4 → value < 2 ^ value_bits count → (text : List ℕ) × (length text ≡ count) × IsSpelled text value
spelling zero v least most range = absurd (omega arith)
spelling (suc zero) v least most range =
    (v ∷ [], refl, is_spelled (v ∷ []) v (behind v [] (omega arith) none) (omega arith, refl))
spelling (suc (suc zero)) v least most range =
    let a = 128 + v / 256 in
    let b = v % 256 in (
      a ∷ b ∷ [],
      refl,
      is_spelled (a ∷ b ∷ []) v
          (behind a (b ∷ []) (omega arith) (behind b [] (omega arith) none)) (omega arith, omega arith),
    )
spelling (suc (suc (suc zero))) v least most range =
    let a = 192 + v / 65536 in
    let b = v / 256 % 256 in
    let c = v % 256 in (
      a ∷ b ∷ c ∷ [],
      refl,
      is_spelled (a ∷ b ∷ c ∷ []) v
          (behind a (b ∷ c ∷ []) (omega arith) (behind b (c ∷ []) (omega arith) (behind c [] (omega arith) none))) (omega arith, omega arith),
    )
spelling (suc (suc (suc (suc zero)))) v least most range =
    let a = 224 + v / 16777216 in
    let b = v / 65536 % 256 in
    let c = v / 256 % 256 in
    let d = v % 256 in (
      a ∷ b ∷ c ∷ d ∷ [],
      refl,
      is_spelled (a ∷ b ∷ c ∷ d ∷ []) v
          (behind a (b ∷ c ∷ d ∷ []) (omega arith) (behind b (c ∷ d ∷ []) (omega arith) (behind c (d ∷ []) (omega arith) (behind d [] (omega arith) none))))
          (omega arith, omega arith),
    )
spelling (suc (suc (suc (suc (suc count))))) v least most range = absurd (omega arith)

pub each_value_of_its_bits : EachValueOfItsBits
each_value_of_its_bits = λ count value least most. (
  λ is. below count value is.0 is.1 (figures is.0 value is.2.spells),
  λ range. spelling count value least most range,
)
