-- Each field of a header is meant exactly once.
use Rattle.std.proofs.Common.{◌≡◌, ℕ, ◌+◌, ◌/◌, ◌%◌, ◌^◌, ◌<◌, Option, Some, None, ℤ, pos, ◌+ℤ◌, ◌-ℤ◌, ◌*ℤ◌, refl, sym, ap, ◌∙◌, arith}
use Rattle.std.specs.Prelude.{IfSome}
use Rattle.std.proofs.lemmas.Int.{ints}
use Rattle.rohc_bits.specs.LowBits.{LowBits}
use Rattle.rohc_lsb.specs.Interval.{LiesInInterval, modulo, ExactlyOne, p_of_sn, p_of_ts}
use Rattle.rohc_lsb.specs.Fields.{AgreesInSn, AgreesWithoutBits, AgreesInOffset, offset_of, OneSn, OneTimestamp, OneIdentification}
use Rattle.rohc_lsb.proofs.Meant.{meant_as, one_value, modulo_below}
use Rattle.rohc_lsb.proofs.Offsets.{offset_below, offset_there, offset_once}

-- a field that is a function of the value that the bits mean
pub of_one_value : (f : ℤ → ℕ) (reference : ℤ) (bits : LowBits) (p : ℕ) → bits.value < 2 ^ bits.count →
    ExactlyOne (λ (n : ℕ). (v : ℤ) × LiesInInterval reference bits p v × (n ≡ f v))
of_one_value f reference bits p fits =
    let (v, lies, once) = one_value reference bits p fits in
    (f v, (v, lies, refl), λ other meant. meant.2 ∙ ap f (once meant.0 meant.1))

-- numbers that agree come from one value
sn_once : (reference shift : ℕ) (bits : LowBits) (v : ℤ) (sn : ℕ) (steps : ℤ) →
    ((w : ℤ) → LiesInInterval (pos (reference + shift)) bits (p_of_sn bits.count) w → w ≡ v) →
    AgreesInSn reference shift bits sn steps →
    ◌≡◌ {A = ℕ × ℤ} (sn, steps) (modulo (pos reference +ℤ (v -ℤ pos reference)) (2 ^ 16), v -ℤ pos reference)
sn_once reference shift bits v sn steps once agrees =
    let value : pos reference +ℤ steps ≡ v = once (pos reference +ℤ steps) agrees.0 in
    let steps_are : steps ≡ v -ℤ pos reference = omega (arith, ints) in
    let number : sn ≡ modulo (pos reference +ℤ (v -ℤ pos reference)) (2 ^ 16) =
    agrees.1 ∙ ap (λ (s : ℤ). modulo (pos reference +ℤ s) (2 ^ 16)) steps_are in
    cc

pub one_sn : OneSn
one_sn reference shift bits fits =
    let (v, lies, once) = one_value (pos (reference + shift)) bits (p_of_sn bits.count) fits in
    let back : pos reference +ℤ (v -ℤ pos reference) ≡ v = omega (arith, ints) in (
      (modulo (pos reference +ℤ (v -ℤ pos reference)) (2 ^ 16), v -ℤ pos reference),
      (meant_as (pos (reference + shift)) bits (p_of_sn bits.count) v (pos reference +ℤ (v -ℤ pos reference)) lies (sym back), refl),
      λ other agrees. sn_once reference shift bits v other.0 other.1 once agrees,
    )

without_bits : (reference : ℕ) (stride : Option ℕ) (steps : ℤ) → ExactlyOne (AgreesWithoutBits reference stride steps)
without_bits reference None steps = (reference, refl, λ other e. e)
without_bits reference (Some stride) steps = (modulo (pos reference +ℤ steps *ℤ pos stride) (2 ^ 32), refl, λ other e. e)

pub one_timestamp : OneTimestamp
one_timestamp = record {
  without_bits = without_bits;
  scaled = λ reference stride bits fits. of_one_value (λ v. modulo (v *ℤ pos stride +ℤ pos (reference % stride)) (2 ^ 32)) (pos (reference / stride)) bits (p_of_ts bits.count) fits;
  unscaled = λ reference bits fits. of_one_value (λ v. modulo v (2 ^ 32)) (pos reference) bits (p_of_ts bits.count) fits;
}

-- exactly one offset of 16 bits agrees
one_offset : (reference : ℕ) (bits : Option LowBits) → reference < 2 ^ 16 → IfSome bits (λ b. b.value < 2 ^ b.count) →
    ExactlyOne (λ (offset : ℕ). (offset < 2 ^ 16) × AgreesInOffset reference bits offset)
one_offset reference None range fits = (reference, (range, refl), λ other agrees. agrees.1)
one_offset reference (Some bits) range fits =
    let (offset, meant, once) = of_one_value (λ v. modulo v (2 ^ 16)) (pos reference) bits 0 fits in
    let below : offset < 2 ^ 16 = rw meant.2 (modulo_below meant.0 (2 ^ 16) (omega arith)) in
    (offset, (below, meant), λ other agrees. once other agrees.1)

pub one_identification : OneIdentification
one_identification nbo reference_sn reference_id sn bits fits =
    let reference = offset_of nbo reference_sn reference_id in
    let (offset, agrees, once) = one_offset reference bits (offset_below nbo reference_sn reference_id) fits in
    let (id, small, is) = offset_there nbo sn offset agrees.0 in (
      id,
      (small, rw is agrees.1),
      λ other meant. offset_once nbo sn other id meant.0 small (once (offset_of nbo sn other) (offset_below nbo sn other, meant.1) ∙ sym is),
    )
