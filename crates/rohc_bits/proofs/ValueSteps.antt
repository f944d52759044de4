-- A self-describing value that is read stands at the front, and one that stands there is read.
use Rattle.std.proofs.Common.{◌≡◌, ℕ, List, ◌++◌, length, drop, Option, Some, None, Ok, sym, ap, subst, refl, ◌∙◌}
use Rattle.rohc_bits.specs.LowBits.{LowBits}
use Rattle.rohc_bits.specs.Reading.{value_or, next_value}
use Rattle.rohc_bits.specs.Fronts.{front_value, value_bits}
use Rattle.rohc_bits.specs.Spelling.{Spells}
use Rattle.rohc_bits.proofs.Fronts.{front_read, front_found, drop_front, behind_value}
use Rattle.rohc_bits.proofs.Steps.{ok_parts}

pub record StandsBefore (text : List ℕ) (d : LowBits) (behind : List ℕ) : Type 0 where
  pub spelling : List ℕ
  pub whole : text ≡ spelling ++ behind
  pub spells : Spells spelling d.value
  pub counted : d.count ≡ value_bits (length spelling)

found_at : {E : Type 0} (short : E) (text behind : List ℕ) (d : LowBits) (found : Option (ℕ × ℕ)) → front_value text ≡ found → value_or short text found ≡ Ok (d, behind) → StandsBefore text d behind
found_at short text behind d None is e = cc
found_at {E} short text behind d (Some (value, count)) is e =
    let front = front_found text value count is in
    let parts = ok_parts {E = E} (record { count = value_bits count; value = value }) d (drop count text) behind e in
    record {
      spelling = front.spelling;
      whole = front.whole ∙ ap (λ (rest : List ℕ). front.spelling ++ rest) (sym (behind_value text value count front) ∙ parts.1);
      spells = subst (Spells front.spelling) (ap (λ (x : LowBits). x.value) parts.0) front.spells;
      counted = sym (ap (λ (x : LowBits). x.count) parts.0) ∙ ap value_bits front.counted;
    }

pub value_found : {E : Type 0} (short : E) (text behind : List ℕ) (d : LowBits) → next_value short text ≡ Ok (d, behind) → StandsBefore text d behind
unfolding next_value
value_found short text behind d e = found_at short text behind d (front_value text) refl e

pub value_given : {E : Type 0} (short : E) (front behind : List ℕ) (value : ℕ) → Spells front value →
    next_value short (front ++ behind) ≡ Ok (record { count = value_bits (length front); value = value }, behind)
unfolding next_value
value_given short front behind value is =
    ap (value_or short (front ++ behind)) (front_read front behind value is)
    ∙ ap (λ (rest : List ℕ). Ok (record { count = value_bits (length front); value = value }, rest)) (drop_front front behind)
