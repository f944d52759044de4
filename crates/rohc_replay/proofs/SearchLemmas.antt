-- Where the first newline stands.
use Rattle.std.proofs.Common.{◌≡◌, ℕ, ◌<◌, ◌≤◌, false, List, length, take, slice_index, Option, Some, None, arith, eqb-true, length-take, ⊎_elim}
use Rattle.std.specs.Prelude.{IfSome, IfNone}
use Rattle.std.proofs.lemmas.Bool.{cases_Bool}
use Rattle.std.proofs.lemmas.List.{get_or-take}
use Rattle.std.proofs.lemmas.List.Elements.{All-from_get_or}
use Rattle.std.proofs.lemmas.List.Folds.{list_any_none}
use Rattle.memchr.specs.Find.{IsFirstByte, Nowhere, Passes, is_byte}
use Rattle.rohc_replay.specs.Lines.{has_newline}

-- where no place below passes the test, none is a newline
passed_over : (octets : List ℕ) (k : ℕ) → k ≤ length octets → Nowhere (Passes (is_byte 10) octets) 0 k → has_newline (take k octets) ≡ false
passed_over octets k within nowhere =
    list_any_none (is_byte 10) (take k octets)
    (All-from_get_or (λ (octet : ℕ). is_byte 10 octet ≡ false) (take k octets) 0 (λ i below.
    let size = length-take k octets in
    let inside : i < k = omega (arith, size, below) in
    rw (get_or-take k octets i 0 inside)
    (⊎_elim (λ yes. absurd (nowhere i (omega arith) inside yes)) (λ no. no) (cases_Bool (is_byte 10 (slice_index octets i))))))

pub first_found : (octets : List ℕ) (r : Option ℕ) → IsFirstByte (is_byte 10) octets r
    → IfSome r (λ i. (i < length octets) × (slice_index octets i ≡ 10) × (has_newline (take i octets) ≡ false))
first_found octets None first = tt
first_found octets (Some i) first =
    (first.0.high, eqb-true (slice_index octets i) 10 first.1, passed_over octets i (omega (arith, first.0.high)) first.0.before)

pub none_found : (octets : List ℕ) (r : Option ℕ) → IsFirstByte (is_byte 10) octets r → IfNone r (has_newline octets ≡ false)
none_found octets (Some i) first = tt
none_found octets None nowhere =
    list_any_none (is_byte 10) octets
    (All-from_get_or (λ (octet : ℕ). is_byte 10 octet ≡ false) octets 0 (λ i below.
    ⊎_elim (λ yes. absurd (nowhere i (omega arith) below yes)) (λ no. no) (cases_Bool (is_byte 10 (slice_index octets i)))))
