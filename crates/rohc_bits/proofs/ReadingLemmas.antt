-- What is read off the front of octets in memory.
use Rattle.std.proofs.Common.{◌≡◌, ℕ, ◌<◌, ◌≤◌, List, ◌++◌, length, take, Option, Some, sym, ap, get_or, Fits, w8, arith}
use Rattle.std.specs.Prelude.{All, IfSome}
use Rattle.std.proofs.lemmas.List.Elements.{All-from_get_or}
use Rattle.rohc_bits.specs.Spelling.{IsSpelled}
use Rattle.rohc_bits.specs.Reading.{value_or, next_value}
use Rattle.rohc_bits.proofs.Fronts.{read_is_front}

-- octets in memory are below 256
pub all_octets : (text : List ℕ) → ((i : ℕ) → Fits w8 (get_or text i 0)) → All (λ octet. octet < 256) text
all_octets text fits = All-from_get_or (λ octet. octet < 256) text 0 (λ i _. omega (arith, fits i))

-- what answers the value that a front of octets spells, and misses none, reads it
pub value_is : {E : Type 0} (short : E) (text : List ℕ) (read : Option (ℕ × ℕ)) → ((i : ℕ) → Fits w8 (get_or text i 0)) →
    IfSome read (λ r. r.1 ≤ length text) → IfSome read (λ r. IsSpelled (take r.1 text) r.0) →
    ((t rest : List ℕ) (v : ℕ) → text ≡ t ++ rest → IsSpelled t v → read ≡ Some (v, length t)) → next_value short text ≡ value_or short text read
unfolding next_value
value_is short text read fits within spelled every = ap (value_or short text) (sym (read_is_front text read fits within spelled every))
