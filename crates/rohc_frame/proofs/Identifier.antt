use Rattle.std.proofs.Common.{◌≡◌, ℕ, zero, suc, ◌+◌, ◌*◌, ◌%◌, ◌<◌, ◌≤◌, true, false, List, [], ◌∷◌, ◌++◌, length, take, get_or, Option, Some, None, Ok, Err, refl, ⊎_elim, Fits, w8, arith}
use Rattle.std.specs.Prelude.{All, MatchOption, IfSome, nat_lt}
use Rattle.std.proofs.lemmas.Bool.Decides.{nat_tests}
use Rattle.std.proofs.lemmas.Bool.{cases_lt}
use Rattle.std.proofs.lemmas.List.Elements.{All-nil, All-cons, All-head, All-tail, All-from_get_or}
use Rattle.rohc_bits.specs.Spelling.{IsSpelled}
use Rattle.rohc_bits.proofs.Arithmetic.{SpelledAs, spelled_as, is_spelled}
use Rattle.rohc_frame.specs.declared.refusal.FrameRefusal.TheVariants.{NoHeader}
use Rattle.rohc_frame.specs.Parts.{large_cid}

-- What reading a self-describing value says of the octets of a large identifier.

-- what is read from the octets: the value of any front that spells one, else none
pub record IsRead (octets : List ℕ) (read : Option (ℕ × ℕ)) : Type 0 where
  pub spelled : IfSome read (λ r. IsSpelled (take r.1 octets) r.0)
  pub every : (text rest : List ℕ) (value : ℕ) → octets ≡ text ++ rest → IsSpelled text value → read ≡ Some (value, length text)

-- the same, as the definitions say it
abbrev pub Agrees : List ℕ → Option (ℕ × ℕ) → Type 0
Agrees octets read = MatchOption read (large_cid octets ≡ Err NoHeader) (λ r. large_cid octets ≡ Ok r)

agrees_some : (octets : List ℕ) (read : Option (ℕ × ℕ)) (r : ℕ × ℕ) → read ≡ Some r → large_cid octets ≡ Ok r → Agrees octets read
agrees_some octets read r e is = rw e is

agrees_none : (octets : List ℕ) (read : Option (ℕ × ℕ)) → (IfSome read (λ r. IsSpelled (take r.1 octets) r.0)) → ((n v : ℕ) → SpelledAs (take n octets) v → ⊥) → large_cid octets ≡ Err NoHeader → Agrees octets read
agrees_none octets None spelled none is = is
agrees_none octets (Some r) spelled none is = absurd (none r.1 r.0 (spelled_as (take r.1 octets) r.0 spelled))

octet_alone : (a n v : ℕ) → 128 ≤ a → SpelledAs (take n (a ∷ [])) v → ⊥
octet_alone a zero v high s = s
octet_alone a (suc zero) v high s = omega arith
octet_alone a (suc (suc n)) v high s = omega arith

one_octet : (a : ℕ) (octets : List ℕ) (read : Option (ℕ × ℕ)) → All (λ octet. octet < 256) (a ∷ octets) → IsRead (a ∷ octets) read → a < 128 → Agrees (a ∷ octets) read
one_octet a octets read all is low =
    let small : nat_lt a 128 ≡ true = grind (arith, nat_tests) in
    agrees_some (a ∷ octets) read (a, 1)
    (is.every (a ∷ []) octets a refl (is_spelled (a ∷ []) a
    (All-cons (λ octet. octet < 256) a [] (All-head (λ octet. octet < 256) a octets all) (All-nil (λ octet. octet < 256)))
    (omega arith, refl)))
    (rw small refl)

more_octets : (a : ℕ) (octets : List ℕ) (read : Option (ℕ × ℕ)) → All (λ octet. octet < 256) (a ∷ octets) → IsRead (a ∷ octets) read → 128 ≤ a → a < 192 → Agrees (a ∷ octets) read
more_octets a [] read all is high low =
    let large : nat_lt a 128 ≡ false = grind (arith, nat_tests) in
    let short : nat_lt a 192 ≡ true = grind (arith, nat_tests) in
    agrees_none (a ∷ []) read is.spelled (λ n v s. octet_alone a n v high s) (rw (large, short) refl)
more_octets a (b ∷ octets) read all is high low =
    let large : nat_lt a 128 ≡ false = grind (arith, nat_tests) in
    let short : nat_lt a 192 ≡ true = grind (arith, nat_tests) in
    let P : ℕ → Type 0 = λ octet. octet < 256 in
    let rest = All-tail P a (b ∷ octets) all in
    agrees_some (a ∷ b ∷ octets) read (a % 64 * 256 + b, 2)
    (is.every (a ∷ b ∷ []) octets (a % 64 * 256 + b) refl (is_spelled (a ∷ b ∷ []) (a % 64 * 256 + b)
    (All-cons P a (b ∷ []) (All-head P a (b ∷ octets) all) (All-cons P b [] (All-head P b octets rest) (All-nil P)))
    (omega arith, refl)))
    (rw (large, short) refl)

agrees : (a : ℕ) (octets : List ℕ) (read : Option (ℕ × ℕ)) → All (λ octet. octet < 256) (a ∷ octets) → a < 192 → IsRead (a ∷ octets) read → Agrees (a ∷ octets) read
agrees a octets read all low is = ⊎_elim
    (λ (one : a < 128). one_octet a octets read all is one)
    (λ (two : 128 ≤ a). more_octets a octets read all is two low)
    (cases_lt a 128)

pub read_agrees : (octets : List ℕ) (a : ℕ) (rest : List ℕ) (read : Option (ℕ × ℕ)) → octets ≡ a ∷ rest → a < 192 → ((i : ℕ) → Fits w8 (get_or octets i 0)) → IsRead octets read → Agrees octets read
read_agrees octets a rest read e low fits is =
    let all = All-from_get_or (λ octet. octet < 256) octets 0 (λ i _. omega (arith, fits i)) in
    rw e (agrees a rest read (rw e at all) low (rw e at is))

-- a value whose first octet is below C0 has fourteen bits at most
short_value : (text : List ℕ) (v : ℕ) → IsSpelled text v → get_or text 0 0 < 192 → v < 16384
short_value [] v is low = absurd (spelled_as [] v is)
short_value (a ∷ []) v is low = let s = spelled_as (a ∷ []) v is in omega (arith, s.0, s.1)
short_value (a ∷ b ∷ []) v is low =
    let P : ℕ → Type 0 = λ octet. octet < 256 in
    let s = spelled_as (a ∷ b ∷ []) v is in
    omega (arith, s.1, All-head P b [] (All-tail P a (b ∷ []) is.octets))
short_value (a ∷ b ∷ c ∷ []) v is low = let s = spelled_as (a ∷ b ∷ c ∷ []) v is in let high : 192 ≤ a = omega (arith, s.0) in absurd (omega (arith, high))
short_value (a ∷ b ∷ c ∷ d ∷ []) v is low = let s = spelled_as (a ∷ b ∷ c ∷ d ∷ []) v is in let high : 192 ≤ a = omega (arith, s.0) in absurd (omega (arith, high))
short_value (a ∷ b ∷ c ∷ d ∷ e ∷ text) v is low = absurd (spelled_as (a ∷ b ∷ c ∷ d ∷ e ∷ text) v is)

first_taken : (n a : ℕ) (rest : List ℕ) → a < 192 → get_or (take n (a ∷ rest)) 0 0 < 192
first_taken zero a rest low = omega arith
first_taken (suc n) a rest low = low

pub read_fits : (octets : List ℕ) (a : ℕ) (rest : List ℕ) (read : Option (ℕ × ℕ)) (v n : ℕ) → octets ≡ a ∷ rest → a < 192 →
    IfSome read (λ r. IsSpelled (take r.1 octets) r.0) → read ≡ Some (v, n) → v < 16384
read_fits octets a rest read v n e low spelled is =
    short_value (take n octets) v (rw is at spelled) (rw e (first_taken n a rest low))
