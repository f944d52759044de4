-- Reading a text from left to right. A step gives what it read and the octets after it, or a refusal.
use Rattle.std.specs.Prelude.{◌≡◌, ℕ, ◌+◌, ◌*◌, ◌/◌, ◌%◌, ◌^◌, List, [], ◌∷◌, drop, Bool, ◌==◌, Option, Some, None, Result, Ok, Err, MatchResult}
use Rattle.rohc_bits.specs.Fronts.{front_value, value_bits}
use Rattle.rohc_bits.specs.LowBits.{LowBits}

infixl 10 ◌>>=◌
-- the next step, from what the step before it gave
abbrev pub ◌>>=◌ : {A B E : Type 0} → Result A E → (A → Result B E) → Result B E
(Ok x) >>= f = f x
(Err e) >>= f = Err e

-- A reader's result, by `view`, and the octets that it left are what the definition gives.
abbrev pub ReadsAs : {A B E : Type 0} → (A → B) → Result A E → List ℕ → Result (B × List ℕ) E → Type 0
ReadsAs view result behind read = MatchResult result (λ x. read ≡ Ok (view x, behind)) (λ e. read ≡ Err e)

-- the same without a `view`
abbrev pub Reads : {A E : Type 0} → Result A E → List ℕ → Result (A × List ℕ) E → Type 0
Reads result behind read = MatchResult result (λ x. read ≡ Ok (x, behind)) (λ e. read ≡ Err e)

-- the value, or the refusal if there is one
abbrev pub judged : {A E : Type 0} → Option E → A → Result A E
judged None x = Ok x
judged (Some refusal) x = Err refusal

-- the bit at this place, counted from the least significant
abbrev pub bit : ℕ → ℕ → Bool
bit place n = n / 2 ^ place % 2 == 1

-- an octet, and the octets after it; if there is none, this refusal
unfoldable pub next_octet : {E : Type 0} → E → List ℕ → Result (ℕ × List ℕ) E
next_octet short [] = Err short
next_octet short (octet ∷ text) = Ok (octet, text)

-- a number of two octets, most significant first
unfoldable pub next_word : {E : Type 0} → E → List ℕ → Result (ℕ × List ℕ) E
next_word short text = do
  (high, text) ← next_octet short text
  (low, text) ← next_octet short text
  Ok (high * 256 + low, text)

-- the value that was found at the start of a text, if any, with as many bits as its encoding has, and the
-- octets after it
abbrev pub value_or : {E : Type 0} → E → List ℕ → Option (ℕ × ℕ) → Result (LowBits × List ℕ) E
value_or short text None = Err short
value_or short text (Some (value, count)) =
    Ok (record { count = value_bits count; value = value }, drop count text)

-- a self-describing value (RFC 3095 4.5.6)
unfoldable pub next_value : {E : Type 0} → E → List ℕ → Result (LowBits × List ℕ) E
next_value short text = value_or short text (front_value text)
