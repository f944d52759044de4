-- Octets of a frame, from the left. A step gives what it read and the octets after it, or the frame's fault.
-- Words: octet_at, word_at; after, cut; given.
use Rattle.std.specs.Prelude.{ℕ, ◌+◌, ◌*◌, List, [], ◌∷◌, length, take, drop, nat_le, ◌&&◌, Bool, true, false, Result, Ok, Err}
use Rattle.rohc_capture.specs.declared.fault.FrameFault.{FrameFault}
use Rattle.rohc_capture.specs.declared.fault.FrameFault.TheVariants.{Short}

infixl 10 ◌>>=◌
-- the next step, from what the step before it gave
abbrev pub ◌>>=◌ : {A B E : Type 0} → Result A E → (A → Result B E) → Result B E
(Ok x) >>= f = f x
(Err e) >>= f = Err e

-- the value, if the test holds
abbrev pub given : {A : Type 0} → Bool → FrameFault → A → Result A FrameFault
given true fault x = Ok x
given false fault x = Err fault

-- an octet, and what follows
abbrev pub octet_at : List ℕ → Result (ℕ × List ℕ) FrameFault
octet_at [] = Err Short
octet_at (octet ∷ text) = Ok (octet, text)

-- a number of two octets, most significant first, and what follows
unfoldable pub word_at : List ℕ → Result (ℕ × List ℕ) FrameFault
word_at text = do
  (high, text) ← octet_at text
  (low, text) ← octet_at text
  Ok (high * 256 + low, text)

-- what follows the first octets
unfoldable pub after : ℕ → List ℕ → Result (List ℕ) FrameFault
after count text = given (nat_le count (length text)) Short (drop count text)

-- the octets from one place up to another
unfoldable pub cut : ℕ → ℕ → FrameFault → List ℕ → Result (List ℕ) FrameFault
cut start end fault text =
    given (nat_le start end && nat_le end (length text)) fault (drop start (take end text))
