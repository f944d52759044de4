-- Numbers in the octets of a capture. Words: two_at, four_at; short_at, long_at, by the order of their
-- octets.
use Rattle.std.specs.Prelude.{ℕ, ◌+◌, ◌*◌, List, [], ◌∷◌, Option, Some, None}
use Rattle.rohc_capture.specs.declared.number.ByteOrder.{ByteOrder}
use Rattle.rohc_capture.specs.declared.number.ByteOrder.TheVariants.{Big, Little}

infixl 10 ◌>>=◌
-- the next step, from what the step before it gave
abbrev pub ◌>>=◌ : {A B : Type 0} → Option A → (A → Option B) → Option B
None >>= f = None
(Some x) >>= f = f x

-- the octet at the front, and what follows
abbrev pub front_at : List ℕ → Option (ℕ × List ℕ)
front_at [] = None
front_at (octet ∷ text) = Some (octet, text)

-- the number of two octets
abbrev pub two_of : ByteOrder → ℕ → ℕ → ℕ
two_of Big a b = a * 256 + b
two_of Little a b = b * 256 + a

-- the number of four octets
abbrev pub four_of : ByteOrder → ℕ → ℕ → ℕ → ℕ → ℕ
four_of Big a b c d = ((a * 256 + b) * 256 + c) * 256 + d
four_of Little a b c d = ((d * 256 + c) * 256 + b) * 256 + a

-- a number of two octets, and what follows
unfoldable pub short_at : ByteOrder → List ℕ → Option (ℕ × List ℕ)
short_at order text = do
  (a, text) ← front_at text
  (b, text) ← front_at text
  Some (two_of order a b, text)

-- a number of four octets, and what follows
unfoldable pub long_at : ByteOrder → List ℕ → Option (ℕ × List ℕ)
long_at order text = do
  (a, text) ← front_at text
  (b, text) ← front_at text
  (c, text) ← front_at text
  (d, text) ← front_at text
  Some (four_of order a b c d, text)
