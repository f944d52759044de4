-- Pieces in the order of their octets, for `do`.
use Rattle.rohc_bits.specs.Grammar.{Piece, Then}

infixl 10 ◌>>=◌
-- a piece, and the next, which may depend on what the first says
abbrev pub ◌>>=◌ : {N E A B : Type 0} → Piece N E A → (A → Piece N E B) → Piece N E B
first >>= more = Then first more
