-- The Internet checksum (RFC 791 3.1; RFC 1071 1).
use Rattle.std.specs.Prelude.{◌==◌, ℕ, ◌+◌, ◌-◌, ◌*◌, ◌%◌, List, [], ◌∷◌, if◌then◌else◌, sum}

-- the 16-bit words of a text, most significant octet first; an odd last octet is followed by a zero octet
unfoldable pub words : List ℕ → List ℕ
words [] = []
words (last ∷ []) = (last * 256) ∷ []
words (high ∷ low ∷ octets) = (high * 256 + low) ∷ words octets

-- the complement of the one's complement sum of these words
unfoldable pub header_sum : List ℕ → ℕ
header_sum all = if sum all == 0 then 65535 else 65535 - ((sum all - 1) % 65535 + 1)
