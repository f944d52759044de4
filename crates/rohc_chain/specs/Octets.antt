-- Pieces of packets, and what is read of them.
use Rattle.std.specs.Prelude.{ℕ, ◌+◌, ◌*◌, List, [], ◌∷◌, Result}
use Rattle.rohc_bits.specs.Reading.{next_octet, next_word}
use Rattle.rohc_bits.specs.Grammar.{Piece, Octet, Word, Value, Says, As, reads}
use Rattle.rohc_bits.specs.InTurn.{◌>>=◌}
use Rattle.rohc_chain.specs.declared.refusal.ChainRefusal.{ChainRefusal}
use Rattle.rohc_chain.specs.declared.refusal.ChainRefusal.TheVariants.{Truncated}

-- the names of the fields of chains
pub data Name : Type 0 where
  Profile : Name
  Crc : Name
  Reserved : Name
  Version : Name
  Protocol : Name
  Source : Name
  Destination : Name
  SourcePort : Name
  DestinationPort : Name
  Ssrc : Name
  Tos : Name
  Ttl : Name
  Id : Name
  Df : Name
  Rnd : Name
  Nbo : Name
  ExtensionHeaders : Name
  UdpSum : Name
  V : Name
  P : Name
  Rx : Name
  Cc : Name
  M : Name
  Pt : Name
  Sn : Name
  Ts : Name
  CsrcList : Name
  X : Name
  Mode : Name
  Tis : Name
  Tss : Name
  TsStride : Name
  TimeStride : Name

-- a piece of a packet, and what is read of it; a packet that ends too early is truncated
abbrev pub ChainPiece : Type 0 → Type 1
ChainPiece = Piece Name ChainRefusal

abbrev pub read : {A : Type 0} → ChainPiece A → List ℕ → Result (A × List ℕ) ChainRefusal
read = reads Truncated

-- an octet, and a number of two octets
abbrev pub octet_at : List ℕ → Result (ℕ × List ℕ) ChainRefusal
octet_at = next_octet Truncated

abbrev pub word_at : List ℕ → Result (ℕ × List ℕ) ChainRefusal
word_at = next_word Truncated

-- four octets
unfoldable pub four_octets_at : ChainPiece (List ℕ)
four_octets_at = do
  a ← Octet
  b ← Octet
  c ← Octet
  d ← Octet
  Says (a ∷ b ∷ c ∷ d ∷ [])

-- a number of four octets, most significant first
unfoldable pub quad_at : ChainPiece ℕ
quad_at = do
  high ← Word
  low ← Word
  Says (high * 65536 + low)

-- a self-describing value (RFC 3095 4.5.6)
unfoldable pub value_at : ChainPiece ℕ
value_at = As (λ d. d.value) Value
