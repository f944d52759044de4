-- Laws of the one reading of a packet, or its one refusal.
use Rattle.std.specs.Prelude.{◌≡◌, ℕ, ◌<◌, ◌≤◌, ◌↔◌, List, length, All, Some, Ok, Err, true}
pub use Rattle.rohc_bits.specs.Bits.{IsOctet}
use Rattle.rohc_bits.specs.Spelling.{IsSpelled}
use Rattle.rohc_frame.specs.declared.header.CidKind.{CidKind}
use Rattle.rohc_frame.specs.declared.header.CidKind.TheVariants.{Large}
use Rattle.rohc_frame.specs.declared.refusal.FrameRefusal.{FrameRefusal}
use Rattle.rohc_frame.specs.Header.{Header, greatest_cid, is_header, is_identifier}
use Rattle.rohc_frame.specs.Reading.{Reading, IsReading}
use Rattle.rohc_frame.specs.Refused.{IsRefused}
use Rattle.rohc_frame.specs.Parts.{parts_of}

-- a packet's parts are a reading exactly if the packet has that reading
abbrev pub GivesReadings : Type 0
GivesReadings = (size : CidKind) (max_cid : ℕ) (octets : List ℕ) (r : Reading) →
    (parts_of size max_cid octets ≡ Ok r) ↔ IsReading size max_cid octets r

-- so it has at most one reading
abbrev pub HasOneReading : Type 0
HasOneReading = (size : CidKind) (max_cid : ℕ) (octets : List ℕ) (a b : Reading) →
    IsReading size max_cid octets a → IsReading size max_cid octets b → a ≡ b

-- and they are a refusal exactly if the packet is refused for that reason
abbrev pub GivesRefusals : Type 0
GivesRefusals = (size : CidKind) (max_cid : ℕ) (octets : List ℕ) (refusal : FrameRefusal) →
    (parts_of size max_cid octets ≡ Err refusal) ↔ IsRefused size max_cid octets refusal

-- the octets of a large CID are exactly its encodings of one or two octets
abbrev pub SpellsLarge : Type 0
SpellsLarge = (cid : ℕ) (octets : List ℕ) → All IsOctet octets →
    (is_identifier Large cid octets ≡ true) ↔ (IsSpelled octets cid × (length octets ≤ 2))

-- octets encode exactly the CIDs up to the greatest of the link's kind
abbrev pub SaysEachIdentifier : Type 0
SaysEachIdentifier = (size : CidKind) (cid : ℕ) →
    ((octets : List ℕ) × All IsOctet octets × (is_identifier size cid octets ≡ true)) ↔
    (cid ≤ greatest_cid size)

-- a header of this CID kind, with a CID within the link's greatest, made of octets
pub record IsGood (size : CidKind) (max_cid : ℕ) (h : Header) : Type 0 where
  pub sized : h.size ≡ size
  pub within : h.cid ≤ max_cid
  pub spelled : is_header h.size h.cid h.kind h.first h.cid_octets ≡ true
  pub first : h.first < 256
  pub cid_octets : All IsOctet h.cid_octets
  pub rest : All IsOctet h.rest

-- the header of a packet of octets is good
abbrev pub HasGoodHeader : Type 0
HasGoodHeader = (size : CidKind) (max_cid : ℕ) (octets : List ℕ) (r : Reading) (h : Header) →
    parts_of size max_cid octets ≡ Ok r → r.header ≡ Some h → All IsOctet octets → IsGood size max_cid h
