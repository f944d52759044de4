-- Laws of feedback elements: no two meanings have the same octets, all are written by some function, and a
-- large CID is spelled as short as it can be.
use Rattle.std.specs.Prelude.{◌≡◌, ◌≤◌, ◌↔◌, ◌⊎◌, ℕ, List, Option, length}
use Rattle.rohc_bits.specs.Spelling.{IsSpelled}
use Rattle.rohc_frame.specs.declared.header.CidKind.{CidKind}
use Rattle.rohc_frame.specs.declared.header.CidKind.TheVariants.{Large}
use Rattle.rohc_frame.specs.Header.{greatest_cid}
use Rattle.rohc_feedback.specs.declared.meaning.Reading.{Reading}
use Rattle.rohc_feedback.specs.Element.{IsMeaning, identifier_octets, octets_of_meaning, ack_octets, nack_octets, static_nack_octets, plain_ack_octets}

-- two meanings on one link never have the same octets
abbrev pub MeaningsDiffer : Type 0
MeaningsDiffer = (size : CidKind) (a b : Reading) → IsMeaning size a → IsMeaning size b →
    octets_of_meaning size a ≡ octets_of_meaning size b → a ≡ b

-- the text is one that a function writes for this CID
abbrev pub IsWrittenFor : CidKind → ℕ → List ℕ → Type 0
IsWrittenFor size cid text =
    ((sn : ℕ) × (text ≡ ack_octets size cid sn)) ⊎
    ((sn : Option ℕ) × (text ≡ nack_octets size cid sn)) ⊎
    (text ≡ static_nack_octets size cid) ⊎ (text ≡ plain_ack_octets size cid)

-- the texts that have a meaning are exactly those that the four functions write for the link's CIDs
abbrev pub MeaningsAreWritten : Type 0
MeaningsAreWritten = (size : CidKind) (text : List ℕ) →
    ((m : Reading) × IsMeaning size m × (text ≡ octets_of_meaning size m)) ↔
    ((cid : ℕ) × (cid ≤ greatest_cid size) × IsWrittenFor size cid text)

-- the octets of a large CID spell it, and no fewer octets do (RFC 3095 4.5.6)
abbrev pub IdentifierIsShortest : Type 0
IdentifierIsShortest = (cid : ℕ) → cid ≤ greatest_cid Large → IsSpelled (identifier_octets Large cid) cid
    × ((text : List ℕ) → IsSpelled text cid → length (identifier_octets Large cid) ≤ length text)
