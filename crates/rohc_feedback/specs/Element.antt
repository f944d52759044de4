-- Feedback elements, octet by octet, and what they mean (RFC 5795 5.2.4.1; RFC 3095 5.7.6).
use Rattle.std.specs.Prelude.{◌≡◌, ℕ, ◌+◌, ◌/◌, ◌%◌, ◌<◌, ◌≤◌, List, [], ◌∷◌, ◌++◌, Option, Some, None, length, ◌==◌, nat_lt, if◌then◌else◌}
use Rattle.arrayvec.specs.ArrayVec.{ArrayVec}
use Rattle.rohc_checks.specs.Division.{check, poly8}
use Rattle.rohc_frame.specs.declared.header.CidKind.{CidKind}
use Rattle.rohc_frame.specs.declared.header.CidKind.TheVariants.{Small, Large}
use Rattle.rohc_frame.specs.Header.{greatest_cid}
use Rattle.rohc_feedback.specs.Fields.{Fields, Fixed, Code, Cid, Acktype, Mode, Sn, OptType, OptLength, Crc, spelled}
use Rattle.rohc_feedback.specs.declared.meaning.Word.{Word}
use Rattle.rohc_feedback.specs.declared.meaning.Word.TheVariants.{Ack, Nack, StaticNack, Plain}
use Rattle.rohc_feedback.specs.declared.meaning.Reading.{Reading}

-- A feedback element: the type octet, whose Code is the size of the data, and the data (RFC 5795 5.2.4.1).
--
--   0   1   2   3   4   5   6   7
-- +---+---+---+---+---+---+---+---+
-- | 1   1   1   1   0 |   Code    |
-- +---+---+---+---+---+---+---+---+
-- /         feedback data         /
-- +---+---+---+---+---+---+---+---+
abbrev pub type_octet : ℕ → Fields
type_octet size = (Fixed 0b11110, 5) ∷ (Code size, 3) ∷ []

abbrev pub element_octets : List ℕ → List ℕ
element_octets octets = spelled (type_octet (length octets)) ++ octets

-- The Add-CID octet (RFC 5795 5.2.1.2).
--
--   0   1   2   3   4   5   6   7
-- +---+---+---+---+---+---+---+---+
-- | 1   1   1   0 |      CID      |
-- +---+---+---+---+---+---+---+---+
abbrev pub add_cid : ℕ → Fields
add_cid cid = (Fixed 0b1110, 4) ∷ (Cid cid, 4) ∷ []

-- The CID octets before feedback (RFC 5795 5.2.1.2). Small CIDs: none for 0, and else the Add-CID octet.
-- Large CIDs: the shortest encoding, which is one octet below 128 and two from there on.
abbrev pub identifier_octets : CidKind → ℕ → List ℕ
identifier_octets Small cid = if cid == 0 then [] else spelled (add_cid cid)
identifier_octets Large cid = if nat_lt cid 128 then cid ∷ [] else (0x80 + cid / 256) ∷ (cid % 256) ∷ []

-- The meaning of an element: a CID, a word, and a sequence number (SN) or none.
abbrev pub meaning : ℕ → Word → Option ℕ → Reading
meaning cid word sn = record { cid = cid; word = word; sn = sn }

-- Which numbers go with a word: with an ACK one of 12 bits, with a NACK one or none, with the others none.
abbrev pub GoesWith : Word → Option ℕ → Type 0
GoesWith Ack (Some sn) = sn < 4096
GoesWith Ack None = ⊥
GoesWith Nack (Some sn) = sn < 4096
GoesWith Nack None = Unit {0}
GoesWith StaticNack sn = sn ≡ None
GoesWith Plain sn = sn ≡ None

-- The possible meanings of an element of the link: the CID is at most the greatest of its kind, and the
-- number goes with the word.
pub record IsMeaning (size : CidKind) (m : Reading) : Type 0 where
  pub within : m.cid ≤ greatest_cid size
  pub number : GoesWith m.word m.sn

-- FEEDBACK-2 in bidirectional optimistic mode, which is Mode 2, with its options (RFC 3095 5.7.6.1).
--
--   0   1   2   3   4   5   6   7
-- +---+---+---+---+---+---+---+---+
-- |Acktype| Mode  |    SN (msb)   |
-- +---+---+---+---+---+---+---+---+
-- |           SN (lsb)            |
-- +---+---+---+---+---+---+---+---+
-- /            options            /
-- +---+---+---+---+---+---+---+---+
abbrev pub feedback_2 : ℕ → ℕ → Fields → Fields
feedback_2 acktype sn options = (Acktype acktype, 2) ∷ (Mode 2, 2) ∷ (Sn sn, 12) ∷ options

-- The options CRC and SN-NOT-VALID (RFC 3095 5.7.6.3, 5.7.6.5).
--
--   0   1   2   3   4   5   6   7          0   1   2   3   4   5   6   7
-- +---+---+---+---+---+---+---+---+      +---+---+---+---+---+---+---+---+
-- |  Opt Type = 1 |  Opt Len = 1  |      |  Opt Type = 3 |  Opt Len = 0  |
-- +---+---+---+---+---+---+---+---+      +---+---+---+---+---+---+---+---+
-- |              CRC              |
-- +---+---+---+---+---+---+---+---+
abbrev pub crc_option : ℕ → Fields
crc_option crc = (OptType 1, 4) ∷ (OptLength 1, 4) ∷ (Crc crc, 8) ∷ []

abbrev pub sn_not_valid : Fields → Fields
sn_not_valid options = (OptType 3, 4) ∷ (OptLength 0, 4) ∷ options

-- The CRC option comes last. Without a number SN is 0, and the option SN-NOT-VALID says so.
abbrev pub acknowledgement : ℕ → Option ℕ → ℕ → List ℕ
acknowledgement acktype (Some sn) crc = spelled (feedback_2 acktype sn (crc_option crc))
acknowledgement acktype None crc = spelled (feedback_2 acktype 0 (sn_not_valid (crc_option crc)))

-- The feedback for a word, with this check octet: FEEDBACK-2 of Acktype 0, 1 or 2 (RFC 3095 5.7.6.1), or the
-- FEEDBACK-1 of profile 0x0000, octet 00, which has no check (RFC 3095 5.10.4).
abbrev pub feedback_octets : Word → Option ℕ → ℕ → List ℕ
feedback_octets Ack sn crc = acknowledgement 0 sn crc
feedback_octets Nack sn crc = acknowledgement 1 sn crc
feedback_octets StaticNack sn crc = acknowledgement 2 sn crc
feedback_octets Plain sn crc = 0x00 ∷ []

-- The 8-bit check, starting from all ones, over the CID octets and the feedback, in which the check octet
-- itself is 00 (RFC 3095 5.7.6.3, 5.9.1).
abbrev pub feedback_check : List ℕ → Word → Option ℕ → ℕ
feedback_check identifier word sn = check poly8 0xff (identifier ++ feedback_octets word sn 0)

-- an element's data: the CID octets, then the feedback with its check
abbrev pub data_octets : List ℕ → Word → Option ℕ → List ℕ
data_octets identifier word sn = identifier ++ feedback_octets word sn (feedback_check identifier word sn)

-- the element of a link with this meaning
unfoldable pub octets_of_meaning : CidKind → Reading → List ℕ
octets_of_meaning size m = element_octets (data_octets (identifier_octets size m.cid) m.word m.sn)

-- The four elements. They carry the low 12 bits of a sequence number.
abbrev pub ack_octets : CidKind → ℕ → ℕ → List ℕ
ack_octets size cid sn = octets_of_meaning size (meaning cid Ack (Some (sn % 4096)))

abbrev pub nack_octets : CidKind → ℕ → Option ℕ → List ℕ
nack_octets size cid None = octets_of_meaning size (meaning cid Nack None)
nack_octets size cid (Some sn) = octets_of_meaning size (meaning cid Nack (Some (sn % 4096)))

abbrev pub static_nack_octets : CidKind → ℕ → List ℕ
static_nack_octets size cid = octets_of_meaning size (meaning cid StaticNack None)

abbrev pub plain_ack_octets : CidKind → ℕ → List ℕ
plain_ack_octets size cid = octets_of_meaning size (meaning cid Plain None)

-- an element's octets, if there is an element
abbrev pub octets_of : Option (ArrayVec ℕ) → Option (List ℕ)
octets_of None = None
octets_of (Some e) = Some e.items
