-- Why a packet has no reading.
use Rattle.std.specs.Prelude.{◌≡◌, ℕ, ◌-◌, ◌+◌, ◌*◌, ◌%◌, List, [], ◌∷◌, ◌++◌, length, drop, All, Bool, false, Option, Some, None, ◌==◌, ◌&&◌, nat_lt, nat_le, if◌then◌else◌}
use Rattle.rohc_frame.specs.declared.header.CidKind.{CidKind}
use Rattle.rohc_frame.specs.declared.header.CidKind.TheVariants.{Small, Large}
use Rattle.rohc_frame.specs.declared.refusal.FrameRefusal.{FrameRefusal}
use Rattle.rohc_frame.specs.declared.refusal.FrameRefusal.TheVariants.{Empty, FeedbackShort, AfterAddCid, Segment, ReservedType, AddCidOnLarge, LargeCid, CidRange, NoHeader}
use Rattle.rohc_frame.specs.Header.{is_within}
use Rattle.rohc_frame.specs.Items.{Item, IsItem, spelled, all_spelled}

-- the first octet lies from low to high, both included
abbrev pub begins : ℕ → ℕ → List ℕ → Bool
begins low high [] = false
begins low high (octet ∷ octets) = is_within low high octet

-- the first octet is this one or above
abbrev pub begins_from : ℕ → List ℕ → Bool
begins_from low [] = false
begins_from low (octet ∷ octets) = nat_le low octet

-- the CID in an Add-CID octet
abbrev pub add_cid : List ℕ → ℕ
add_cid [] = 0
add_cid (octet ∷ octets) = octet - 0xe0

-- the CID in one or two octets, the first below C0
abbrev pub spelled_cid : List ℕ → ℕ
spelled_cid [] = 0
spelled_cid (a ∷ []) = a
spelled_cid (a ∷ b ∷ octets) = if nat_lt a 0x80 then a else a % 64 * 256 + b

-- Why the octets after the longest list of items are not a header, in the order in which they are judged: the
-- first row whose test holds gives the refusal (RFC 5795 5.2).
abbrev pub rows : CidKind → ℕ → List ℕ → List (Bool × FrameRefusal)
rows Small max_cid r =
    (begins 0xf0 0xf7 r, FeedbackShort)
    ∷ (begins 0xe1 0xef r && nat_lt max_cid (add_cid r), CidRange)
    ∷ (begins 0xe1 0xef r && (length r == 1), NoHeader)
    ∷ (begins 0xe1 0xef r && begins 0xf0 0xf7 (drop 1 r), AfterAddCid)
    ∷ (begins 0xe1 0xef r && begins 0xe0 0xef (drop 1 r), ReservedType)
    ∷ (begins 0xe1 0xef r && begins 0xf9 0xfb (drop 1 r), ReservedType)
    ∷ (begins 0xe1 0xef r && begins_from 0xfe (drop 1 r), Segment)
    ∷ (begins 0xf9 0xfb r, ReservedType)
    ∷ (begins_from 0xfe r, Segment)
    ∷ []
rows Large max_cid r =
    (begins 0xf0 0xf7 r, FeedbackShort)
    ∷ (begins 0xe1 0xef r, AddCidOnLarge)
    ∷ (begins 0xf9 0xfb r, ReservedType)
    ∷ (begins_from 0xfe r, Segment)
    ∷ (length r == 1, NoHeader)
    ∷ (begins_from 0xc0 (drop 1 r), LargeCid)
    ∷ (begins 0x80 0xbf (drop 1 r) && (length r == 2), NoHeader)
    ∷ (nat_lt max_cid (spelled_cid (drop 1 r)), CidRange)
    ∷ []

-- the refusal of the first row that holds
abbrev pub first_of_rows : List (Bool × FrameRefusal) → Option FrameRefusal
first_of_rows [] = None
first_of_rows ((holds, refusal) ∷ more) = if holds then Some refusal else first_of_rows more

-- The octets are those of items, followed by others. No whole item stands at the start of those, and they are
-- refused for this reason.
pub record StopsBy (size : CidKind) (max_cid : ℕ) (octets : List ℕ) (refusal : FrameRefusal) : Type 0 where
  pub items : List Item
  pub after : List ℕ
  pub are_items : All IsItem items
  pub whole : octets ≡ all_spelled items ++ after
  pub longest : (item : Item) (rest : List ℕ) → IsItem item → after ≡ spelled item ++ rest → ⊥
  pub stopped : first_of_rows (rows size max_cid after) ≡ Some refusal

-- A packet has no reading, for this reason.
abbrev pub IsRefused : CidKind → ℕ → List ℕ → FrameRefusal → Type 0
IsRefused size max_cid [] refusal = refusal ≡ Empty
IsRefused size max_cid (octet ∷ octets) refusal = StopsBy size max_cid (octet ∷ octets) refusal
