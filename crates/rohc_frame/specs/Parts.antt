-- The parts of a packet, from its octets: its one reading, or its one refusal.
use Rattle.std.specs.Prelude.{ℕ, ◌+◌, ◌-◌, ◌*◌, ◌%◌, List, [], ◌∷◌, take, drop, true, false, Option, Some, None, Result, Ok, Err, ◌==◌, nat_lt, if◌then◌else◌}
use Rattle.rohc_frame.specs.declared.header.CidKind.{CidKind}
use Rattle.rohc_frame.specs.declared.header.CidKind.TheVariants.{Small, Large}
use Rattle.rohc_frame.specs.declared.header.HeadKind.{HeadKind}
use Rattle.rohc_frame.specs.declared.header.HeadKind.TheVariants.{Ir, IrDyn, Other}
use Rattle.rohc_frame.specs.declared.refusal.FrameRefusal.{FrameRefusal}
use Rattle.rohc_frame.specs.declared.refusal.FrameRefusal.TheVariants.{Empty, FeedbackShort, AfterAddCid, Segment, ReservedType, AddCidOnLarge, LargeCid, CidRange, NoHeader}
use Rattle.rohc_frame.specs.Header.{Header, is_within}
use Rattle.rohc_frame.specs.Items.{elements_in, after_items}
use Rattle.rohc_frame.specs.Reading.{Reading}

-- the kind of header that starts with an octet, or the refusal
abbrev pub kind_of : ℕ → Result HeadKind FrameRefusal
kind_of first =
    if nat_lt first 0xe0 then Ok Other
    else if nat_lt first 0xf0 then Err AddCidOnLarge
    else if nat_lt first 0xf8 then Err FeedbackShort
    else if first == 0xf8 then Ok IrDyn
    else if nat_lt first 0xfc then Err ReservedType
    else if first == 0xfc then Ok (Ir false)
    else if first == 0xfd then Ok (Ir true)
    else Err Segment

-- a header on a link of small CIDs, if its first octet starts one
abbrev pub small_header : ℕ → List ℕ → ℕ → List ℕ → Result HeadKind FrameRefusal →
    Result (Option Header) FrameRefusal
small_header cid cid_octets first rest (Err refusal) = Err refusal
small_header cid cid_octets first rest (Ok kind) =
    Ok (Some (record {
      cid = cid;
      size = Small;
      kind = kind;
      first = first;
      cid_octets = cid_octets;
      rest = rest;
    }))

-- what follows an Add-CID octet
abbrev pub behind_add_cid : ℕ → List ℕ → Result (Option Header) FrameRefusal
behind_add_cid add_cid [] = Err NoHeader
behind_add_cid add_cid (first ∷ rest) =
    if is_within 0xe0 0xef first then Err ReservedType
    else if is_within 0xf0 0xf7 first then Err AfterAddCid
    else small_header (add_cid - 0xe0) (add_cid ∷ []) first rest (kind_of first)

-- what follows the items on a link of small CIDs
abbrev pub small_parts : ℕ → List ℕ → Result (Option Header) FrameRefusal
small_parts max_cid [] = Ok None
small_parts max_cid (first ∷ rest) =
    if is_within 0xe1 0xef first
    then (if nat_lt max_cid (first - 0xe0) then Err CidRange else behind_add_cid first rest)
    else small_header 0 [] first rest (kind_of first)

abbrev pub two_octets : ℕ → List ℕ → Result (ℕ × ℕ) FrameRefusal
two_octets a [] = Err NoHeader
two_octets a (b ∷ octets) = Ok (a % 64 * 256 + b, 2)

-- a large CID, and how many octets encode it
abbrev pub large_cid : List ℕ → Result (ℕ × ℕ) FrameRefusal
large_cid [] = Err NoHeader
large_cid (a ∷ octets) =
    if nat_lt a 0x80 then Ok (a, 1)
    else if nat_lt a 0xc0 then two_octets a octets
    else Err LargeCid

-- a header on a link of large CIDs, if the CID is within the link's greatest
abbrev pub large_header : ℕ → HeadKind → ℕ → List ℕ → Result (ℕ × ℕ) FrameRefusal →
    Result (Option Header) FrameRefusal
large_header max_cid kind first octets (Err refusal) = Err refusal
large_header max_cid kind first octets (Ok (cid, count)) =
    if nat_lt max_cid cid then Err CidRange
    else Ok (Some (record {
      cid = cid;
      size = Large;
      kind = kind;
      first = first;
      cid_octets = take count octets;
      rest = drop count octets;
    }))

abbrev pub behind_kind : ℕ → ℕ → List ℕ → Result HeadKind FrameRefusal → Result (Option Header) FrameRefusal
behind_kind max_cid first octets (Err refusal) = Err refusal
behind_kind max_cid first octets (Ok kind) = large_header max_cid kind first octets (large_cid octets)

-- what follows the items on a link of large CIDs
abbrev pub large_parts : ℕ → List ℕ → Result (Option Header) FrameRefusal
large_parts max_cid [] = Ok None
large_parts max_cid (first ∷ octets) = behind_kind max_cid first octets (kind_of first)

-- the header after the items, if there is one, or why those octets are not a header
unfoldable pub header_parts : CidKind → ℕ → List ℕ → Result (Option Header) FrameRefusal
header_parts Small max_cid octets = small_parts max_cid octets
header_parts Large max_cid octets = large_parts max_cid octets

abbrev pub with_elements : List (List ℕ) → Result (Option Header) FrameRefusal → Result Reading FrameRefusal
with_elements elements (Err refusal) = Err refusal
with_elements elements (Ok header) = Ok (record { elements = elements; header = header })

-- the one reading of a packet, or the one refusal
unfoldable pub parts_of : CidKind → ℕ → List ℕ → Result Reading FrameRefusal
parts_of size max_cid [] = Err Empty
parts_of size max_cid (octet ∷ octets) =
    with_elements (elements_in (octet ∷ octets)) (header_parts size max_cid (after_items (octet ∷ octets)))
