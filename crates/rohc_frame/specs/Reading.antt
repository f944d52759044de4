-- The reading of a packet, as plain data and as a relation to its octets.
use Rattle.std.specs.Prelude.{◌≡◌, ◌≢◌, ℕ, List, [], ◌++◌, All, true, Option, Some, None, ◌≤◌}
use Rattle.rohc_frame.specs.declared.header.CidKind.{CidKind}
use Rattle.rohc_frame.specs.declared.header.Forward.{Forward}
use Rattle.rohc_frame.specs.declared.elements.Elements.{Elements}
use Rattle.rohc_frame.specs.declared.elements.Framed.{Framed}
use Rattle.rohc_frame.specs.Header.{Header, is_header, header_octets}
use Rattle.rohc_frame.specs.Items.{Item, IsItem, all_spelled, all_contents, elements_in}

-- A packet in its parts: the data of its feedback elements in order, and a header or none.
pub record Reading : Type 0 where
  pub elements : List (List ℕ)
  pub header : Option Header

abbrev pub elements_of : Elements → List (List ℕ)
elements_of e = elements_in e.octets.now

abbrev pub header_of : Forward → Header
header_of f = record {
  cid = f.cid;
  size = f.size;
  kind = f.kind;
  first = f.first;
  cid_octets = f.cid_octets.now;
  rest = f.rest.now;
}

abbrev pub option_header : Option Forward → Option Header
option_header None = None
option_header (Some f) = Some (header_of f)

abbrev pub reading_of : Framed → Reading
reading_of f = record { elements = elements_of f.elements; header = option_header f.forward }

-- The octets are those of a header that this link may carry.
pub record IsHeader (size : CidKind) (max_cid : ℕ) (octets : List ℕ) (h : Header) : Type 0 where
  pub sized : h.size ≡ size
  pub within : h.cid ≤ max_cid
  pub spelled : is_header h.size h.cid h.kind h.first h.cid_octets ≡ true
  pub whole : octets ≡ header_octets h

-- after the items comes a header or nothing
abbrev pub EndsInHeader : CidKind → ℕ → List ℕ → Option Header → Type 0
EndsInHeader size max_cid octets None = octets ≡ []
EndsInHeader size max_cid octets (Some h) = IsHeader size max_cid octets h

-- A reading of a packet (RFC 5795 5): its octets are those of items, followed by those of a header or
-- nothing.
pub record IsReading (size : CidKind) (max_cid : ℕ) (octets : List ℕ) (reading : Reading) : Type 0 where
  pub items : List Item
  pub after : List ℕ
  pub not_empty : octets ≢ []
  pub are_items : All IsItem items
  pub whole : octets ≡ all_spelled items ++ after
  pub elements : reading.elements ≡ all_contents items
  pub ends : EndsInHeader size max_cid after reading.header
