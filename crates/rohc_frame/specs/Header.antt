-- Headers in a packet: their CIDs, kinds and octets.
use Rattle.std.specs.Prelude.{ℕ, ◌+◌, ◌*◌, ◌/◌, ◌%◌, List, [], ◌∷◌, ◌++◌, Bool, false, ◌==◌, ◌&&◌, nat_lt, nat_le, if◌then◌else◌}
use Rattle.rohc_frame.specs.declared.header.CidKind.{CidKind}
use Rattle.rohc_frame.specs.declared.header.CidKind.TheVariants.{Small, Large}
use Rattle.rohc_frame.specs.declared.header.HeadKind.{HeadKind}
use Rattle.rohc_frame.specs.declared.header.HeadKind.TheVariants.{Ir, IrDyn, Other}

-- A header, apart from where its octets lie in memory.
pub record Header : Type 0 where
  pub cid : ℕ
  pub size : CidKind
  pub kind : HeadKind
  pub first : ℕ
  pub cid_octets : List ℕ
  pub rest : List ℕ

-- the greatest CID that a link of this kind can encode (RFC 3095 5.1.3)
abbrev pub greatest_cid : CidKind → ℕ
greatest_cid Small = 15
greatest_cid Large = 16383

-- the number lies from low to high, both included
abbrev pub is_within : ℕ → ℕ → ℕ → Bool
is_within low high n = nat_le low n && nat_le n high

-- the first octet of a header gives this kind (RFC 5795 5.2): FC or FD, F8, below E0
abbrev pub is_kind : HeadKind → ℕ → Bool
is_kind (Ir dynamic) first = first == (if dynamic then 0xfd else 0xfc)
is_kind IrDyn first = first == 0xf8
is_kind Other first = nat_lt first 0xe0

-- the header is an IR
abbrev pub IsIr : HeadKind → Type 0
IsIr (Ir dynamic) = Unit {0}
IsIr IrDyn = ⊥
IsIr Other = ⊥

-- the header is an IR-DYN
abbrev pub IsIrDyn : HeadKind → Type 0
IsIrDyn (Ir dynamic) = ⊥
IsIrDyn IrDyn = Unit {0}
IsIrDyn Other = ⊥

-- neither: its profile says what it is
abbrev pub IsOther : HeadKind → Type 0
IsOther (Ir dynamic) = ⊥
IsOther IrDyn = ⊥
IsOther Other = Unit {0}

-- These octets encode this CID (RFC 5795 5.1.3). On a link of small CIDs, they are none for 0, and else one
-- Add-CID octet; on a link of large CIDs, a self-describing value of one or two octets.
abbrev pub is_identifier : CidKind → ℕ → List ℕ → Bool
is_identifier Small cid [] = cid == 0
is_identifier Small cid (a ∷ []) = is_within 0xe1 0xef a && (a == 0xe0 + cid)
is_identifier Small cid (a ∷ b ∷ octets) = false
is_identifier Large cid [] = false
is_identifier Large cid (a ∷ []) = (a / 128 == 0) && (cid == a)
is_identifier Large cid (a ∷ b ∷ []) = (a / 64 == 2) && (cid == a % 64 * 256 + b)
is_identifier Large cid (a ∷ b ∷ c ∷ octets) = false

-- these CID octets and this first octet make a header with this CID and of this kind
abbrev pub is_header : CidKind → ℕ → HeadKind → ℕ → List ℕ → Bool
is_header size cid kind first octets = is_identifier size cid octets && is_kind kind first

-- A header's octets: an Add-CID octet precedes its first octet; a large CID follows it.
abbrev pub placed : CidKind → List ℕ → ℕ → List ℕ → List ℕ
placed Small cid_octets first rest = cid_octets ++ first ∷ rest
placed Large cid_octets first rest = first ∷ cid_octets ++ rest

abbrev pub header_octets : Header → List ℕ
header_octets h = placed h.size h.cid_octets h.first h.rest
