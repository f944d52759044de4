-- The places of a packet's fields, for those who show packets. A packet's octets are its first octet and
-- those behind its CID octets. Words: ir_places, ir_dyn_places; ShowsIr, ShowsCutIr, ShowsIrDyn.
use Rattle.std.specs.Prelude.{◌≡◌, ℕ, List, [], ◌∷◌, ◌++◌, map, take, true}
use Rattle.rohc_bits.specs.Places.{Place, places, shown_at}
use Rattle.rohc_frame.specs.Header.{Header}
use Rattle.rohc_frame.specs.declared.header.CidKind.TheVariants.{Small}
use Rattle.rohc_frame.specs.declared.header.HeadKind.{HeadKind}
use Rattle.rohc_frame.specs.declared.header.HeadKind.TheVariants.{Ir, IrDyn}
use Rattle.rohc_chain.specs.declared.refusal.ChainRefusal.TheVariants.{Truncated}
use Rattle.rohc_chain.specs.Octets.{Name, Profile, Crc, Reserved, Version, Protocol, Source, Destination, SourcePort, DestinationPort, Ssrc, Tos, Ttl, Id, Df, Rnd, Nbo, ExtensionHeaders, UdpSum, V, P, Rx, Cc, M, Pt, Sn, Ts, CsrcList, X, Mode, Tis, Tss, TsStride, TimeStride}
use Rattle.rohc_chain.specs.Packets.{is_dynamic}
use Rattle.rohc_chain.specs.Texts.{ir_pieces, ir_dyn_pieces}

-- the places of the fields of an IR and of an IR-DYN, up to the payload or the first fault
abbrev pub ir_places : Header → List (Place Name)
ir_places h = places Truncated (ir_pieces (is_dynamic h.kind)) 1 h.rest

abbrev pub ir_dyn_places : Header → ℕ → List (Place Name)
ir_dyn_places h profile = places Truncated (ir_dyn_pieces profile) 1 h.rest

-- a packet for CID 0
abbrev pub packet : HeadKind → ℕ → List ℕ → Header
packet kind first rest =
    record { cid = 0; size = Small; kind = kind; first = first; cid_octets = []; rest = rest }

-- names, each with the number at its place
abbrev pub shown : Header → List (Place Name) → List (Name × ℕ)
shown h found = map (shown_at (h.first ∷ h.rest)) found

-- A worked static chain: from 10.0.0.1, port 5000, to 10.0.0.2, port 5002 (RFC 3095 5.7.7.4 to 5.7.7.6).
abbrev pub fixed_octets : List ℕ
fixed_octets =
    0x40 ∷ 0x11 ∷ 10 ∷ 0 ∷ 0 ∷ 1 ∷ 10 ∷ 0 ∷ 0 ∷ 2 ∷ 0x13 ∷ 0x88 ∷ 0x13 ∷ 0x8a ∷ 1 ∷ 2 ∷ 3 ∷ 4 ∷ []

abbrev pub fixed_fields : List (Name × ℕ)
fixed_fields =
    (Version, 4) ∷ (Reserved, 0) ∷ (Protocol, 17) ∷ (Source, 0x0a000001) ∷ (Destination, 0x0a000002)
    ∷ (SourcePort, 5000) ∷ (DestinationPort, 5002) ∷ (Ssrc, 0x01020304) ∷ []

-- A worked dynamic chain, with each octet that it can have, and then two octets of payload.
abbrev pub moving_octets : List ℕ
moving_octets =
    0xb8 ∷ 0x40 ∷ 0x12 ∷ 0x34 ∷ 0xa0 ∷ 0 ∷ 0xbe ∷ 0xef
    ∷ 0xb0 ∷ 0xe0 ∷ 0x56 ∷ 0x78 ∷ 0 ∷ 0 ∷ 0 ∷ 0xa0 ∷ 0 ∷ 0x1b ∷ 0x80 ∷ 0xa0 ∷ 0x14 ∷ 0xca ∷ 0xfe ∷ []

abbrev pub moving_fields : List (Name × ℕ)
moving_fields =
    (Tos, 0xb8) ∷ (Ttl, 64) ∷ (Id, 0x1234) ∷ (Df, 1) ∷ (Rnd, 0) ∷ (Nbo, 1) ∷ (Reserved, 0)
    ∷ (ExtensionHeaders, 0) ∷ (UdpSum, 0xbeef)
    ∷ (V, 2) ∷ (P, 1) ∷ (Rx, 1) ∷ (Cc, 0) ∷ (M, 1) ∷ (Pt, 96) ∷ (Sn, 0x5678) ∷ (Ts, 160) ∷ (CsrcList, 0)
    ∷ (Reserved, 0) ∷ (X, 1) ∷ (Mode, 2) ∷ (Tis, 1) ∷ (Tss, 1) ∷ (TsStride, 0x80a0) ∷ (TimeStride, 20) ∷ []

-- an IR with both chains: its profile, its check, and the fields of its chains
abbrev pub whole_ir : Header
whole_ir = packet (Ir true) 0xfd (1 ∷ 0x97 ∷ fixed_octets ++ moving_octets)

abbrev pub ShowsIr : Type 0
ShowsIr = shown whole_ir (ir_places whole_ir)
    ≡ (Profile, 1) ∷ (Crc, 0x97) ∷ fixed_fields ++ moving_fields

-- the same, cut off within its source address
abbrev pub cut_ir : Header
cut_ir = packet (Ir true) 0xfd (1 ∷ 0x97 ∷ take 4 fixed_octets)

abbrev pub ShowsCutIr : Type 0
ShowsCutIr = shown cut_ir (ir_places cut_ir)
    ≡ (Profile, 1) ∷ (Crc, 0x97) ∷ take 3 fixed_fields

-- an IR-DYN with this dynamic chain
abbrev pub whole_ir_dyn : Header
whole_ir_dyn = packet IrDyn 0xf8 (1 ∷ 0x97 ∷ moving_octets)

abbrev pub ShowsIrDyn : Type 0
ShowsIrDyn = shown whole_ir_dyn (ir_dyn_places whole_ir_dyn 1)
    ≡ (Profile, 1) ∷ (Crc, 0x97) ∷ moving_fields
