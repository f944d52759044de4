-- The places of a packet's fields, for those who show packets. A packet's octets are its first octet and
-- those behind its CID octets. Words: form_places; SaidInPlace, PartsInPlace; ShowsExtension1 to
-- ShowsExtension3.
use Rattle.std.specs.Prelude.{◌≡◌, ℕ, ◌*◌, ◌<◌, List, [], ◌∷◌, ◌++◌, length, map, All, Bool, true, false}
use Rattle.rohc_bits.specs.Bits.{IsOctet}
use Rattle.rohc_bits.specs.Places.{Place, row_places, places_in, places, shown_at}
use Rattle.rohc_frame.specs.Header.{Header}
use Rattle.rohc_frame.specs.declared.header.CidKind.TheVariants.{Small}
use Rattle.rohc_frame.specs.declared.header.HeadKind.TheVariants.{Other}
use Rattle.rohc_forms.specs.declared.refusal.FormRefusal.TheVariants.{Truncated}
use Rattle.rohc_forms.specs.Octets.{read}
use Rattle.rohc_forms.specs.Table.{Fixed, Sn, Ts, Id, Marker, Extended, Check, Prefix, S, R-TS, Tsc, I, IP, RTP, TOS, TTL, DF, PR, IPX, NBO, RND, IP2, Mode, R-PT, M, R-X, CSRC, TSS, TIS, P, PT, Name, Of, By, UdpSum, Layout, Said, Extension3Octet, layout, named, row, parts, width, under, and_said, number_in}
use Rattle.rohc_forms.specs.Formats.{number_of}
use Rattle.rohc_forms.specs.Packets.{head_at, header_at}

-- The places of a packet's fields, up to its payload or its first fault: those of its format, by the RND in
-- force, and those behind.
abbrev pub form_places : Header → Bool → Bool → Bool → List (Place Name)
form_places h rnd udp_sum stride_known =
    places_in (read (head_at h.first rnd stride_known) h.rest)
    (λ head _. row_places 0 (named (layout head.kind)))
    ++ places Truncated (header_at h.first rnd udp_sum stride_known) 1 h.rest

-- what numbers say as the fields of a format
abbrev pub with_numbers : Layout → List (Name × ℕ) → Said → Said
with_numbers [] numbers said = said
with_numbers ((field, bits) ∷ more) [] said = said
with_numbers ((field, bits) ∷ more) ((name, n) ∷ numbers) said =
    with_numbers more numbers (and_said field (record { count = bits; value = n }) said)

-- what octets say under a format is what stands at the places of its fields
abbrev pub SaidInPlace : Type 0
SaidInPlace = (l : Layout) (octets : List ℕ) (before : Said) → All IsOctet octets →
    width l ≡ 8 * length octets →
    under l (number_of octets) before
    ≡ with_numbers l (map (shown_at octets) (row_places 0 (named l))) before

-- and so is what an octet of an extension 3 says of its parts
abbrev pub PartsInPlace : Type 0
PartsInPlace = (octet : Extension3Octet) (n : ℕ) → n < 256 →
    map (λ part. (By part, number_in part n)) (parts octet)
    ≡ map (shown_at (n ∷ [])) (row_places 0 (row octet))

-- a packet for CID 0
abbrev pub packet : ℕ → List ℕ → Header
packet first rest =
    record { cid = 0; size = Small; kind = Other; first = first; cid_octets = []; rest = rest }

-- names, each with the number at its place
abbrev pub shown : Header → List (Place Name) → List (Name × ℕ)
shown h found = map (shown_at (h.first ∷ h.rest)) found

-- Worked packets, each with two octets of payload. First a UO-1-ID with an extension 1.
abbrev pub extended_1 : Header
extended_1 = packet 0x96 (0xab ∷ 0x71 ∷ 0x3e ∷ 0xca ∷ 0xfe ∷ [])

abbrev pub ShowsExtension1 : Type 0
ShowsExtension1 = shown extended_1 (form_places extended_1 false false false)
    ≡ (Of (Fixed 4), 4) ∷ (Of Id, 22) ∷ (Of Extended, 1) ∷ (Of Sn, 5) ∷ (Of Check, 3)
    ∷ (Of (Fixed 1), 1) ∷ (Of Sn, 6) ∷ (Of Id, 1) ∷ (Of Ts, 0x3e) ∷ []

-- a UOR-2 under RND 1 with an extension 2, and the Identification behind it
abbrev pub extended_2 : Header
extended_2 = packet 0xc3 (0x87 ∷ 0xaa ∷ 0xab ∷ 0x5c ∷ 0x6d ∷ 0x12 ∷ 0x34 ∷ 0xca ∷ 0xfe ∷ [])

abbrev pub ShowsExtension2 : Type 0
ShowsExtension2 = shown extended_2 (form_places extended_2 true false false)
    ≡ (Of (Fixed 6), 6) ∷ (Of Ts, 7) ∷ (Of Marker, 0) ∷ (Of Sn, 7) ∷ (Of Extended, 1) ∷ (Of Check, 0x2a)
    ∷ (Of (Fixed 2), 2) ∷ (Of Sn, 5) ∷ (Of Ts, 3) ∷ (Of Ts, 0x5c) ∷ (Of Ts, 0x6d) ∷ (Of Id, 0x1234) ∷ []

-- a UOR-2-TS with each octet that an extension 3 can have, and a UDP checksum
abbrev pub extended_3 : Header
extended_3 = packet 0xd5
    (0xea ∷ 0xd5 ∷ 0xf7 ∷ 0xf4 ∷ 0x2c ∷ 0x15 ∷ 0xb8 ∷ 0x40 ∷ 0x11 ∷ 0x12 ∷ 0x34
    ∷ 0xb3 ∷ 0x60 ∷ 0x80 ∷ 0xa0 ∷ 0x14 ∷ 0xbe ∷ 0xef ∷ 0xca ∷ 0xfe ∷ [])

abbrev pub ShowsExtension3 : Type 0
ShowsExtension3 = shown extended_3 (form_places extended_3 false true false)
    ≡ (Of (Fixed 6), 6) ∷ (Of Ts, 21) ∷ (Of (Fixed 1), 1) ∷ (Of Marker, 1) ∷ (Of Sn, 42)
    ∷ (Of Extended, 1) ∷ (Of Check, 0x55)
    ∷ (By Prefix, 3) ∷ (By S, 1) ∷ (By R-TS, 1) ∷ (By Tsc, 0) ∷ (By I, 1) ∷ (By IP, 1) ∷ (By RTP, 1)
    ∷ (By TOS, 1) ∷ (By TTL, 1) ∷ (By DF, 1) ∷ (By PR, 1) ∷ (By IPX, 0) ∷ (By NBO, 1) ∷ (By RND, 0)
    ∷ (By IP2, 0)
    ∷ (Of Sn, 0x2c) ∷ (Of Ts, 0x15) ∷ (By TOS, 0xb8) ∷ (By TTL, 64) ∷ (By PR, 17) ∷ (Of Id, 0x1234)
    ∷ (By Mode, 2) ∷ (By R-PT, 1) ∷ (By M, 1) ∷ (By R-X, 0) ∷ (By CSRC, 0) ∷ (By TSS, 1) ∷ (By TIS, 1)
    ∷ (By P, 0) ∷ (By PT, 96) ∷ (By TSS, 0x80a0) ∷ (By TIS, 20) ∷ (UdpSum, 0xbeef) ∷ []
