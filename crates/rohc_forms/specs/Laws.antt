-- Laws of packets of kind Other: their octets say one thing, which is exactly what is read.
use Rattle.std.specs.Prelude.{◌≡◌, ◌↔◌, ℕ, ◌+◌, ◌*◌, ◌<◌, ◌≤◌, List, [], ◌∷◌, ◌++◌, length, All, Bool, Some, Ok, Err}
use Rattle.rohc_bits.specs.Grammar.{SaidBy}
use Rattle.rohc_frame.specs.Header.{Header}
use Rattle.rohc_forms.specs.declared.form.FormKind.{FormKind}
use Rattle.rohc_forms.specs.declared.parts.Base.{Base}
use Rattle.rohc_frame.specs.Laws.{IsOctet}
use Rattle.rohc_forms.specs.declared.refusal.FormRefusal.{FormRefusal}
use Rattle.rohc_forms.specs.Content.{Content}
use Rattle.rohc_forms.specs.Packets.{base_at, short_extension_at, form_at}
use Rattle.rohc_forms.specs.Says.{IsForm, form_fault}
use Rattle.rohc_forms.specs.Content.{form_kind}
use Rattle.rohc_forms.specs.Formats.{base_of, number_of}
use Rattle.rohc_forms.specs.Table.{Said, Layout, layout, short_layout, width, under, Part, Prefix, Extension3Octet, parts, size, place, number_in}
use Rattle.rohc_forms.specs.Good.{IsGoodContent}

-- a packet is refused exactly if that is the first fault among its fields
abbrev pub RefusesForms : Type 0
RefusesForms = (h : Header) (rnd udp_sum stride_known : Bool) (refusal : FormRefusal) →
    (form_at h rnd udp_sum stride_known ≡ Err refusal) ↔
    (form_fault h rnd udp_sum stride_known ≡ Some refusal)

-- a packet is read exactly if its octets say what is read
abbrev pub ReadsForms : Type 0
ReadsForms = (h : Header) (rnd udp_sum stride_known : Bool) (c : Content) →
    (form_at h rnd udp_sum stride_known ≡ Ok c) ↔ IsForm h rnd udp_sum stride_known c

-- they say at most one thing
abbrev pub SaysOne : Type 0
SaysOne = (h : Header) (rnd udp_sum stride_known : Bool) (a b : Content) →
    IsForm h rnd udp_sum stride_known a → IsForm h rnd udp_sum stride_known b → a ≡ b

-- what octets say is in range
abbrev pub SaysGood : Type 0
SaysGood = (h : Header) (rnd udp_sum stride_known : Bool) (c : Content) → All IsOctet h.rest →
    IsForm h rnd udp_sum stride_known c → IsGoodContent h.first udp_sum stride_known c

-- These octets, with the first one, have as many bits as a format, and are one number.
pub record IsNumber (l : Layout) (first : ℕ) (text : List ℕ) (n : ℕ) : Type 0 where
  pub counted : length (first ∷ text) * 8 ≡ width l
  pub number : n ≡ number_of (first ∷ text)

-- The octets before an extension are those of the packet's format. Of three octets, as many are read.
abbrev pub CountsOctets : Type 0
CountsOctets = (rnd : Bool) →
    ((first : ℕ) (base : Base) (text : List ℕ) → SaidBy (base_at first) base text ↔
    ((base.first ≡ first) × IsNumber (layout (form_kind base rnd)) first text base.number))
    × ((a b c : ℕ) → (octets : List ℕ) × (behind : List ℕ) × (b ∷ c ∷ [] ≡ octets ++ behind)
    × SaidBy (base_at a) (base_of a b c) octets)

-- The octets of an extension 0, 1 or 2 are those of its format, and say its fields.
abbrev pub CountsExtension : Type 0
CountsExtension = (kind : FormKind) (first : ℕ) (before after : Said) (text : List ℕ) →
    SaidBy (short_extension_at kind first before) after text ↔
    ((number : ℕ) × IsNumber (short_layout kind first) first text number
    × (after ≡ under (short_layout kind first) number before))

-- an octet starts an extension 3 exactly if its prefix is 11
abbrev pub BeginsWith11 : Type 0
BeginsWith11 = (first : ℕ) → first < 256 → (0xc0 ≤ first) ↔ (number_in Prefix first ≡ 3)

-- how many bits these parts have in all
abbrev pub bits_of : List Part → ℕ
bits_of [] = 0
bits_of (part ∷ more) = size part + bits_of more

-- each octet of an extension 3 has eight bits
abbrev pub HaveEightBits : Type 0
HaveEightBits = (octet : Extension3Octet) → bits_of (parts octet) ≡ 8

-- each part stands in one of these octets, followed by as many bits as its place says
abbrev pub StandInPlace : Type 0
StandInPlace = (part : Part) → (octet : Extension3Octet) × (before : List Part) × (behind : List Part) ×
    (parts octet ≡ before ++ part ∷ behind) × (place part ≡ bits_of behind)
