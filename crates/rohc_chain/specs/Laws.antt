-- How the readers of IR and IR-DYN packets and the definitions of their octets fit together.
use Rattle.std.specs.Prelude.{◌≡◌, ℕ, ◌/◌, ◌%◌, ◌<◌, ◌≤◌, ◌↔◌, List, [], ◌∷◌, length, map, All, Some, Ok, Err}
use Rattle.rohc_bits.specs.Places.{row_places, shown_at}
use Rattle.rohc_frame.specs.Header.{Header}
use Rattle.rohc_frame.specs.Laws.{IsOctet}
use Rattle.rohc_header.specs.declared.fields.Static.{Static}
use Rattle.rohc_header.specs.declared.fields.Dynamic.{Dynamic}
use Rattle.rohc_chain.specs.declared.parts.Kept.{Kept}
use Rattle.rohc_chain.specs.declared.refusal.ChainRefusal.{ChainRefusal}
use Rattle.rohc_chain.specs.Packets.{IrContent, DynContent, IsIr, IsIrDyn, nothing_kept, longest_payload, ir_at, ir_dyn_at}
use Rattle.rohc_chain.specs.Good.{IsGoodStatic, IsGoodStride, IsGoodDynamic, IsGoodContent}
use Rattle.rohc_chain.specs.ChainText.{SpellsStatic, SpellsDynamic}
use Rattle.rohc_chain.specs.Octets.{Name, Reserved, Version, Df, Rnd, Nbo, V, P, Rx, Cc, M, Pt, X, Mode, Tis, Tss}
use Rattle.rohc_chain.specs.Chains.{version_row, ip_row, rtp_row, type_row, given_row}
use Rattle.rohc_chain.specs.Texts.{IsIrText, IsIrDynText, IsShort, ir_fault, ir_dyn_fault}

-- an IR of octets is read exactly if its octets encode what is read and the rebuilt packet isn't too long
abbrev pub ReadsIrs : Type 0
ReadsIrs = (h : Header) (content : IrContent) → IsIr h.kind → All IsOctet h.rest →
    (ir_at h ≡ Ok content) ↔ (IsIrText h content × IsShort content)

-- it is refused exactly if that is its first fault
abbrev pub RefusesIrs : Type 0
RefusesIrs = (h : Header) (refusal : ChainRefusal) → (ir_at h ≡ Err refusal) ↔ (ir_fault h ≡ Some refusal)

-- an IR says at most one thing
abbrev pub SaysOne : Type 0
SaysOne = (h : Header) (a b : IrContent) → IsIrText h a → IsIrText h b → a ≡ b

-- the same for an IR-DYN, in a context of profile 0 or 1
abbrev pub ReadsIrDyns : Type 0
ReadsIrDyns = (h : Header) (profile : ℕ) (kept : Kept) (packet : DynContent) → IsIrDyn h.kind → profile ≤ 1 →
    All IsOctet h.rest →
    (ir_dyn_at h profile kept ≡ Ok packet) ↔ (IsIrDynText h profile kept packet
    × (length packet.payload ≤ longest_payload))

-- it is refused exactly if that is its first fault
abbrev pub RefusesIrDyns : Type 0
RefusesIrDyns = (h : Header) (profile : ℕ) (kept : Kept) (refusal : ChainRefusal) →
    (ir_dyn_at h profile kept ≡ Err refusal) ↔ (ir_dyn_fault h profile ≡ Some refusal)

-- it says at most one thing
abbrev pub DynSaysOne : Type 0
DynSaysOne = (h : Header) (profile : ℕ) (kept : Kept) (a b : DynContent) → IsIrDynText h profile kept a →
    IsIrDynText h profile kept b → a ≡ b

-- the numbers of an IR of octets are in their ranges
abbrev pub SaysGood : Type 0
SaysGood = (h : Header) (content : IrContent) → All IsOctet h.rest → IsIrText h content →
    IsGoodContent content

-- so are those of an IR-DYN, if the stride that is kept is good
abbrev pub DynSaysGood : Type 0
DynSaysGood = (h : Header) (profile : ℕ) (kept : Kept) (packet : DynContent) → All IsOctet h.rest →
    IsGoodStride kept.stride →
    IsIrDynText h profile kept packet → IsGoodDynamic packet.moving × All IsOctet packet.payload

-- conversely, octets can encode what is good: each static chain
abbrev pub SpellsEachStatic : Type 0
SpellsEachStatic = (fixed : Static) → IsGoodStatic fixed →
    (text : List ℕ) × All IsOctet text × SpellsStatic fixed text

-- and each dynamic chain, without values that are kept
abbrev pub SpellsEachDynamic : Type 0
SpellsEachDynamic = (moving : Dynamic) → IsGoodDynamic moving →
    (text : List ℕ) × All IsOctet text × SpellsDynamic nothing_kept moving text

-- the fields of an octet with the numbers at their places
abbrev pub fields_of : ℕ → List (Name × ℕ) → List (Name × ℕ)
fields_of octet row = map (shown_at (octet ∷ [])) (row_places 0 row)

-- what is said or judged of an octet with several fields stands at their places
pub record StandInPlace (n : ℕ) : Type 0 where
  pub version : fields_of n version_row ≡ (Version, n / 16) ∷ (Reserved, n % 16) ∷ []
  pub ip : fields_of n ip_row
      ≡ (Df, n / 128) ∷ (Rnd, n / 64 % 2) ∷ (Nbo, n / 32 % 2) ∷ (Reserved, n % 32) ∷ []
  pub rtp : fields_of n rtp_row ≡ (V, n / 64) ∷ (P, n / 32 % 2) ∷ (Rx, n / 16 % 2) ∷ (Cc, n % 16) ∷ []
  pub type : fields_of n type_row ≡ (M, n / 128) ∷ (Pt, n % 128) ∷ []
  pub given : fields_of n given_row
      ≡ (Reserved, n / 32) ∷ (X, n / 16 % 2) ∷ (Mode, n / 4 % 4) ∷ (Tis, n / 2 % 2) ∷ (Tss, n % 2) ∷ []

abbrev pub RowsInPlace : Type 0
RowsInPlace = (n : ℕ) → n < 256 → StandInPlace n
