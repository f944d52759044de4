-- What the IRs of a link say of its kind of CIDs. Words: ir_cid; kind_by.
use Rattle.std.specs.Prelude.{ℕ, List, nat_lt, if◌then◌else◌, Option, Some, None, Result, Ok, Err}
use Rattle.rohc_frame.specs.declared.header.CidKind.{CidKind}
use Rattle.rohc_frame.specs.declared.header.CidKind.TheVariants.{Small, Large}
use Rattle.rohc_frame.specs.declared.header.HeadKind.{HeadKind}
use Rattle.rohc_frame.specs.declared.header.HeadKind.TheVariants.{Ir, IrDyn, Other}
use Rattle.rohc_frame.specs.declared.refusal.FrameRefusal.{FrameRefusal}
use Rattle.rohc_frame.specs.Header.{Header, greatest_cid}
use Rattle.rohc_frame.specs.Reading.{Reading}
use Rattle.rohc_frame.specs.Parts.{parts_of}
use Rattle.rohc_chain.specs.declared.refusal.ChainRefusal.{ChainRefusal}
use Rattle.rohc_chain.specs.Packets.{IrContent, ir_at}

-- the CID of an IR, if the IR is decoded
abbrev pub cid_by : Header → Result IrContent ChainRefusal → Option ℕ
cid_by h (Ok content) = Some h.cid
cid_by h (Err refusal) = None

-- the CID of a header of this kind, if it is an IR and is decoded
abbrev pub cid_under : HeadKind → Header → Option ℕ
cid_under (Ir dynamic) h = cid_by h (ir_at h)
cid_under IrDyn h = None
cid_under Other h = None

abbrev pub cid_in : Option Header → Option ℕ
cid_in (Some h) = cid_under h.kind h
cid_in None = None

abbrev pub cid_of : Result Reading FrameRefusal → Option ℕ
cid_of (Ok reading) = cid_in reading.header
cid_of (Err refusal) = None

-- the CID of a packet, if it is an IR that is decoded, its check included, where CIDs are of this kind
abbrev pub ir_cid : CidKind → List ℕ → Option ℕ
ir_cid size octets = cid_of (parts_of size (greatest_cid size) octets)

-- the kind of CIDs by which more IRs are decoded; of equal numbers, small ones
abbrev pub kind_by : ℕ → ℕ → CidKind
kind_by small large = if nat_lt small large then Large else Small
