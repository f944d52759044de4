-- What is seen of a packet before it arrives. Words: if_other, record_for, record_ahead.
use Rattle.std.specs.Prelude.{ℕ, List, Option, Some, None, Result, Ok, Err}
use Rattle.rohc_frame.specs.declared.header.HeadKind.{HeadKind}
use Rattle.rohc_frame.specs.declared.header.HeadKind.TheVariants.{Ir, IrDyn, Other}
use Rattle.rohc_frame.specs.declared.refusal.FrameRefusal.{FrameRefusal}
use Rattle.rohc_frame.specs.Header.{Header}
use Rattle.rohc_frame.specs.Parts.{header_parts}
use Rattle.rohc_context.specs.Record.{Record}
use Rattle.rohc_concentrator.specs.declared.setting.LinkSetting.{LinkSetting}

-- what is there for a header of kind Other; nothing for an IR or an IR-DYN
abbrev pub if_other : HeadKind → Option Record → Option Record
if_other (Ir dynamic) found = None
if_other IrDyn found = None
if_other Other found = found

-- the record of the header's CID, if there is one
abbrev pub record_for : (ℕ → Option Record) → Result (Option Header) FrameRefusal → Option Record
record_for records (Ok (Some h)) = if_other h.kind (records h.cid)
record_for records (Ok None) = None
record_for records (Err refusal) = None

-- the same, of the header at the front of a packet on a link with this setting
abbrev pub record_ahead : Option LinkSetting → (ℕ → Option Record) → List ℕ → Option Record
record_ahead None records octets = None
record_ahead (Some s) records octets =
    record_for records (header_parts s.settings.size s.settings.max_cid octets)
