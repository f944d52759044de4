-- Bears: the header of a packet's one reading, and the CID that the packet bears by it.
use Rattle.std.specs.Prelude.{ℕ, List, Option, Some, None, Result, Ok, Err}
use Rattle.rohc_frame.specs.Header.{Header}
use Rattle.rohc_frame.specs.Reading.{Reading}
use Rattle.rohc_frame.specs.Parts.{parts_of}
use Rattle.rohc_frame.specs.declared.refusal.FrameRefusal.{FrameRefusal}
use Rattle.rohc_concentrator.specs.declared.setting.LinkSetting.{LinkSetting}

-- the header of a reading, if there is one; a refused packet has none
abbrev pub header_in : Result Reading FrameRefusal → Option Header
header_in (Ok reading) = reading.header
header_in (Err refusal) = None

-- the header of a packet on a link, if it has one
abbrev pub header_on : LinkSetting → List ℕ → Option Header
header_on s octets = header_in (parts_of s.settings.size s.settings.max_cid octets)

-- the CID of a header, if there is one
abbrev pub cid_in : Option Header → Option ℕ
cid_in None = None
cid_in (Some h) = Some h.cid

-- the CID that a packet bears on a link, if the link is there and the packet bears one
abbrev pub borne : Option LinkSetting → List ℕ → Option ℕ
borne None octets = None
borne (Some s) octets = cid_in (header_on s octets)
