-- Whether a packet of a link was repaired. Words: IsRepairedCut, IsRepairedRead; IsRepaired.
use Rattle.std.specs.Prelude.{◌≡◌, ℕ, List, Bool, false, Option, Some, None, Result, Ok, Err}
use Rattle.rohc_frame.specs.Header.{Header}
use Rattle.rohc_frame.specs.Reading.{Reading}
use Rattle.rohc_frame.specs.Parts.{parts_of}
use Rattle.rohc_frame.specs.declared.refusal.FrameRefusal.{FrameRefusal}
use Rattle.rohc_context.specs.Record.{Record}
use Rattle.rohc_context.specs.Repaired.{Repairs}
use Rattle.rohc_concentrator.specs.declared.setting.LinkSetting.{LinkSetting}
use Rattle.rohc_concentrator.specs.Setting.{settings_of}
use Rattle.rohc_concentrator.specs.Report.{Report, Arrived}

-- a packet with a header and this answer, by the context of its CID; no other packet is repaired
abbrev pub IsRepairedCut : LinkSetting → ℕ → Option Header → (ℕ → Option Record) → Report → Bool → Type 0
IsRepairedCut s moment (Some h) before (Arrived cid response relayed) repaired =
    Repairs (before h.cid) (settings_of s h.cid) moment h response repaired
IsRepairedCut s moment header before report repaired = repaired ≡ false

-- a packet, by its one reading
abbrev pub IsRepairedRead : LinkSetting → ℕ → Result Reading FrameRefusal → (ℕ → Option Record) → Report
    → Bool → Type 0
IsRepairedRead s moment (Err refusal) before report repaired = repaired ≡ false
IsRepairedRead s moment (Ok reading) before report repaired =
    IsRepairedCut s moment reading.header before report repaired

-- The link's setting if it is there, the records of its CIDs before, the arrival time, the packet and its
-- answer, and whether the packet was repaired.
abbrev pub IsRepaired : Option LinkSetting → (ℕ → Option Record) → ℕ → List ℕ → Report → Bool → Type 0
IsRepaired None before moment octets report repaired = repaired ≡ false
IsRepaired (Some s) before moment octets report repaired =
    IsRepairedRead s moment (parts_of s.settings.size s.settings.max_cid octets) before report repaired
