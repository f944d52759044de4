-- What an arrival does to the records of its link.
-- Words: TakesOnLink, Stays; MissedOn, MissedBy.
use Rattle.std.specs.Prelude.{◌≡◌, ◌≢◌, ℕ, List, Option, Some, IfSome, Ok}
use Rattle.indexmap.specs.IndexMap.{keys}
use Rattle.rohc_frame.specs.Header.{Header, IsOther}
use Rattle.rohc_frame.specs.Parts.{header_parts}
use Rattle.rohc_context.specs.Record.{Record}
use Rattle.rohc_context.specs.Step.{HasMissed}
use Rattle.rohc_concentrator.specs.declared.concentrator.Concentrator.{Concentrator}
use Rattle.rohc_concentrator.specs.declared.setting.LinkSetting.{LinkSetting}
use Rattle.rohc_concentrator.specs.declared.records.LinkRecords.{LinkRecords}
use Rattle.rohc_concentrator.specs.Tables.{setting_at, record_at, record_in, KeepsPlaces}
use Rattle.rohc_concentrator.specs.Report.{Report, IsAnswered}
use Rattle.rohc_concentrator.specs.Bears.{borne}

-- a packet arrives on the link and is answered; its setting stays, and each record of a CID that the packet
-- doesn't bear
pub record TakesOnLink (old : LinkRecords) (moment : ℕ) (octets : List ℕ) (report : Report)
    (new : LinkRecords) : Type 0 where
  pub answer : IsAnswered (Some old.setting) (record_in old) moment octets report (record_in new)
  pub setting : new.setting ≡ old.setting
  pub others : (cid : ℕ) → borne (Some old.setting) octets ≢ Some cid →
      record_in new cid ≡ record_in old cid
  pub order : KeepsPlaces (keys old.contexts) (keys new.contexts) (borne (Some old.setting) octets)
      (record_in old)

-- the setting, the records and their order stay
pub record Stays (old new : LinkRecords) : Type 0 where
  pub setting : new.setting ≡ old.setting
  pub records : (cid : ℕ) → record_in new cid ≡ record_in old cid
  pub order : keys new.contexts ≡ keys old.contexts

-- A packet that is only a header of kind Other and its payload was tried against the record of its CID, and
-- misses by the first try.
abbrev pub MissedOn : LinkSetting → (ℕ → Option Record) → ℕ → List ℕ → Type 0
MissedOn s before moment octets =
    (h : Header) → header_parts s.settings.size s.settings.max_cid octets ≡ Ok (Some h) → IsOther h.kind →
    IfSome (before h.cid) (λ r. HasMissed s.settings.idle_ms moment r h)

-- the same by a link's setting and records, if the link is there
abbrev pub MissedBy : Concentrator → (link moment : ℕ) → List ℕ → Type 0
MissedBy k link moment octets =
    IfSome (setting_at k link) (λ s. MissedOn s (record_at k link) moment octets)
