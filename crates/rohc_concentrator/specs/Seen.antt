-- What one CID of one link sees of a concentrator, and what a link sees. Words: Seen, seen_in, seen_at,
-- held_of; View, view_at.
use Rattle.std.specs.Prelude.{ℕ, List, Option, Some, None, nat_eq}
use Rattle.std.specs.Option.{option_map}
use Rattle.indexmap.specs.IndexMap.{get}
use Rattle.rohc_context.specs.declared.settings.Settings.{Settings}
use Rattle.rohc_context.specs.Record.{Record}
use Rattle.rohc_concentrator.specs.declared.concentrator.Concentrator.{Concentrator}
use Rattle.rohc_concentrator.specs.declared.records.LinkRecords.{LinkRecords}
use Rattle.rohc_concentrator.specs.declared.setting.LinkSetting.{LinkSetting}
use Rattle.rohc_concentrator.specs.Setting.{settings_of}
use Rattle.rohc_concentrator.specs.Tables.{setting_at, record_in, identifiers_at}

-- what a CID sees of a link that is there: its settings, and its record, if it has one
pub record Seen : Type 0 where
  pub settings : Settings
  pub held : Option Record

abbrev pub seen_in : LinkRecords → ℕ → Seen
seen_in r cid = record { settings = settings_of r.setting cid; held = record_in r cid }

-- what a CID of a link sees, or nothing if the link isn't there
abbrev pub seen_at : Concentrator → ℕ → ℕ → Option Seen
seen_at k link cid = option_map (λ (r : LinkRecords). seen_in r cid) (get nat_eq k.links link)

-- its record, if there is one
abbrev pub held_of : Option Seen → Option Record
held_of None = None
held_of (Some v) = v.held

-- what a link sees: its setting, if it is there, what each of its CIDs sees, and the CIDs that have a
-- record, in their order
pub record View : Type 0 where
  pub setting : Option LinkSetting
  pub seen : ℕ → Option Seen
  pub cids : List ℕ

abbrev pub view_at : Concentrator → ℕ → View
view_at k link =
    record { setting = setting_at k link; seen = seen_at k link; cids = identifiers_at k link }
