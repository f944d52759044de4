-- What stands at a place. Words: profile_number, state_number; link_at, identifier_at; IsContextAt;
-- expired_of, has_expired.
use Rattle.std.specs.Prelude.{◌≡◌, ℕ, Bool, false, Option, Some, None, option_map, slice_get}
use Rattle.rohc_context.specs.Record.{Record}
use Rattle.rohc_context.specs.Standing.{profile_of, context_state_of}
use Rattle.rohc_context.specs.declared.standing.Profile.{Profile}
use Rattle.rohc_context.specs.declared.standing.Profile.TheVariants as profiles
use Rattle.rohc_context.specs.declared.standing.ContextState.{ContextState}
use Rattle.rohc_context.specs.declared.standing.ContextState.TheVariants as states
use Rattle.rohc_concentrator.specs.declared.concentrator.Concentrator.{Concentrator}
use Rattle.rohc_concentrator.specs.Tables.{settings_in_order, setting_at, identifiers_at, record_at}
use Rattle.rohc_concentrator.specs.Leaving.{is_expired}
use Rattle.rohc_concentrator.specs.declared.setting.LinkSetting.{LinkSetting}
use Rattle.rohc_c.specs.declared.standing.RohcContextInfo.{RohcContextInfo}

-- the number of a profile (RFC 3095 8)
abbrev pub profile_number : Profile → ℕ
profile_number profiles.Uncompressed = 0x0000
profile_number profiles.Rtp = 0x0001

-- the number of a state: of enum polorowan_state
abbrev pub state_number : ContextState → ℕ
state_number states.NoContext = 0
state_number states.StaticContext = 1
state_number states.FullContext = 2

-- the number of the link at a place, in the order of the settings, if there is a concentrator with so many
-- links
abbrev pub link_at : Option Concentrator → ℕ → Option ℕ
link_at None place = None
link_at (Some k) place = option_map (λ s. s.link) (slice_get (settings_in_order k) place)

-- the CID at a place among those of a link that have a record, in the order of their first IR, if there is a
-- concentrator whose link has so many
abbrev pub identifier_at : Option Concentrator → (link place : ℕ) → Option ℕ
identifier_at None link place = None
identifier_at (Some k) link place = slice_get (identifiers_at k link) place

-- there is a concentrator, and this is the context of the CID at a place
pub record IsContextAt (g : Option Concentrator) (link place : ℕ) (c : RohcContextInfo) : Type 0 where
  pub concentrator : Concentrator
  pub its_record : Record
  pub there : g ≡ Some concentrator
  pub identifier : identifier_at g link place ≡ Some c.cid
  pub stands : record_at concentrator link c.cid ≡ Some its_record
  pub profile : c.profile ≡ profile_number (profile_of its_record.state)
  pub state : c.state ≡ state_number (context_state_of its_record.state)
  pub accepted : c.accepted ≡ its_record.accepted

-- whether a record has expired at a moment, by its link's setting; none hasn't
abbrev pub expired_of : Option LinkSetting → Option Record → (moment : ℕ) → Bool
expired_of None r moment = false
expired_of (Some s) None moment = false
expired_of (Some s) (Some r) moment = is_expired s.settings.idle_ms moment r

-- there is a concentrator, and the record of this CID has expired at a moment
abbrev pub has_expired : Option Concentrator → (link cid moment : ℕ) → Bool
has_expired None link cid moment = false
has_expired (Some k) link cid moment = expired_of (setting_at k link) (record_at k link cid) moment
