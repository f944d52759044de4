-- A concentrator that is saved piece by piece while it runs on: each call's record is its record at some
-- moment between the begin and the end of the save. Words: Head, heads_of; held_under; IsAscending,
-- IsGathered; IsSavedOver.
use Rattle.std.specs.Prelude.{◌≡◌, ◌<◌, ◌≤◌, ℕ, List, [], ◌∷◌, ◌++◌, map, nat_eq, All, Option, Some, None, if◌then◌else◌, ⊤}
use Rattle.std.specs.Map.{lookup}
use Rattle.rohc_frame.specs.declared.header.CidKind.{CidKind}
use Rattle.rohc_context.specs.Record.{Record}
use Rattle.rohc_concentrator.specs.declared.concentrator.Concentrator.{Concentrator}
use Rattle.rohc_concentrator.specs.declared.setting.LinkSetting.{LinkSetting}
use Rattle.rohc_concentrator.specs.Tables.{record_at, setting_at, settings_in_order}
use Rattle.rohc_saved.specs.Form.{Link, Form, form_text, signed}
use Rattle.rohc_saved.specs.Restoring.{is_same}

-- what is noted of a link when the save begins
pub record Head : Type 0 where
  pub number : ℕ
  pub size : CidKind
  pub greatest : ℕ

abbrev pub head_of : LinkSetting → Head
head_of s = record { number = s.link; size = s.settings.size; greatest = s.settings.max_cid }

-- the links that stand, in the order of their settings
abbrev pub heads_of : Concentrator → List Head
heads_of k = map head_of (settings_in_order k)

-- a record, if the link is there and of the CID kind that was noted
abbrev pub if_kind : Option LinkSetting → CidKind → Option Record → Option Record
if_kind None size held = None
if_kind (Some s) size held = if is_same s.settings.size size then held else None

-- the record of a CID under a head: none once the link is gone, or is of another CID kind
abbrev pub held_under : Concentrator → Head → ℕ → Option Record
held_under k head cid = if_kind (setting_at k head.number) head.size (record_at k head.number cid)

-- each of these CIDs is above those before it
abbrev pub IsAscending : List (ℕ × Record) → Type 0
IsAscending [] = ⊤
IsAscending (c ∷ []) = ⊤
IsAscending (c ∷ d ∷ more) = (c.0 < d.0) × IsAscending (d ∷ more)

-- a concentrator of a list
pub record OneOf (seen : List Concentrator) (k : Concentrator) : Type 0 where
  pub before : List Concentrator
  pub behind : List Concentrator
  pub parts : seen ≡ before ++ k ∷ behind

-- Contexts of a link, in the order of their CIDs. Each CID up to the greatest one has the record here, or
-- none, that it had in one of the concentrators that were seen.
pub record IsGathered (seen : List Concentrator) (head : Head)
    (contexts : List (ℕ × Record)) : Type 0 where
  pub ascending : IsAscending contexts
  pub within : All (λ (c : ℕ × Record). c.0 ≤ head.greatest) contexts
  pub each : (cid : ℕ) → cid ≤ head.greatest →
      (k : Concentrator) × OneOf seen k × (lookup (nat_eq cid) contexts ≡ held_under k head cid)

-- what is saved of links, one for each head
abbrev pub AreSaved : List Concentrator → List Head → List (ℕ × Link) → Type 0
AreSaved seen [] [] = ⊤
AreSaved seen (head ∷ heads) (link ∷ links) =
    (link.0 ≡ head.number) × (link.1.size ≡ head.size) × (link.1.greatest ≡ head.greatest)
    × IsGathered seen head link.1.contexts × AreSaved seen heads links
AreSaved seen heads links = ⊥

-- The octets are those of a form of this moment, with one link for each head (docs/FORMATS.md).
pub record IsSavedOver (moment : ℕ) (heads : List Head) (seen : List Concentrator)
    (octets : List ℕ) : Type 0 where
  pub form : Form
  pub at : form.moment ≡ moment
  pub links : AreSaved seen heads form.links
  pub text : octets ≡ signed (form_text form)
