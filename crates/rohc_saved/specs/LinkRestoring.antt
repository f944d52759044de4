-- One link of a running concentrator, restored from what was saved of it. Words: IsReady, SpellsLink;
-- RestoresLink; RunsOut, MayRunOut, LinkFaultIn.
use Rattle.std.specs.Prelude.{◌≡◌, ◌≢◌, ℕ, List, [], ◌∷◌, length, true, false, ◌⊎◌, Some, None, Ok, Err}
use Rattle.rohc_concentrator.specs.declared.concentrator.Concentrator.{Concentrator}
use Rattle.rohc_concentrator.specs.declared.setting.LinkSetting.{LinkSetting}
use Rattle.rohc_concentrator.specs.declared.putting.PutFault.TheVariants as puts
use Rattle.rohc_concentrator.specs.Tables.{identifiers_at, setting_at}
use Rattle.rohc_concentrator.specs.Calls.{Reset, CallAnswer, Done}
use Rattle.rohc_concentrator.specs.RunsCall.{Turn, Runs}
use Rattle.rohc_saved.specs.declared.fault.LinkFault.{LinkFault}
use Rattle.rohc_saved.specs.declared.fault.LinkFault.TheVariants.{NoLink, HasContexts, Octets, OtherLink, OtherKind, NoMemory}
use Rattle.rohc_saved.specs.declared.fault.SavedFault.TheVariants as saved_faults
use Rattle.rohc_saved.specs.declared.restored.Restored.{Restored}
use Rattle.rohc_saved.specs.Form.{Link, Form}
use Rattle.rohc_saved.specs.Reading.{HasLinks, restored}
use Rattle.rohc_saved.specs.Restoring.{is_same, taken_of, puts_of, StopsAt, IsToldOfForm}

-- the link is there, with this setting, and holds no record
pub record IsReady (k : Concentrator) (link : ℕ) (s : LinkSetting) : Type 0 where
  pub there : setting_at k link ≡ Some s
  pub empty : identifiers_at k link ≡ []

-- the octets spell what was saved of this link, and of no other
pub record SpellsLink (octets : List ℕ) (link : ℕ) (form : Form) (saved : Link) : Type 0 where
  pub spelled : restored octets ≡ Ok form
  pub alone : form.links ≡ (link, saved) ∷ []

-- Into an empty link was put what was saved of it, up to its greatest CID. This is told.
pub record RestoresLink (old : Concentrator) (link : ℕ) (octets : List ℕ) (told : Restored)
    (new : Concentrator) : Type 0 where
  pub setting : LinkSetting
  pub ready : IsReady old link setting
  pub form : Form
  pub saved : Link
  pub spells : SpellsLink octets link form saved
  pub kind : is_same setting.settings.size saved.size ≡ true
  pub puts : Runs old (puts_of link (taken_of (Some setting) saved)) new
  pub counts : IsToldOfForm (setting_at old) form told

-- the link is reset, with this answer
abbrev pub reset_turn : CallAnswer → ℕ → Turn
reset_turn answer link = record { link = link; call = Reset; answer = answer }

-- there was no memory for one of the contexts that are put, and the link was reset
pub record RunsOut (old : Concentrator) (link : ℕ) (s : LinkSetting) (octets : List ℕ) (new : Concentrator) :
    Type 0 where
  pub form : Form
  pub saved : Link
  pub spells : SpellsLink octets link form saved
  pub kind : is_same s.settings.size saved.size ≡ true
  pub stops : StopsAt old link (taken_of (Some s) saved) puts.NoMemory (reset_turn Done link ∷ []) new

-- Reading may find no memory: the octets have links. No clause says that the definition never gives that
-- fault.
abbrev pub MayRunOut : List ℕ → Type 0
MayRunOut octets = HasLinks (length octets) octets ⊎ (restored octets ≡ Err saved_faults.NoMemory)

-- The first fault: of the link, then of the octets, and then of what they spell for it. Nothing is called up
-- to there. Memory runs out while links are read, and nothing is called, or at a put.
abbrev pub LinkFaultIn : Concentrator → ℕ → List ℕ → Concentrator → LinkFault → Type 0
LinkFaultIn k link octets new NoLink = (new ≡ k) × (setting_at k link ≡ None)
LinkFaultIn k link octets new HasContexts =
    (new ≡ k) × (setting_at k link ≢ None) × (identifiers_at k link ≢ [])
LinkFaultIn k link octets new (Octets e) =
    (new ≡ k) × (s : LinkSetting) × IsReady k link s × (restored octets ≡ Err e)
LinkFaultIn k link octets new OtherLink =
    (new ≡ k) × (s : LinkSetting) × IsReady k link s × (form : Form) × (restored octets ≡ Ok form)
    × ((saved : Link) → form.links ≢ (link, saved) ∷ [])
LinkFaultIn k link octets new OtherKind =
    (new ≡ k) × (s : LinkSetting) × IsReady k link s × (form : Form) × (saved : Link)
    × SpellsLink octets link form saved × (is_same s.settings.size saved.size ≡ false)
LinkFaultIn k link octets new NoMemory =
    (s : LinkSetting) × IsReady k link s
    × (((new ≡ k) × MayRunOut octets) ⊎ RunsOut k link s octets new)
