-- Saving and restoring as C calls them. Words: IsStored, TooShort; IsLinkStored, IsLinkTooLong, IsSavedAs;
-- told; fault_of_saved; IsBack, IsNotBack; not_back_number, not_back_place; IsLinkBack, IsNotLinkBack,
-- link_back_number, link_back_place.
use Rattle.std.specs.Prelude.{◌≡◌, ℕ, ◌<◌, List, length, max, All, Some, None, Ok, ◌⊎◌}
use Rattle.rohc_concentrator.specs.declared.concentrator.Concentrator.{Concentrator}
use Rattle.rohc_concentrator.specs.declared.setup.SetupFault.TheVariants as setup
use Rattle.rohc_concentrator.specs.Setup.{AreFine, entry_of}
use Rattle.rohc_concentrator.specs.declared.setting.LinkSetting.{LinkSetting}
use Rattle.rohc_concentrator.specs.Tables.{setting_at, KeepsAll}
use Rattle.rohc_saved.specs.Form.{Form, saved_form, saved_link}
use Rattle.rohc_saved.specs.Reading.{restored}
use Rattle.rohc_saved.specs.Restoring.{Restores, IsToldOfForm, IsRefusal}
use Rattle.rohc_saved.specs.LinkRestoring.{RestoresLink, LinkFaultIn}
use Rattle.rohc_saved.specs.declared.fault.LinkFault.{LinkFault}
use Rattle.rohc_saved.specs.declared.fault.LinkFault.TheVariants as link_faults
use Rattle.rohc_saved.specs.declared.restored.Restored.{Restored}
use Rattle.rohc_saved.specs.declared.fault.SavedFault.{SavedFault}
use Rattle.rohc_saved.specs.declared.fault.SavedFault.TheVariants as saved
use Rattle.rohc_c.specs.Settings.{link_settings, HasFewRanges}
use Rattle.rohc_c.specs.Written.{StandsIn}
use Rattle.rohc_c.specs.Setup.{IsNewFault, fault_number, fault_place}
use Rattle.rohc_c.specs.declared.link.RohcLink.{RohcLink}
use Rattle.rohc_c.specs.declared.setup.NewFault.{NewFault}
use Rattle.rohc_c.specs.declared.setup.NewFault.TheVariants.{Setup}
use Rattle.rohc_c.specs.declared.saved.RohcRestored.{RohcRestored}
use Rattle.rohc_c.specs.declared.saved.SavedLink.{SavedLink}
use Rattle.rohc_c.specs.declared.saved.SavedLink.TheVariants.{Saved, NoLink, NoMemory}
use Rattle.rohc_c.specs.declared.saved.BackFault.{BackFault}
use Rattle.rohc_c.specs.declared.saved.BackFault.TheVariants.{New, NotSaved, Version, Short, BadLink, BadContext, BadOrder, Digest, Long}

-- the octets of the concentrator that is saved at this moment stand at the start of a buffer; this many
abbrev pub IsStored : Concentrator → (moment : ℕ) → List ℕ → ℕ → Type 0
IsStored k moment place count = StandsIn (saved_form moment k) count place

-- they are more than the buffer has room for
pub record TooShort (k : Concentrator) (moment : ℕ) (place : List ℕ) (count : ℕ) : Type 0 where
  pub needed : count ≡ length (saved_form moment k)
  pub room : length place < count

-- the octets of the link that is saved at this moment stand at the start of a buffer; this many
pub record IsLinkStored (k : Concentrator) (link moment : ℕ) (place : List ℕ) (count : ℕ) : Type 0 where
  pub setting : LinkSetting
  pub there : setting_at k link ≡ Some setting
  pub stands : StandsIn (saved_link moment k setting) count place

-- they are more than the buffer has room for
pub record IsLinkTooLong (k : Concentrator) (link moment : ℕ) (place : List ℕ) (count : ℕ) : Type 0 where
  pub setting : LinkSetting
  pub there : setting_at k link ≡ Some setting
  pub needed : count ≡ length (saved_link moment k setting)
  pub room : length place < count

-- a link that was saved: its octets, or why there are none
abbrev pub IsSavedAs : Concentrator → (link moment : ℕ) → SavedLink → Type 0
IsSavedAs k link moment (Saved octets) =
    (s : LinkSetting) × (setting_at k link ≡ Some s) × (octets.items ≡ saved_link moment k s)
IsSavedAs k link moment NoLink = setting_at k link ≡ None
IsSavedAs k link moment NoMemory = (s : LinkSetting) × (setting_at k link ≡ Some s)

-- what is told of a restore, for C
abbrev pub told : Restored → RohcRestored
told r = record {
  moment = r.moment;
  links = r.links;
  unknown_links = r.unknown_links;
  other_links = r.other_links;
  contexts = r.contexts;
  left_contexts = r.left_contexts;
  high_contexts = r.high_contexts;
}

-- the fault for C of a fault of a restore
abbrev pub fault_of_saved : SavedFault → BackFault
fault_of_saved (saved.Settings fault) = New (Setup fault)
fault_of_saved saved.NoMemory = New (Setup setup.NoMemory)
fault_of_saved saved.NotSaved = NotSaved
fault_of_saved (saved.Version place) = Version place
fault_of_saved (saved.Short place) = Short place
fault_of_saved (saved.BadLink place) = BadLink place
fault_of_saved (saved.BadContext place) = BadContext place
fault_of_saved (saved.BadOrder place) = BadOrder place
fault_of_saved (saved.Digest place) = Digest place
fault_of_saved (saved.Long place) = Long place

-- a concentrator with these links, which holds what is taken of what the octets spell, and what is told of it
pub record IsBack (links : List RohcLink) (octets : List ℕ) (k : Concentrator) (r : RohcRestored) :
    Type 0 where
  pub few : All HasFewRanges links
  pub fine : AreFine (link_settings links)
  pub form : Form
  pub spelled : restored octets ≡ Ok form
  pub restores : Restores (link_settings links) form k
  pub tally : Restored
  pub counts : IsToldOfForm (λ link. entry_of link (link_settings links)) form tally
  pub shown : r ≡ told tally

-- Why nothing is restored: no concentrator is made from the links, by their number, their ranges or lack of
-- memory; or it is a fault of their settings, or the first fault of the octets.
abbrev pub IsNotBack : List RohcLink → List ℕ → BackFault → Type 0
IsNotBack links octets fault =
    ((e : NewFault) × IsNewFault links e × (fault ≡ New e))
    ⊎ (All HasFewRanges links
    × ((e : SavedFault) × IsRefusal (link_settings links) octets e × (fault ≡ fault_of_saved e)))

-- the status of each fault
abbrev pub not_back_number : BackFault → ℕ
not_back_number (New fault) = fault_number fault
not_back_number NotSaved = 7
not_back_number (Version place) = 8
not_back_number (Short place) = 9
not_back_number (BadLink place) = 10
not_back_number (BadContext place) = 11
not_back_number (BadOrder place) = 12
not_back_number (Digest place) = 13
not_back_number (Long place) = 14

-- the place of the link at fault, counted from 1, or of the octet, counted from 0; else 0
abbrev pub not_back_place : BackFault → ℕ
not_back_place (New fault) = fault_place fault
not_back_place NotSaved = 0
not_back_place (Version place) = place
not_back_place (Short place) = place
not_back_place (BadLink place) = place
not_back_place (BadContext place) = place
not_back_place (BadOrder place) = place
not_back_place (Digest place) = place
not_back_place (Long place) = place

-- what the octets spell of an empty link was put into it, and what is told of it
pub record IsLinkBack (link : ℕ) (octets : List ℕ) (r : RohcRestored) (old new : Concentrator) : Type 0 where
  pub tally : Restored
  pub restores : RestoresLink old link octets tally new
  pub shown : r ≡ told tally

-- the status of each fault of one link; that of octets is at least 6, and 7 or more unless it were one of
-- settings
abbrev pub link_back_number : LinkFault → ℕ
link_back_number link_faults.NoLink = 2
link_back_number link_faults.HasContexts = 3
link_back_number link_faults.OtherLink = 4
link_back_number link_faults.OtherKind = 5
link_back_number link_faults.NoMemory = 6
link_back_number (link_faults.Octets fault) = max 6 (not_back_number (fault_of_saved fault))

-- the place of the octet at fault, counted from 0; else 0
abbrev pub link_back_place : LinkFault → ℕ
link_back_place link_faults.NoLink = 0
link_back_place link_faults.HasContexts = 0
link_back_place link_faults.OtherLink = 0
link_back_place link_faults.OtherKind = 0
link_back_place link_faults.NoMemory = 0
link_back_place (link_faults.Octets fault) = not_back_place (fault_of_saved fault)

-- why one link isn't restored: the first fault, its status and its place; all stays
pub record IsNotLinkBack (link : ℕ) (octets : List ℕ) (status place : ℕ) (old new : Concentrator) : Type 0
  where
    pub fault : LinkFault
    pub first : LinkFaultIn old link octets new fault
    pub number : status ≡ link_back_number fault
    pub at : place ≡ link_back_place fault
    pub stays : KeepsAll old new
