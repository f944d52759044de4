-- What `polorowan_new` makes, and why it fails. Words: IsNew; IsNewFault; fault_number, fault_place.
use Rattle.std.specs.Prelude.{◌≡◌, ℕ, ◌+◌, ◌<◌, ◌≤◌, List, [], length, take, slice_get, All, Some, None}
use Rattle.rohc_concentrator.specs.declared.concentrator.Concentrator.{Concentrator}
use Rattle.rohc_concentrator.specs.declared.setup.SetupFault.{SetupFault}
use Rattle.rohc_concentrator.specs.declared.setup.SetupFault.TheVariants as setup
use Rattle.rohc_concentrator.specs.Setup.{AreFine, IsFault, entry_of}
use Rattle.rohc_concentrator.specs.Tables.{settings_in_order, setting_at, record_at}
use Rattle.rohc_c.specs.Settings.{link_settings, HasFewRanges}
use Rattle.rohc_c.specs.declared.link.RohcLink.{RohcLink}
use Rattle.rohc_c.specs.declared.setup.NewFault.{NewFault}
use Rattle.rohc_c.specs.declared.setup.NewFault.TheVariants.{TooManyRanges, Setup}

-- a concentrator with these links, in this order, and without a record
pub record IsNew (links : List RohcLink) (k : Concentrator) : Type 0 where
  pub few : All HasFewRanges links
  pub fine : AreFine (link_settings links)
  pub in_order : settings_in_order k ≡ link_settings links
  pub each : (link : ℕ) → setting_at k link ≡ entry_of link (link_settings links)
  pub empty : (link cid : ℕ) → record_at k link cid ≡ None

-- the first link that counts more than eight ranges stands at this place, counted from 1
pub record StandsFirst (links : List RohcLink) (place : ℕ) : Type 0 where
  pub index : ℕ
  pub counted : place ≡ index + 1
  pub link : RohcLink
  pub there : slice_get links index ≡ Some link
  pub few_before : All HasFewRanges (take index links)
  pub many : 8 < link.range_count

-- A fault of the settings. If it is of one link or of memory, no link counts more than eight ranges. Memory
-- may run out before the settings are judged.
abbrev pub IsSetupFault : List RohcLink → SetupFault → Type 0
IsSetupFault links setup.NoLinks = links ≡ []
IsSetupFault links setup.TooManyLinks = 256 < length links
IsSetupFault links (setup.BadSetting place) =
    All HasFewRanges links × IsFault (link_settings links) (setup.BadSetting place)
IsSetupFault links (setup.DuplicateLink place) =
    All HasFewRanges links × IsFault (link_settings links) (setup.DuplicateLink place)
IsSetupFault links setup.NoMemory = All HasFewRanges links × (length links ≤ 256)

-- why no concentrator is made from these links: their number, else their ranges, else their settings, else
-- lack of memory
abbrev pub IsNewFault : List RohcLink → NewFault → Type 0
IsNewFault links (TooManyRanges place) = (length links ≤ 256) × StandsFirst links place
IsNewFault links (Setup fault) = IsSetupFault links fault

-- the status of each fault
abbrev pub fault_number : NewFault → ℕ
fault_number (Setup setup.NoLinks) = 1
fault_number (Setup setup.TooManyLinks) = 2
fault_number (TooManyRanges place) = 3
fault_number (Setup (setup.BadSetting place)) = 4
fault_number (Setup (setup.DuplicateLink place)) = 5
fault_number (Setup setup.NoMemory) = 6

-- the place of the link at fault, counted from 1; 0 if the fault is of no single link
abbrev pub fault_place : NewFault → ℕ
fault_place (TooManyRanges place) = place
fault_place (Setup (setup.BadSetting place)) = place
fault_place (Setup (setup.DuplicateLink place)) = place
fault_place (Setup setup.NoLinks) = 0
fault_place (Setup setup.TooManyLinks) = 0
fault_place (Setup setup.NoMemory) = 0
