-- What a concentrator is made from. Words: entry_of l; AreSound, AreFine; IsFault, what StandsAt a place;
-- fault_name.
use Rattle.std.specs.Prelude.{◌≡◌, ◌≢◌, ℕ, ◌+◌, ◌<◌, ◌≤◌, List, [], length, take, Bool, true, ◌==◌, Option, Some, find, All, AllPairs, slice_get, codes}
use Rattle.std.specs.List.{list_any}
use Rattle.rohc_concentrator.specs.declared.setting.LinkSetting.{LinkSetting}
use Rattle.rohc_concentrator.specs.declared.setup.SetupFault.{SetupFault}
use Rattle.rohc_concentrator.specs.declared.setup.SetupFault.TheVariants.{NoLinks, TooManyLinks, BadSetting, DuplicateLink, NoMemory}
use Rattle.rohc_concentrator.specs.Setting.{IsGoodSetting}

-- one of the settings is of this link
abbrev pub names_link : ℕ → List LinkSetting → Bool
names_link link settings = list_any (λ (s : LinkSetting). s.link == link) settings

-- the first setting of this link
abbrev pub entry_of : ℕ → List LinkSetting → Option LinkSetting
entry_of link settings = find (λ (s : LinkSetting). s.link == link) settings

-- each setting is good, and no two are of one link
pub record AreSound (settings : List LinkSetting) : Type 0 where
  pub good : All IsGoodSetting settings
  pub apart : AllPairs (λ (s t : LinkSetting). s.link ≢ t.link) settings

-- an entry stands at this place, counted from 1; those before it are sound, and there are at most 256
pub record StandsAt (settings : List LinkSetting) (place : ℕ) (before : List LinkSetting)
    (s : LinkSetting) : Type 0 where
  pub index : ℕ
  pub counted : place ≡ index + 1
  pub there : slice_get settings index ≡ Some s
  pub those_before : before ≡ take index settings
  pub sound : AreSound before
  pub few : length settings ≤ 256

-- a fault of the settings: their number, else the first entry that isn't good or has the link of an earlier
-- entry
abbrev pub IsFault : List LinkSetting → SetupFault → Type 0
IsFault settings NoLinks = settings ≡ []
IsFault settings TooManyLinks = 256 < length settings
IsFault settings (BadSetting place) =
    (before : List LinkSetting) × (s : LinkSetting) × StandsAt settings place before s × (¬ IsGoodSetting s)
IsFault settings (DuplicateLink place) =
    (before : List LinkSetting) × (s : LinkSetting) × StandsAt settings place before s
    × IsGoodSetting s × (names_link s.link before ≡ true)
IsFault settings NoMemory = ⊥

-- 1 to 256 sound settings
pub record AreFine (settings : List LinkSetting) : Type 0 where
  pub some : 1 ≤ length settings
  pub few : length settings ≤ 256
  pub sound : AreSound settings

-- the names of the faults
abbrev pub fault_name : SetupFault → List ℕ
fault_name NoLinks = codes "NoLinks"
fault_name TooManyLinks = codes "TooManyLinks"
fault_name (BadSetting place) = codes "BadSetting"
fault_name (DuplicateLink place) = codes "DuplicateLink"
fault_name NoMemory = codes "NoMemory"
