-- What follows from the acts of a save. Words: NewFile, after; NamesWhole, RenamesWhole; SavesWhole.
use Rattle.std.specs.Prelude.{◌≡◌, ℕ, List, [], ◌∷◌, ◌++◌, take, Bool, true, false, Ok, ⊤}
use Rattle.rohc_world.specs.Acts.{Act, Created, Wrote, Synced, Renamed}
use Rattle.rohc_loop.specs.Saving.{Ending, Saves}

-- the file that was created last: its path, its octets, and whether they are on the device
pub record NewFile : Type 0 where
  pub path : List ℕ
  pub octets : List ℕ
  pub is_synced : Bool

-- what an act makes of it
abbrev pub after : NewFile → Act → NewFile
after file (Created path (Ok done)) = record { path = path; octets = []; is_synced = false }
after file (Wrote octets (Ok n)) = record file { octets = file.octets ++ take n octets; is_synced = false }
after file (Synced (Ok done)) = record file { is_synced = true }
after file other = file

-- a rename is of that file to this path, once it has these octets and they are on the device
abbrev pub NamesWhole : List ℕ → List ℕ → NewFile → Act → Type 0
NamesWhole path octets file (Renamed from to answer) =
    (to ≡ path) × (from ≡ file.path) × (file.octets ≡ octets) × (file.is_synced ≡ true)
NamesWhole path octets file other = ⊤

abbrev pub RenamesWhole : List ℕ → List ℕ → NewFile → List Act → Type 0
RenamesWhole path octets file [] = ⊤
RenamesWhole path octets file (act ∷ acts) =
    NamesWhole path octets file act × RenamesWhole path octets (after file act) acts

-- however a save ends, and whatever file was created last before it
abbrev pub SavesWhole : Type 0
SavesWhole = (date : ℕ) (path octets : List ℕ) (ending : Ending) (file : NewFile) (acts : List Act) →
    Saves date path octets ending acts → RenamesWhole path octets file acts
