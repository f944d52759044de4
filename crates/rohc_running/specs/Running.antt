-- Saves while a gateway runs, over their lists of acts. Words: file_size, IsRunning; LeavesSave, EndsFailing;
-- IsRemovedAtEnd, GivesUp, Stops; EndsBegin; places, EndsPlacing; GoesOn.
use Rattle.std.specs.Prelude.{◌⊎◌, ◌≡◌, ◌≤◌, ◌-◌, ◌^◌, ℕ, List, [], ◌∷◌, ◌++◌, take, length, min, true, false, Result, Ok, Err, ⊤}
use Rattle.std.specs.List.{AllByRecursion}
use Rattle.std.specs.String.{string_bytes}
use Rattle.rohc_concentrator.specs.declared.concentrator.Concentrator.{Concentrator}
use Rattle.rohc_world.specs.declared.trouble.Trouble.{Trouble}
use Rattle.rohc_world.specs.Acts.{Act, Created, Wrote, SetModified, Closed, Renamed, Removed}
use Rattle.rohc_loop.specs.declared.unwritten.Unwritten.{Unwritten}
use Rattle.rohc_piecewise.specs.Piecewise.{Head, heads_of, IsSavedOver}
use Rattle.rohc_piecewise.specs.UnderWay.{IsUnderWay}
use Rattle.rohc_running.specs.declared.running.Begin.{Begin}
use Rattle.rohc_running.specs.declared.running.Progress.{Progress}
use Rattle.rohc_running.specs.declared.running.Progress.TheVariants.{Goes, Ends}
use Rattle.rohc_running.specs.declared.running.RunningSave.{RunningSave}

-- the size of a file with these octets, up to the greatest `u64`
abbrev pub file_size : List ℕ → ℕ
file_size octets = min (length octets) (2 ^ 64 - 1)

-- A save is under way that began at this moment with these heads. These concentrators were seen since, and
-- its file has these octets, which are counted.
pub record IsRunning (moment : ℕ) (heads : List Head) (seen : List Concentrator) (octets : List ℕ)
    (s : RunningSave) : Type 0 where
  pub stands : s.is_open ≡ true
  pub saver : IsUnderWay moment heads seen octets s.saver
  pub size : s.length ≡ file_size octets

-- An act leaves the last whole save as it is: no file gets its name, and no other file than the one under way
-- is made or removed.
abbrev pub LeavesSave : RunningSave → Act → Type 0
LeavesSave s (Renamed from to (Ok done)) = ⊥
LeavesSave s (Created path answer) = path ≡ string_bytes s.unfinished
LeavesSave s (Removed path answer) = path ≡ string_bytes s.unfinished
LeavesSave s act = ⊤

-- the paths stay
pub record KeepsPaths (old new : RunningSave) : Type 0 where
  pub path : new.path ≡ old.path
  pub unfinished : new.unfinished ≡ old.unfinished

-- no save is under way, and the last whole one is as it was
pub record EndsFailing (old new : RunningSave) (acts : List Act) : Type 0 where
  pub closed : new.is_open ≡ false
  pub paths : KeepsPaths old new
  pub leaves : AllByRecursion (LeavesSave old) acts

-- the last act asks to remove the file with this path, whatever the answer is
pub record IsRemovedAtEnd (path : List ℕ) (acts : List Act) : Type 0 where
  pub before : List Act
  pub answer : Result ⊤ Trouble
  pub last : acts ≡ before ++ Removed path answer ∷ []

-- a save is given up, and the last act asks to remove its file
pub record GivesUp (old new : RunningSave) (acts : List Act) : Type 0 where
  pub fails : EndsFailing old new acts
  pub removed : IsRemovedAtEnd (string_bytes old.unfinished) acts

-- a save is given up if one is under way, and otherwise nothing is asked
pub record Stops (old new : RunningSave) (acts : List Act) : Type 0 where
  pub fails : EndsFailing old new acts
  pub removed : old.is_open ≡ true → IsRemovedAtEnd (string_bytes old.unfinished) acts
  pub nothing : old.is_open ≡ false → acts ≡ []

-- A save begins with an empty file, and with the links that stand. If the file can't be created, nothing
-- more is asked. If it was created and the save can't begin, the last act asks to remove it.
abbrev pub EndsBegin : Begin → Concentrator → (old new : RunningSave) → Result ⊤ Unwritten → List Act → Type 0
EndsBegin begin k old new (Ok done) acts =
    (acts ≡ Created (string_bytes old.unfinished) (Ok tt) ∷ [])
    × IsRunning begin.moment (heads_of k) [] [] new × (new.date ≡ begin.date) × KeepsPaths old new
EndsBegin begin k old new (Err error) acts =
    EndsFailing old new acts
    × (((trouble : Trouble) × (acts ≡ Created (string_bytes old.unfinished) (Err trouble) ∷ []))
    ⊎ ((more : List Act) × (acts ≡ Created (string_bytes old.unfinished) (Ok tt) ∷ more)
    × IsRemovedAtEnd (string_bytes old.unfinished) more))

-- the file that is whole gets its date, whether that is done or not, and its name
abbrev pub places : RunningSave → (dated : Result ⊤ Trouble) → List Act
places s dated = SetModified s.date dated ∷ Closed
    ∷ Renamed (string_bytes s.unfinished) (string_bytes s.path) (Ok tt) ∷ []

abbrev pub EndsPlacing : (old new : RunningSave) → Result Progress Unwritten → List Act → Type 0
EndsPlacing old new (Ok Goes) acts = ⊥
EndsPlacing old new (Ok (Ends size)) acts =
    (size ≡ old.length) × (new.is_open ≡ false) × KeepsPaths old new
    × ((dated : Result ⊤ Trouble) × (acts ≡ places old dated))
EndsPlacing old new (Err error) acts = GivesUp old new acts

-- One piece of a save: CIDs are looked at, and nothing is asked; or one write is asked for, of at most 65,536
-- octets. The file gets its name only when it has all octets of a form that was saved since the save began.
abbrev pub GoesOn : (moment : ℕ) → List Head → List Concentrator → List ℕ → Concentrator →
    (old new : RunningSave) → Result Progress Unwritten → List Act → Type 0
GoesOn moment heads seen octets k old new (Ok Goes) acts =
    KeepsPaths old new × (new.date ≡ old.date)
    × (((acts ≡ []) × IsRunning moment heads (seen ++ k ∷ []) octets new)
    ⊎ ((piece : List ℕ) × (n : ℕ) × (length piece ≤ 65536) × (acts ≡ Wrote piece (Ok n) ∷ [])
    × IsRunning moment heads seen (octets ++ take n piece) new))
GoesOn moment heads seen octets k old new (Ok (Ends size)) acts =
    KeepsPaths old new × (new.is_open ≡ false)
    × ((piece : List ℕ) × (n : ℕ) × (dated : Result ⊤ Trouble) × (length piece ≤ 65536)
    × (acts ≡ Wrote piece (Ok n) ∷ places old dated)
    × IsSavedOver moment heads seen (octets ++ take n piece)
    × (size ≡ file_size (octets ++ take n piece)))
GoesOn moment heads seen octets k old new (Err error) acts = GivesUp old new acts
