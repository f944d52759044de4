-- What a save asks, over its whole list of acts. Words: Takes, NotTaken, EndsWriting; Fills;
-- Ending, Saves, IsFault; Says, EndsSaving; EndsFilling, EndsNaming.
use Rattle.std.specs.Prelude.{◌⊎◌, ◌≡◌, ◌<◌, ℕ, List, [], ◌∷◌, ◌++◌, drop, pos, Result, Ok, Err, ⊤}
use Rattle.std.specs.String.{string_bytes}
use Rattle.rohc_text.specs.declared.reason.Reason.TheVariants.{Other}
use Rattle.rohc_world.specs.declared.trouble.Trouble.{Trouble}
use Rattle.rohc_world.specs.declared.trouble.Trouble.TheVariants.{Failed}
use Rattle.rohc_world.specs.Acts.{Act, Created, Wrote, SetModified, Synced, Closed, Renamed, Removed, SyncedFolder}
use Rattle.rohc_loop.specs.declared.unwritten.Unwritten.{Unwritten}
use Rattle.rohc_loop.specs.declared.unwritten.Unwritten.TheVariants.{System, Memory}
use Rattle.rohc_loop.specs.Paths.{IsFolder, beside}

-- Writes, each of all octets that the earlier ones have left. They accept at least one octet each, and leave
-- these.
abbrev pub Takes : List ℕ → List ℕ → List Act → Type 0
Takes octets left [] = left ≡ octets
Takes octets left (act ∷ acts) =
    (n : ℕ) × (0 < n) × (act ≡ Wrote octets (Ok n)) × Takes (drop n octets) left acts

-- Writes, the last of which fails. One that accepts nothing fails as an unknown error does.
pub record NotTaken (octets : List ℕ) (trouble : Trouble) (acts : List Act) : Type 0 where
  pub left : List ℕ
  pub writes : List Act
  pub taken : Takes octets left writes
  pub answer : Result ℕ Trouble
  pub last : acts ≡ writes ++ Wrote left answer ∷ []
  pub fails : (answer ≡ Err trouble) ⊎ ((answer ≡ Ok 0) × (trouble ≡ Failed (Other (pos 0))))

abbrev pub EndsWriting : List ℕ → Result ⊤ Trouble → List Act → Type 0
EndsWriting octets (Ok done) acts = Takes octets [] acts
EndsWriting octets (Err trouble) acts = NotTaken octets trouble acts

-- all octets are written, the file gets this date, whether that is done or not, and is synced
abbrev pub Fills : (date : ℕ) → List ℕ → Result ⊤ Trouble → List Act → Type 0
Fills date octets (Ok done) acts =
    (writes : List Act) × (dated : Result ⊤ Trouble) × Takes octets [] writes
    × (acts ≡ writes ++ SetModified date dated ∷ Synced (Ok tt) ∷ [])
Fills date octets (Err trouble) acts =
    NotTaken octets trouble acts
    ⊎ ((writes : List Act) × (dated : Result ⊤ Trouble) × Takes octets [] writes
    × (acts ≡ writes ++ SetModified date dated ∷ Synced (Err trouble) ∷ []))

-- How a save ends.
pub data Ending : Type 0 where
  Saved : Ending
  NotCreated : Trouble → Ending
  NotFilled : Trouble → Ending
  NotRenamed : Trouble → Ending
  NotSettled : Trouble → Ending

-- The acts of a save of octets to a path, in a file of this date, by how it ends.
abbrev pub Saves : (date : ℕ) → List ℕ → List ℕ → Ending → List Act → Type 0
Saves date path octets Saved acts =
    (filling : List Act) × (folder : List ℕ) × Fills date octets (Ok tt) filling × IsFolder path folder
    × (acts ≡ Created (beside path) (Ok tt) ∷ filling
    ++ Closed ∷ Renamed (beside path) path (Ok tt) ∷ SyncedFolder folder (Ok tt) ∷ [])
Saves date path octets (NotCreated trouble) acts = acts ≡ Created (beside path) (Err trouble) ∷ []
Saves date path octets (NotFilled trouble) acts =
    (filling : List Act) × (answer : Result ⊤ Trouble) × Fills date octets (Err trouble) filling
    × (acts ≡ Created (beside path) (Ok tt) ∷ filling ++ Closed ∷ Removed (beside path) answer ∷ [])
Saves date path octets (NotRenamed trouble) acts =
    (filling : List Act) × (answer : Result ⊤ Trouble) × Fills date octets (Ok tt) filling
    × (acts ≡ Created (beside path) (Ok tt) ∷ filling
    ++ Closed ∷ Renamed (beside path) path (Err trouble) ∷ Removed (beside path) answer ∷ [])
Saves date path octets (NotSettled trouble) acts =
    (filling : List Act) × (folder : List ℕ) × Fills date octets (Ok tt) filling × IsFolder path folder
    × (acts ≡ Created (beside path) (Ok tt) ∷ filling
    ++ Closed ∷ Renamed (beside path) path (Ok tt) ∷ SyncedFolder folder (Err trouble) ∷ [])

-- a save that ends so failed at this path, for this trouble
abbrev pub IsFault : List ℕ → Ending → List ℕ → Trouble → Type 0
IsFault path Saved at trouble = ⊥
IsFault path (NotCreated why) at trouble = (at ≡ beside path) × (trouble ≡ why)
IsFault path (NotFilled why) at trouble = (at ≡ beside path) × (trouble ≡ why)
IsFault path (NotRenamed why) at trouble = (at ≡ path) × (trouble ≡ why)
IsFault path (NotSettled why) at trouble = IsFolder path at × (trouble ≡ why)

-- the error for a path and a trouble: both, or that there is no memory
abbrev pub Says : Unwritten → List ℕ → Trouble → Type 0
Says (System path trouble) at why = (string_bytes path ≡ at) × (trouble ≡ why)
Says Memory at why = ⊤

-- a save that failed, as this error says
pub record FailsToSave (date : ℕ) (path octets : List ℕ) (error : Unwritten) (acts : List Act) : Type 0 where
  pub ending : Ending
  pub saves : Saves date path octets ending acts
  pub at : List ℕ
  pub trouble : Trouble
  pub fault : IsFault path ending at trouble
  pub says : Says error at trouble

-- The acts of a save with this result. Nothing is asked if there is no memory for the path of the new file.
abbrev pub EndsSaving : (date : ℕ) → List ℕ → List ℕ → Result ⊤ Unwritten → List Act → Type 0
EndsSaving date path octets (Ok done) acts = Saves date path octets Saved acts
EndsSaving date path octets (Err error) acts =
    ((error ≡ Memory) × (acts ≡ [])) ⊎ FailsToSave date path octets error acts

-- the new file is written, synced and closed; a new file that isn't is removed
abbrev pub EndsFilling : (date : ℕ) → List ℕ → List ℕ → Result ⊤ Trouble → List Act → Type 0
EndsFilling date new octets (Ok done) acts =
    (filling : List Act) × Fills date octets (Ok tt) filling
    × (acts ≡ Created new (Ok tt) ∷ filling ++ Closed ∷ [])
EndsFilling date new octets (Err trouble) acts =
    (acts ≡ Created new (Err trouble) ∷ [])
    ⊎ ((filling : List Act) × (answer : Result ⊤ Trouble) × Fills date octets (Err trouble) filling
    × (acts ≡ Created new (Ok tt) ∷ filling ++ Closed ∷ Removed new answer ∷ []))

-- the new file gets the name of the old one; a new file that doesn't is removed
abbrev pub EndsNaming : List ℕ → List ℕ → Result ⊤ Trouble → List Act → Type 0
EndsNaming new path (Ok done) acts = acts ≡ Renamed new path (Ok tt) ∷ []
EndsNaming new path (Err trouble) acts =
    (answer : Result ⊤ Trouble) × (acts ≡ Renamed new path (Err trouble) ∷ Removed new answer ∷ [])
