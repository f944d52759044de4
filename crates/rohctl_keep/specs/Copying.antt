-- What the copy of a save asks, over its whole list of acts. Words: IsRead, IsPut; Copies.
use Rattle.std.specs.Prelude.{◌⊎◌, ◌≡◌, ◌≢◌, ℕ, List, [], ◌∷◌, ◌++◌, length, Option, Some, None, Result, Ok, Err}
use Rattle.std.specs.declared.alloc.Global.{Global}
use Rattle.std.specs.declared.vec.Vec.{Vec}
use Rattle.rohc_text.specs.declared.reason.Reason.{Reason}
use Rattle.rohc_text.specs.declared.reason.Reason.TheVariants.{Missing}
use Rattle.rohc_world.specs.declared.trouble.Trouble.{Trouble}
use Rattle.rohc_world.specs.Acts.{Act, Modified, reason_for}
use Rattle.rohc_loop.specs.Reading.{ReadsState}
use Rattle.rohc_loop.specs.Saving.{EndsSaving}
use Rattle.rohctl_keep.specs.declared.save.Save.{Save}
use Rattle.rohctl_keep.specs.declared.save.Uncopied.{Uncopied}
use Rattle.rohctl_keep.specs.declared.save.Uncopied.TheVariants.{NotRead, NotWritten}

-- the date of a save is asked for, and then it is read, with this result
abbrev pub IsRead : (latest : List ℕ) → (date : ℕ) → Result (Option (Vec ℕ Global)) Reason → List Act → Type 0
IsRead latest date result acts =
    (reading : List Act) × ReadsState latest result reading × (acts ≡ Modified latest (Ok date) ∷ reading)

-- a save is read, and its octets are put into the copy, in a file of its date
pub record IsPut (latest : List ℕ) (date : ℕ) (octets : List ℕ) (Ends : List Act → Type 0)
    (acts : List Act) : Type 0 where
  pub whole : Vec ℕ Global
  pub same : whole.items ≡ octets
  pub reading : List Act
  pub saving : List Act
  pub read : IsRead latest date (Ok (Some whole)) reading
  pub ends : Ends saving
  pub all : acts ≡ reading ++ saving

-- The acts of a copy with this result. There is no save if its file is missing.
abbrev pub Copies : (latest kept : List ℕ) → Result (Option Save) Uncopied → List Act → Type 0
Copies latest kept (Ok (Some save)) acts =
    (octets : List ℕ) × (save.size ≡ length octets)
    × IsPut latest save.date octets (EndsSaving save.date kept octets (Ok tt)) acts
Copies latest kept (Ok None) acts =
    ((trouble : Trouble) × (reason_for trouble ≡ Missing) × (acts ≡ Modified latest (Err trouble) ∷ []))
    ⊎ ((date : ℕ) × IsRead latest date (Ok None) acts)
Copies latest kept (Err (NotRead reason)) acts =
    ((trouble : Trouble) × (reason_for trouble ≡ reason) × (reason ≢ Missing)
    × (acts ≡ Modified latest (Err trouble) ∷ []))
    ⊎ ((date : ℕ) × IsRead latest date (Err reason) acts)
Copies latest kept (Err (NotWritten error)) acts =
    (date : ℕ) × (octets : List ℕ)
    × IsPut latest date octets (EndsSaving date kept octets (Err error)) acts
