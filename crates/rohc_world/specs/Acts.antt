-- What the outside was asked, and what it answered. Words: Act; put_in, read; AddsActs, Asks; reason_for.
use Rattle.std.specs.Prelude.{◌≡◌, ℕ, List, ◌++◌, take, Option, Some, None, Result, Ok, Err, ⊤}
use Rattle.rohc_text.specs.declared.reason.Reason.{Reason}
use Rattle.rohc_text.specs.declared.reason.Reason.TheVariants.{TimedOut}
use Rattle.rohc_world.specs.declared.trouble.Trouble.{Trouble}
use Rattle.rohc_world.specs.declared.trouble.Trouble.TheVariants.{Later, Failed}

-- One call: what was asked, and last what was answered. Paths, octets and lines are lists of octets.
pub data Act : Type 0 where
  Opened : List ℕ → Result ⊤ Trouble → Act
  Read : Result (List ℕ) Trouble → Act
  Created : List ℕ → Result ⊤ Trouble → Act
  Wrote : List ℕ → Result ℕ Trouble → Act
  Synced : Result ⊤ Trouble → Act
  Closed : Act
  Renamed : List ℕ → List ℕ → Result ⊤ Trouble → Act
  Removed : List ℕ → Result ⊤ Trouble → Act
  SyncedFolder : List ℕ → Result ⊤ Trouble → Act
  SetModified : ℕ → Result ⊤ Trouble → Act
  Modified : List ℕ → Result ℕ Trouble → Act
  Dated : Result ℕ Trouble → Act
  Timed : Result ℕ Trouble → Act
  Logged : List ℕ → Result ⊤ Trouble → Act

-- the octets that a read put into a buffer
abbrev pub put_in : Result ℕ Trouble → List ℕ → Result (List ℕ) Trouble
put_in (Ok size) buffer = Ok (take size buffer)
put_in (Err trouble) buffer = Err trouble

-- a read, from the count that it returned and the buffer after it
abbrev pub read : Result ℕ Trouble → List ℕ → Act
read result buffer = Read (put_in result buffer)

-- Known acts grow by these, as long as they stay known. Unknown acts stay unknown.
abbrev pub AddsActs : Option (List Act) → Option (List Act) → List Act → Type 0
AddsActs None None more = ⊤
AddsActs None (Some after) more = ⊥
AddsActs (Some acts) None more = ⊤
AddsActs (Some acts) (Some after) more = after ≡ acts ++ more

-- what was asked in between, if it is known, is acts of this form
pub record Asks (before after : Option (List Act)) (Form : List Act → Type 0) : Type 0 where
  pub acts : List Act
  pub known : AddsActs before after acts
  pub form : Form acts

-- the reason that messages name
abbrev pub reason_for : Trouble → Reason
reason_for Later = TimedOut
reason_for (Failed reason) = reason
