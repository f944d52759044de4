-- The run of a text's lines. Words: RunsText; ShowsAndRuns.
use Rattle.std.specs.Prelude.{ℕ, List, [], ◌∷◌, ◌++◌, Option}
use Rattle.std.specs.List.{flat_map}
use Rattle.std.specs.Io.KnownBytes.{Appends}
use Rattle.rohc_replay.specs.Script.{Line, IsScript}
use Rattle.rohc_replay.specs.AnswerLines.{text_of}
use Rattle.rohc_replay.specs.Run.{Runs, ReplayChange, change}
use Rattle.rohc_concentrator.specs.declared.concentrator.Concentrator.{Concentrator}
use Rattle.rohc_trace.specs.Head.{numbered_head}

-- the lines of a text were run, and their answer lines were written
pub record RunsText (c : ReplayChange) (text : List ℕ) : Type 0 where
  pub lines : List Line
  pub answers : List (List (List ℕ))
  pub script : IsScript text lines
  pub run : Runs c.before lines answers c.after
  pub written : Appends c.held c.holding (flat_map text_of answers)

-- a line was shown with this number, and then it was run
pub record ShowsAndRuns (line : List ℕ) (number : ℕ) (old : Concentrator) (held : Option (List ℕ))
    (new : Concentrator) (holding : Option (List ℕ)) : Type 0 where
  pub between : Option (List ℕ)
  pub shown : Appends held between (numbered_head number line)
  pub ran : RunsText (change old between new holding) (line ++ 10 ∷ [])
