-- The trace of a script. Words: traced; Traces; StandsInTrace.
use Rattle.std.specs.Prelude.{◌≡◌, ℕ, ◌+◌, List, [], ◌∷◌, ◌++◌, length, take}
use Rattle.std.specs.Io.KnownBytes.{Appends}
use Rattle.rohc_links.specs.Limits.{counted}
use Rattle.rohc_replay.specs.Script.{Line, AreLines, IsScript, longest_line, lines_of}
use Rattle.rohc_replay.specs.AnswerLines.{text_of}
use Rattle.rohc_replay.specs.Lines.{Splits}
use Rattle.rohc_replay.specs.Run.{Runs, ReplayChange}
use Rattle.rohc_trace.specs.Head.{numbered_head}
use Rattle.rohc_trace.specs.declared.tracer.Tracer.{Tracer}

-- what is kept of a line
abbrev pub front_of : List ℕ → List ℕ
front_of line = take (longest_line + 1) line

-- The lines of a script, the first with this number's successor, each with its answer lines behind it.
-- Without what is shown of the script, these are the answer lines.
abbrev pub traced : ℕ → List (List ℕ) → List (List (List ℕ)) → List ℕ
traced n [] answers = []
traced n (line ∷ lines) [] = []
traced n (line ∷ lines) (answers ∷ more) =
    numbered_head (counted 0 (n + 1)) (front_of line) ++ text_of answers ++ traced (n + 1) lines more

-- A whole trace: the script of the text, the answer lines of its run, and the concentrator after it, as in a
-- replay; all that was written is its lines with their answers.
pub record Traces (c : ReplayChange) (text : List ℕ) : Type 0 where
  pub lines : List Line
  pub answers : List (List (List ℕ))
  pub script : IsScript text lines
  pub run : Runs c.before lines answers c.after
  pub written : Appends c.held c.holding (traced 0 (lines_of text) answers)

-- These octets were seen. The finished lines were run and traced, and the front of the rest is kept.
pub record StandsInTrace (c : ReplayChange) (seen : List ℕ) (t : Tracer) : Type 0 where
  pub finished : List (List ℕ)
  pub rest : List ℕ
  pub splits : Splits seen finished rest
  pub is_front : t.line.items ≡ front_of rest
  pub number : t.lines ≡ counted 0 (length finished)
  pub lines : List Line
  pub are_lines : AreLines finished lines
  pub answers : List (List (List ℕ))
  pub run : Runs c.before lines answers c.after
  pub written : Appends c.held c.holding (traced 0 finished answers)
