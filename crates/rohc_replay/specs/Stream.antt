-- Where a replay stands between two reads. Words: StandsInScript, EndsWithText, StopsWithin.
use Rattle.std.specs.Prelude.{◌≡◌, ℕ, ◌<◌, List, [], ◌++◌, length, Bool, true, false}
use Rattle.std.specs.List.{flat_map}
use Rattle.rohc_replay.specs.declared.counts.Counts.{Counts}
use Rattle.rohc_replay.specs.Script.{Line, AreLines, longest_line, lines_of}
use Rattle.rohc_replay.specs.Lines.{Splits}
use Rattle.rohc_replay.specs.AnswerLines.{text_of}
use Rattle.rohc_replay.specs.Offers.{TakesAll}
use Rattle.rohc_replay.specs.Run.{Runs, IsTally, ReplayChange, Stops}

-- what is kept of an unfinished line: all of it, or only that it is already long
abbrev pub IsUnfinished : Bool → List ℕ → List ℕ → Type 0
IsUnfinished false kept rest = kept ≡ rest
IsUnfinished true kept rest = longest_line < length rest

-- A replay has seen these octets. The finished lines were run and answered, with this change and these
-- counts, and this is kept of the rest.
pub record StandsInScript (c : ReplayChange) (seen kept : List ℕ) (long : Bool) (counts : Counts) :
    Type 0 where
  pub finished : List (List ℕ)
  pub rest : List ℕ
  pub splits : Splits seen finished rest
  pub is_kept : IsUnfinished long kept rest
  pub lines : List Line
  pub are_lines : AreLines finished lines
  pub answers : List (List (List ℕ))
  pub run : Runs c.before lines answers c.after
  pub taken : TakesAll c.held c.holding 0 counts.answers.taken (flat_map text_of answers)
  pub tally : IsTally lines counts.tally

-- if it has seen the whole text, all its lines were run and answered
pub record EndsWithText (c : ReplayChange) (seen : List ℕ) (counts : Counts) : Type 0 where
  pub lines : List Line
  pub are_lines : AreLines (lines_of seen) lines
  pub answers : List (List (List ℕ))
  pub run : Runs c.before lines answers c.after
  pub taken : TakesAll c.held c.holding 0 counts.answers.taken (flat_map text_of answers)
  pub tally : IsTally lines counts.tally

-- a prefix of the text was run and answered, and the writer stopped at its last line
abbrev pub StopsAt : ReplayChange → List ℕ → Counts → Type 0
StopsAt c front counts = (texts : List (List ℕ)) × Splits front texts [] × Stops c texts counts.answers.taken

-- the same for a prefix of what was seen
abbrev pub StopsWithin : ReplayChange → List ℕ → Counts → Type 0
StopsWithin c seen counts =
    (front : List ℕ) × (back : List ℕ) × (seen ≡ front ++ back) × StopsAt c front counts
