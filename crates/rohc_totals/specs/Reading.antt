-- Where the reading of a text stands. Words: AreTotalsOf; StandsInAnswers.
use Rattle.std.specs.Prelude.{ℕ, ◌≤◌, List, length}
use Rattle.rohc_replay.specs.Script.{longest_line, lines_of}
use Rattle.rohc_replay.specs.Lines.{Splits}
use Rattle.rohc_replay.specs.Stream.{IsUnfinished}
use Rattle.rohc_totals.specs.declared.kind.AnswerLine.{AnswerLine}
use Rattle.rohc_totals.specs.declared.totals.Totals.{Totals}
use Rattle.rohc_totals.specs.declared.reading.Progress.{Progress}
use Rattle.rohc_totals.specs.Answer.{AreSaid}
use Rattle.rohc_totals.specs.Totals.{AreTotals}

-- these are the totals of a text: of what is told of its lines
pub record AreTotalsOf (text : List ℕ) (t : Totals) : Type 0 where
  pub told : List AnswerLine
  pub are_told : AreSaid (lines_of text) told
  pub totals : AreTotals told t

-- These octets were seen. The finished lines are counted, and this is kept of the rest.
pub record StandsInAnswers (seen : List ℕ) (p : Progress) : Type 0 where
  pub finished : List (List ℕ)
  pub rest : List ℕ
  pub splits : Splits seen finished rest
  pub is_kept : IsUnfinished p.long p.line.items rest
  pub short : length p.line.items ≤ longest_line
  pub told : List AnswerLine
  pub are_told : AreSaid finished told
  pub totals : AreTotals told p.totals
