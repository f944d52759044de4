use Rattle.std.proofs.Common.{ℕ, ◌≤◌, List, length}
use Rattle.std.specs.Io.KnownBytes.{Consumes}
use Rattle.rohc_replay.specs.Script.{longest_line}
use Rattle.rohc_totals.specs.Reading.{StandsInAnswers}
use Rattle.rohc_totals.proofs.reading.read_by.Given as goal

-- octets were read, and all of them were taken; the buffer keeps its length
abbrev pub invariant-loop : goal.invariant-loop
invariant-loop g l = record {
  short : length l.progress.line.items ≤ longest_line;
  read : (seen : List ℕ) × Consumes (g.R.Read.remaining l.fn.reader) (g.R.Read.remaining l.reader) seen × StandsInAnswers seen l.progress;
}
