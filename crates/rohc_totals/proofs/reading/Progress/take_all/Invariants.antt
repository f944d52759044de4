use Rattle.std.proofs.Common.{ℕ, ◌≤◌, List, ◌++◌, length, take}
use Rattle.rohc_replay.specs.Script.{longest_line}
use Rattle.rohc_totals.specs.Reading.{StandsInAnswers}
use Rattle.rohc_totals.proofs.reading.Progress.take_all.Given as goal

-- the octets so far were taken
abbrev pub invariant-loop-octet : goal.invariant-loop-octet
invariant-loop-octet l = record {
  short : length l.self.line.items ≤ longest_line;
  stands : (seen : List ℕ) → StandsInAnswers seen l.fn.self → StandsInAnswers (seen ++ take l.octet-index l.octets) l.self;
}
