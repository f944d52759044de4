use Rattle.std.proofs.Common.{ℕ, ◌-◌, ◌≤◌, List, ◌++◌, length, take, Option, slice_range}
use Rattle.rohc_concentrator.specs.declared.concentrator.Concentrator.{Concentrator}
use Rattle.rohc_replay.specs.Run.{change}
use Rattle.rohc_replay.specs.Stream.{StandsInScript}
use Rattle.rohc_replay.proofs.stream.run_lines.Given as goal

-- the lines that ended before `from` were run, and the current one begins at `start`
abbrev pub invariant-loop-ahead : goal.invariant-loop-ahead
invariant-loop-ahead g l = record {
  begun : l.start ≤ l.from;
  later : l.fn.front.len ≤ l.from;
  within : l.from ≤ length l.octets;
  stands : (first : Concentrator) (held : Option (List ℕ)) (seen : List ℕ) →
      StandsInScript (change first held l.fn.concentrator (g.W.Write.contents l.fn.writer)) seen (take l.fn.front.len l.octets) l.fn.front.long l.fn.counts →
      StandsInScript (change first held l.concentrator (g.W.Write.contents l.writer)) (seen ++ slice_range l.octets l.fn.front.len l.from) (slice_range l.octets l.start l.from) l.long l.counts;
}

abbrev pub decreases-loop-ahead : goal.decreases-loop-ahead
decreases-loop-ahead g l = length l.octets - l.from
