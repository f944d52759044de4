use Rattle.std.proofs.Common.{ℕ, ◌≤◌, List, take}
use Rattle.std.specs.Io.KnownBytes.{Consumes}
use Rattle.rohc_replay.specs.Script.{longest_line}
use Rattle.rohc_replay.specs.Run.{change}
use Rattle.rohc_replay.specs.Stream.{StandsInScript}
use Rattle.rohc_replay.proofs.run.run_script.Given as goal

-- octets were read, and the replay stands behind them; the buffer has what is kept of the unfinished line
abbrev pub invariant-loop : goal.invariant-loop
invariant-loop g l = record {
  kept : l.front.len ≤ longest_line;
  read : (seen : List ℕ) × Consumes (g.R.Read.remaining l.fn.reader) (g.R.Read.remaining l.reader) seen
      × StandsInScript (change l.fn.concentrator (g.W.Write.contents l.fn.writer) l.concentrator (g.W.Write.contents l.writer)) seen (take l.front.len l.line) l.front.long l.counts;
}
