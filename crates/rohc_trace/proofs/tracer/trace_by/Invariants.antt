use Rattle.std.proofs.Common.{ℕ, List}
use Rattle.std.specs.Io.KnownBytes.{Consumes}
use Rattle.rohc_replay.specs.Run.{change}
use Rattle.rohc_trace.specs.Trace.{StandsInTrace}
use Rattle.rohc_trace.proofs.tracer.trace_by.Given as goal

-- octets were read, and all of them were taken
abbrev pub invariant-loop : goal.invariant-loop
invariant-loop g l = (seen : List ℕ) × Consumes (g.R.Read.remaining l.fn.reader) (g.R.Read.remaining l.reader) seen
    × StandsInTrace (change l.fn.concentrator (g.W.Write.contents l.fn.writer) l.concentrator (g.W.Write.contents l.writer)) seen l.tracer
