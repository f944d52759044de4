use Rattle.std.proofs.Common.{ℕ, List, Option, ◌++◌, take}
use Rattle.rohc_concentrator.specs.declared.concentrator.Concentrator.{Concentrator}
use Rattle.rohc_replay.specs.Run.{change}
use Rattle.rohc_trace.specs.Trace.{StandsInTrace}
use Rattle.rohc_trace.proofs.tracer.Tracer.take_all.Given as goal

-- the octets so far were taken
abbrev pub invariant-loop-octet : goal.invariant-loop-octet
invariant-loop-octet g l = (first : Concentrator) (held : Option (List ℕ)) (seen : List ℕ) →
    StandsInTrace (change first held l.fn.concentrator (g.W.Write.contents l.fn.writer)) seen l.fn.self →
    StandsInTrace (change first held l.concentrator (g.W.Write.contents l.writer)) (seen ++ take l.octet-index l.octets) l.self
