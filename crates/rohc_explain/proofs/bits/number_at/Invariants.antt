use Rattle.std.proofs.Common.{◌≡◌}
use Rattle.rohc_explain.specs.Told.{number_at}
use Rattle.rohc_explain.proofs.bits.number_at.Given as goal

abbrev pub invariant-loop-k : goal.invariant-loop-k
invariant-loop-k l = l.value ≡ number_at l.octets l.first l.k
