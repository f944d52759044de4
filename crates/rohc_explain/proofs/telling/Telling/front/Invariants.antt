use Rattle.std.proofs.Common.{◌≡◌}
use Rattle.rohc_explain.proofs.telling.Telling.front.Given as goal

-- the octets stay
abbrev pub invariant-loop : goal.invariant-loop
invariant-loop l = l.self.octets.now ≡ l.fn.self.octets.now
