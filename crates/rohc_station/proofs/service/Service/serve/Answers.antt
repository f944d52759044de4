use Rattle.rohc_station.proofs.ServiceLemmas.{one_turn_more, serves_so_far}
use Rattle.rohc_station.proofs.service.Service.serve.Goals as goal

pub loop-preserved : goal.loop-preserved
loop-preserved g c = one_turn_more _ _ _ _ _ _ c.loop.invariant c.take_next.ensures

pub returns-then-is_empty : goal.returns-then-is_empty
returns-then-is_empty g c = serves_so_far _ _ _ _ _ _ c.loop-test.true c.loop.invariant c.take_next.ensures
