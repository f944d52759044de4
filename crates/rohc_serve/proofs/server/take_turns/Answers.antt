use Rattle.std.proofs.Common.{rules}
use Rattle.rohc_serve.proofs.TurnLemmas.{serves_more}
use Rattle.rohc_serve.proofs.server.take_turns.Goals as goal

pub loop-preserved : goal.loop-preserved
loop-preserved g c = record {
  settings = c.take_turn.ensures.settings;
  served = serves_more _ _ _ _ _ _ _ _ _ _ c.loop.invariant.served c.take_turn.ensures.turn;
}

pub loop-init : goal.loop-init
loop-init g c = search rules

pub returns-clause-served : goal.returns-clause-served
returns-clause-served g c = search rules
