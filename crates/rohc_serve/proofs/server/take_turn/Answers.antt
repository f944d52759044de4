use Rattle.rohc_serve.proofs.TurnLemmas.{one_turn}
use Rattle.rohc_serve.proofs.server.take_turn.Goals as goal

pub returns-clause-turn : goal.returns-clause-turn
returns-clause-turn g c =
    one_turn _ _ _ _ _ _ _ _ _ _ _ _ c.answer_datagram-sends.ensures.answer c.in-Some.ensures.told c.send_all-failed.ensures c.add.ensures
