use Rattle.rohc_replay.proofs.StreamLemmas.{newline_after_turn, newline_after_long, stop_after_turn, stop_after_long}
use Rattle.rohc_replay.proofs.stream.end_line.Goals as goal

pub returns-then-long : goal.returns-then-long
returns-then-long g c = rw c.if-long.true (record {
  stands = newline_after_long c.args.concentrator.now _ _ _ _ c.args.line.now _ c.take_long_turn.ensures;
  stops = stop_after_long c.args.concentrator.now _ _ _ _ c.args.line.now _ c.take_long_turn.ensures;
})

pub returns-else-long : goal.returns-else-long
returns-else-long g c = rw c.if-long.false (record {
  stands = newline_after_turn _ _ _ _ _ c.take_turn.ensures;
  stops = stop_after_turn _ _ _ _ _ c.take_turn.ensures;
})
