use Rattle.std.proofs.Common.{◌≡◌, ◌<◌, [], length, arith, sym, eqb-true}
use Rattle.std.proofs.lemmas.Bool.{eqb-false}
use Rattle.std.proofs.lemmas.List.{nil_from_length}
use Rattle.rohc_replay.proofs.StreamLemmas.{end_after_turn, end_after_long, last_after_turn, last_after_long, EndsWithText-empty}
use Rattle.rohc_replay.proofs.stream.end_script.Goals as goal

pub returns-then-long : goal.returns-then-long
returns-then-long g c = rw c.if-long.true (record {
  ends = end_after_long c.args.concentrator.now _ _ _ _ c.args.line.now _ c.take_long_turn.ensures;
  stops = last_after_long c.args.concentrator.now _ _ _ _ c.args.line.now _ c.take_long_turn.ensures;
})

pub returns-then-is_empty : goal.returns-then-is_empty
returns-then-is_empty g c =
    let none : c.args.line.now ≡ [] = nil_from_length _ (eqb-true _ _ (sym c.if-is_empty.ensures)) in
    rw (c.if-long.false, none) (record { ends = λ first held seen. EndsWithText-empty _ seen _; stops = tt })

pub returns-else-is_empty : goal.returns-else-is_empty
returns-else-is_empty g c =
    let filled = eqb-false _ _ (sym c.if-is_empty.ensures) in
    let some : 0 < length c.args.line.now = omega arith in
    rw c.if-long.false (record {
      ends = end_after_turn _ _ _ _ _ some c.take_turn.ensures;
      stops = last_after_turn _ _ _ _ _ some c.take_turn.ensures;
    })
