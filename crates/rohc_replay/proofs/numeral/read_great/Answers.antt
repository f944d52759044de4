use Rattle.std.proofs.Common.{◌+◌, sym, ◌∙◌, arith}
use Rattle.rohc_replay.proofs.NumeralLemmas.{digit_more, run_ends, too_great}
use Rattle.rohc_replay.proofs.numeral.read_great.Goals as goal
use Rattle.rohc_replay.proofs.numeral.read_great.Goals.{then-loop-size-test+else-is_ascii_digit, else-loop-size-test}

pub returns-in_err-number-clause-none : goal.returns-in_err-number-clause-none
returns-in_err-number-clause-none c =
    let l = c.loop-size in
    let more = digit_more c.args.text.now l.size l.number c.loop-size-test.true l.invariant.digits l.invariant.value c.if-is_ascii_digit.ensures.bound in
    rw c.from_residual.ensures (too_great c.args.text.now (l.size + 1) (omega arith) more.0 (rw more.1 c.in_err-number.ensures))

pub loop-size-preserved : goal.loop-size-preserved
loop-size-preserved c =
    let l = c.loop-size in
    let more = digit_more c.args.text.now l.size l.number c.loop-size-test.true l.invariant.digits l.invariant.value c.if-is_ascii_digit.ensures.bound in
    record {
      within = omega arith;
      digits = more.0;
      small = omega (arith, c.in_ok-number.ensures);
      value = more.1 ∙ sym c.in_ok-number.ensures.1;
    }

pub number_of-requires-clause-ends : goal.number_of-requires-clause-ends
number_of-requires-clause-ends c =
    let l = c.loop-size in
    let text = c.args.text.now in
    run_ends text l.size (elim c.loop-size-test.branch [
      | then-loop-size-test+else-is_ascii_digit w ↦ λ within. sym w.if-is_ascii_digit.ensures.value
      | else-loop-size-test w ↦ λ within. absurd (omega arith)
    ])
