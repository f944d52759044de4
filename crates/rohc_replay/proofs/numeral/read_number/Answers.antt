use Rattle.std.proofs.Common.{◌∙◌, ap, ◌+◌, ◌*◌, ℕ, sym, arith}
use Rattle.rohc_replay.proofs.NumeralLemmas.{digit_more, few_digits}
use Rattle.rohc_replay.proofs.numeral.read_number.Goals as goal

pub overflow_mul-number : goal.overflow_mul-number
overflow_mul-number c =
    let l = c.loop-size in
    omega (arith, few_digits c.args.text.now l.size l.invariant.digits c.loop-size-test.true, l.invariant.value)

pub overflow_add-number : goal.overflow_add-number
overflow_add-number c =
    let l = c.loop-size in
    omega (arith, few_digits c.args.text.now l.size l.invariant.digits c.loop-size-test.true, l.invariant.value, c.from.ensures)

pub loop-size-preserved : goal.loop-size-preserved
loop-size-preserved c =
    let l = c.loop-size in
    let more = digit_more c.args.text.now l.size l.number c.if-size-text.true l.invariant.digits l.invariant.value c.if-is_ascii_digit.ensures.bound in
    record {
      within = omega arith;
      few = omega arith;
      digits = more.0;
      value = more.1 ∙ ap (λ (digit : ℕ). l.number * 10 + digit) (sym c.from.ensures);
    }
