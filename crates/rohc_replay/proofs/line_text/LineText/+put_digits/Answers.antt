use Rattle.std.proofs.Common.{◌/◌, ap, length, append_assoc, ◌∙◌, refl, arith}
use Rattle.std.proofs.lemmas.Fmt.{decimal_step}
use Rattle.std.specs.Fmt.{decimal}
use Rattle.rohc_replay.specs.LineText.{text_in}
use Rattle.rohc_replay.proofs.NumberLemmas.{one_longer, one_digit}
use Rattle.rohc_replay.proofs.line_text.LineText.+put_digits.Goals as goal
use Rattle.rohc_replay.proofs.line_text.LineText.+put_digits.Goals.{then-number-ge10, else-number-ge10}

pub put_digits-requires : goal.put_digits-requires
put_digits-requires t c =
    let longer = one_longer c.args.number (omega arith) (omega arith) in
    omega (arith, longer, c.requires)

pub put-requires : goal.put-requires
put-requires t c = elim c.if-number-ge10.branch [
  | then-number-ge10 w ↦
      let longer = one_longer c.args.number (omega arith) (omega arith) in
      rw w.self-is (omega (arith, longer, c.requires, w.put_digits.ensures.len))
  | else-number-ge10 w ↦
      let one = ap length (one_digit c.args.number (omega arith)) in
      rw w.self-is (omega (arith, one, c.requires))
]

pub returns-clause-text : goal.returns-clause-text
returns-clause-text t c = elim c.if-number-ge10.branch [
  | then-number-ge10 w ↦
      let step = decimal_step c.args.number (omega arith) (omega arith) in
      c.put.ensures.text
      ∙ rw (w.self-is, w.put_digits.ensures.text, step) (append_assoc (text_in c.args.self.now) (decimal (c.args.number / 10)) _)
  | else-number-ge10 w ↦
      c.put.ensures.text ∙ rw (w.self-is, one_digit c.args.number (omega arith)) refl
]

pub returns-clause-len : goal.returns-clause-len
returns-clause-len t c = elim c.if-number-ge10.branch [
  | then-number-ge10 w ↦
      let longer = one_longer c.args.number (omega arith) (omega arith) in
      omega (arith, longer, c.put.ensures.len, rw w.self-is at c.put.ensures.len, w.put_digits.ensures.len)
  | else-number-ge10 w ↦
      let one = ap length (one_digit c.args.number (omega arith)) in
      omega (arith, one, rw w.self-is at c.put.ensures.len)
]
