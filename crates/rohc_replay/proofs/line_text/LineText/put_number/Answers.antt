use Rattle.std.proofs.Common.{◌++◌, ◌∙◌, List, ℕ, ap, sym, arith}
use Rattle.std.proofs.lemmas.Fmt.{decimal_digit}
use Rattle.rohc_replay.specs.LineText.{text_in}
use Rattle.rohc_replay.proofs.NumberLemmas.{at_most_five, two_digits, three_digits}
use Rattle.rohc_replay.proofs.line_text.LineText.put_number.Goals as goal

pub returns-then-number-lt10-clause-text : goal.returns-then-number-lt10-clause-text
returns-then-number-lt10-clause-text c =
    c.put.ensures.text
    ∙ ap (λ (digits : List ℕ). text_in c.args.self.now ++ digits) (sym (decimal_digit c.args.number (omega arith)))

pub returns-then-number-lt100-clause-text : goal.returns-then-number-lt100-clause-text
returns-then-number-lt100-clause-text c =
    c.put-then-number-lt100.ensures.text
    ∙ ap (λ (digits : List ℕ). text_in c.args.self.now ++ digits) (sym (two_digits c.args.number (omega arith) (omega arith)))

pub returns-then-number-lt1000-clause-text : goal.returns-then-number-lt1000-clause-text
returns-then-number-lt1000-clause-text c =
    c.put-then-number-lt1000.ensures.text
    ∙ ap (λ (digits : List ℕ). text_in c.args.self.now ++ digits) (sym (three_digits c.args.number (omega arith) (omega arith)))

pub put_digits-requires : goal.put_digits-requires
put_digits-requires c = omega (arith, c.requires, at_most_five c.args.number (omega arith))

pub returns-else-number-lt1000-clause-len : goal.returns-else-number-lt1000-clause-len
returns-else-number-lt1000-clause-len c = omega (arith, c.put_digits.ensures.len, at_most_five c.args.number (omega arith))
