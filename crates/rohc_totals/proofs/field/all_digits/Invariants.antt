use Rattle.std.proofs.Common.{◌≡◌, take}
use Rattle.std.specs.List.{list_all}
use Rattle.rohc_totals.specs.Answer.{is_digit}
use Rattle.rohc_totals.proofs.field.all_digits.Given as goal

-- whether each octet before is a digit
abbrev pub invariant-loop-octet : goal.invariant-loop-octet
invariant-loop-octet l = l.all ≡ list_all is_digit (take l.octet-index l.text)
