use Rattle.std.proofs.Common.{sym, ◌∙◌}
use Rattle.rohc_checks.specs.Division.{poly3, poly7}
use Rattle.rohc_context.proofs.Registers.{checked_from, short_for, long_for}
use Rattle.rohc_context.proofs.tries.check_of.Goals as goal

pub returns-then-is_short : goal.returns-then-is_short
returns-then-is_short c =
    c.check3_after.ensures ∙ checked_from poly3 c.args.saved.0 c.args.octets.now c.requires.three
    ∙ short_for c.args.kind c.args.octets.now (sym c.is_short.ensures ∙ c.if-is_short.true)

pub returns-else-is_short : goal.returns-else-is_short
returns-else-is_short c =
    c.check7_after.ensures ∙ checked_from poly7 c.args.saved.1 c.args.octets.now c.requires.seven
    ∙ long_for c.args.kind c.args.octets.now (sym c.is_short.ensures ∙ c.if-is_short.false)
