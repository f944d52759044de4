use Rattle.rohc_totals.proofs.LineLemmas.{no_script, no_numbers}
use Rattle.rohc_totals.proofs.line.read_answer.Goals as goal

pub returns-in-Some-clause-none : goal.returns-in-Some-clause-none
returns-in-Some-clause-none c = no_script c.args.line.now c.in-Some.name.now c.read_unnumbered.result c.in-Some.ensures.some c.read_unnumbered.ensures.bad c.read_unnumbered.ensures.long

pub returns-in-None-clause-none : goal.returns-in-None-clause-none
returns-in-None-clause-none c = no_numbers c.args.line.now c.read_numbered.result c.in-None.ensures.none c.read_numbered.ensures.link c.read_numbered.ensures.call
