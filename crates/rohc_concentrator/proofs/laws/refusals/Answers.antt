use Rattle.rohc_concentrator.proofs.WorldLemmas.{want_is_refusal, taken_up_or_refused, taken_has_a_link}
use Rattle.rohc_concentrator.proofs.laws.refusals.Goals as goal

pub returns-clause-want : goal.returns-clause-want
returns-clause-want c = want_is_refusal

pub returns-clause-exact : goal.returns-clause-exact
returns-clause-exact c = taken_up_or_refused

pub returns-clause-taken : goal.returns-clause-taken
returns-clause-taken c = taken_has_a_link
