use Rattle.rohc_context.proofs.FinderLemmas.{found_by_framing, found_in_chains, found_in_forms, found_by_contexts, refuses_by_row, keeps_by_row, has_finder}
use Rattle.rohc_context.proofs.laws.refusals_found.Goals as goal

pub returns-clause-framing : goal.returns-clause-framing
returns-clause-framing c = found_by_framing

pub returns-clause-chains : goal.returns-clause-chains
returns-clause-chains c = found_in_chains

pub returns-clause-forms : goal.returns-clause-forms
returns-clause-forms c = found_in_forms

pub returns-clause-contexts : goal.returns-clause-contexts
returns-clause-contexts c = found_by_contexts

pub returns-clause-steps : goal.returns-clause-steps
returns-clause-steps c = refuses_by_row

pub returns-clause-keeps : goal.returns-clause-keeps
returns-clause-keeps c = keeps_by_row

pub returns-clause-any : goal.returns-clause-any
returns-clause-any c = has_finder
