use Rattle.rohc_context.proofs.StepLaws.{low_states_change, low_states_refuse}
use Rattle.rohc_context.proofs.laws.low_state_changes_the_state.Goals as goal

pub returns-clause-changes : goal.returns-clause-changes
returns-clause-changes c = low_states_change

pub returns-clause-refuses : goal.returns-clause-refuses
returns-clause-refuses c = low_states_refuse
