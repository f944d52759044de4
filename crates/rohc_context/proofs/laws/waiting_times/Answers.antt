use Rattle.rohc_context.proofs.WaitLemmas.{nacks_after_wait, waits_to_nack, idle_is_none, counts_until_idle, tries_after_wait, waits_to_try}
use Rattle.rohc_context.proofs.laws.waiting_times.Goals as goal

pub returns-clause-nacks : goal.returns-clause-nacks
returns-clause-nacks c = nacks_after_wait

pub returns-clause-waits : goal.returns-clause-waits
returns-clause-waits c = waits_to_nack

pub returns-clause-idle : goal.returns-clause-idle
returns-clause-idle c = idle_is_none

pub returns-clause-counts : goal.returns-clause-counts
returns-clause-counts c = counts_until_idle

pub returns-clause-tries : goal.returns-clause-tries
returns-clause-tries c = tries_after_wait

pub returns-clause-waits_to_try : goal.returns-clause-waits_to_try
returns-clause-waits_to_try c = waits_to_try
