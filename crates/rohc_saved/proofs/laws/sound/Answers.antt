use Rattle.rohc_concentrator.proofs.SoundLemmas.{calls_keep_sound}
use Rattle.rohc_saved.proofs.RestartLemmas.{made_sound, kept_sound, restored_sound}
use Rattle.rohc_saved.proofs.LinkLaws.{link_restored_sound}
use Rattle.rohc_saved.proofs.laws.sound.Goals as goal

pub returns-clause-made : goal.returns-clause-made
returns-clause-made c = made_sound

pub returns-clause-stays : goal.returns-clause-stays
returns-clause-stays c = calls_keep_sound

pub returns-clause-kept : goal.returns-clause-kept
returns-clause-kept c = kept_sound

pub returns-clause-restored : goal.returns-clause-restored
returns-clause-restored c = restored_sound

pub returns-clause-link : goal.returns-clause-link
returns-clause-link c = link_restored_sound
