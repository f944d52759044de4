use Rattle.rohc_concentrator.proofs.SoundLemmas.{calls_keep_sound}
use Rattle.rohc_concentrator.proofs.laws.calls_keep_sound.Goals as goal

pub returns : goal.returns
returns c = calls_keep_sound
