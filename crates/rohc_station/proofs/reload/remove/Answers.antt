use Rattle.rohc_station.proofs.CallLemmas.{not_removed}
use Rattle.rohc_station.proofs.reload.remove.Goals as goal

pub returns-in-Err : goal.returns-in-Err
returns-in-Err c = absurd (c.requires.there (not_removed c.args.concentrator.now c.remove_link.new.self c.args.link c.in-Err.ensures.event))
