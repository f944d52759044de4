use Rattle.rohc_station.proofs.CallLemmas.{not_changed}
use Rattle.rohc_station.proofs.reload.change.Goals as goal

pub returns-in-Err : goal.returns-in-Err
returns-in-Err c = absurd (c.requires.there (not_changed c.args.concentrator.now c.change_link.new.self c.args.setting.link c.args.setting _ c.in-Err.ensures.event c.requires.good))
