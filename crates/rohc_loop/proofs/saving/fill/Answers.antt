use Rattle.rohc_loop.proofs.WriteLemmas.{filled}
use Rattle.rohc_loop.proofs.saving.fill.Goals as goal

pub returns : goal.returns
returns g c = filled _ _ _ _ c.args.date c.args.octets.now c.set_modified.result c.sync.result c.in-Ok.ensures c.set_modified.ensures.told c.sync.ensures.told
