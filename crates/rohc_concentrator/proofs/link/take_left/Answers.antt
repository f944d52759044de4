use Rattle.std.proofs.Common.{refl}
use Rattle.rohc_concentrator.proofs.link.take_left.Goals as goal

pub arrived-requires : goal.arrived-requires
arrived-requires g c κs = ((refl, tt), c.requires.room _ _ c.step_at-repaired.ensures.own)
