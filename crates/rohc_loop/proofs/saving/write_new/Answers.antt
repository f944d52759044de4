use Rattle.rohc_loop.proofs.SaveLemmas.{new_filled, new_removed}
use Rattle.rohc_loop.proofs.saving.write_new.Goals as goal

pub returns-in-Ok-filled : goal.returns-in-Ok-filled
returns-in-Ok-filled g c = new_filled _ _ _ _ _ _ _ c.in-Ok.ensures.told c.in-Ok-filled.ensures c.close.ensures.told

pub returns-in-Err-filled : goal.returns-in-Err-filled
returns-in-Err-filled g c =
    new_removed _ _ _ _ _ _ _ _ _ c.remove.result c.in-Ok.ensures.told c.in-Err-filled.ensures c.close.ensures.told c.remove.ensures.told
