use Rattle.std.proofs.Common.{◌∙◌}
use Rattle.rohc_c.proofs.SavedLemmas.{refused, back}
use Rattle.rohc_c.proofs.saved.rebuild.Goals as goal

pub returns-in-Err-restore-clause-fault : goal.returns-in-Err-restore-clause-fault
returns-in-Err-restore-clause-fault c =
    refused c.args.links.now c.args.octets.now c.as_slice.result.now c.in-Err-restore.fault c.of.result
    c.in_default.ensures.few (c.as_slice.ensures.value ∙ c.in-Ok.ensures) c.in-Err-restore.ensures.fault c.of.ensures

pub returns-in-Ok-new-clause-back : goal.returns-in-Ok-new-clause-back
returns-in-Ok-new-clause-back c =
    back c.args.links.now c.args.octets.now c.as_slice.result.now c.in-Ok-restore.back.0 c.in-Ok-new.kept.value c.in-Ok-restore.back.1 c.tell.result
    c.in_default.ensures.few (c.as_slice.ensures.value ∙ c.in-Ok.ensures) c.in-Ok-restore.ensures.fine
    c.in-Ok-restore.ensures.restored c.in-Ok-new.ensures.ok c.tell.ensures
