use Rattle.rohc_context.specs.Previous.{fields_by}
use Rattle.rohc_context.proofs.PreviousLemmas.{kept_as}
use Rattle.rohc_context.proofs.state.FullContext.third.Goals as goal

pub meant_by-requires-clause-kept : goal.meant_by-requires-clause-kept
meant_by-requires-clause-kept c =
    let context = c.args.self.now in
    let p = c.in-Some.previous in
    let before = c.beside-before in
    kept_as context.fixed before.result.moving (fields_by context.reference.moving p) before.result.saved p.saved
    before.ensures.fields before.ensures.saved (context.kept_before p c.in-Some.is)
