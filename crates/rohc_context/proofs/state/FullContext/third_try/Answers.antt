use Rattle.rohc_context.specs.Previous.{fields_by}
use Rattle.rohc_context.proofs.PreviousLemmas.{kept_as}
use Rattle.rohc_context.proofs.state.FullContext.third_try.Goals as goal

pub attempt-requires-clause-kept : goal.attempt-requires-clause-kept
attempt-requires-clause-kept c =
    let context = c.args.self.now in
    let p = c.in-Some.previous in
    kept_as context.fixed c.beside.result.moving (fields_by context.reference.moving p) c.beside.result.saved p.saved
    c.beside.ensures.fields c.beside.ensures.saved (context.kept_before p c.in-Some.is)
