use Rattle.std.proofs.Common.{rules, None, refl}
use Rattle.rohc_frame.specs.Reading.{header_of}
use Rattle.rohc_context.specs.Record.{record_of}
use Rattle.rohc_context.specs.Faults.{fault_of_chain}
use Rattle.rohc_context.specs.Outcomes.{refusal_of}
use Rattle.rohc_context.specs.Step.{LoneStep}
use Rattle.rohc_context.proofs.Taken.{renews_as, renews_not, refused_so, first_ir, first_other}
use Rattle.rohc_context.proofs.record.Context.first.Goals as goal

pub returns-in_default-clause-refusal : goal.returns-in_default-clause-refusal
unfolding LoneStep
returns-in_default-clause-refusal c =
    first_other c.args.settings.now c.args.moment (header_of c.args.forward.now) c.args.forward.now.kind None _ (search (rules, c.in_default.not-Ir)) refl

pub returns-in-Ok-clause-made : goal.returns-in-Ok-clause-made
unfolding LoneStep record_of
returns-in-Ok-clause-made c =
    let s = c.args.settings.now in
    let h = header_of c.args.forward.now in
    let t = c.in-Ok.ensures.taken in
    first_ir s c.args.moment h c.args.forward.now.kind None _ _ (search rules) (renews_as s c.args.moment h None None t.0 _ _ t.1 (t.2 c.args.moment))

pub returns-in-Err-clause-refusal : goal.returns-in-Err-clause-refusal
unfolding LoneStep
returns-in-Err-clause-refusal c =
    let s = c.args.settings.now in
    let h = header_of c.args.forward.now in
    let f = c.in-Err.ensures.fault in
    first_ir s c.args.moment h c.args.forward.now.kind None _ None (search rules)
    (renews_not s c.args.moment h None None f.0 (fault_of_chain f.0) _ None f.1 refl
    (refused_so s h (refusal_of (fault_of_chain f.0)) None _ (search (rules, f.2))))
