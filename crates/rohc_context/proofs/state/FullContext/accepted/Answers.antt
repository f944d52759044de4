use Rattle.std.proofs.Common.{ap, inl, inr}
use Rattle.std.specs.Prelude.{Ok}
use Rattle.rohc_forms.specs.Packets.{content}
use Rattle.rohc_context.specs.Record.{reference_of}
use Rattle.rohc_context.specs.Read.{explained_of}
use Rattle.rohc_context.proofs.state.FullContext.accepted.Goals as goal

pub attempt-requires-clause-kept : goal.attempt-requires-clause-kept
attempt-requires-clause-kept c = c.args.self.now.kept

pub returns-in-Some-clause-verdict : goal.returns-in-Some-clause-verdict
returns-in-Some-clause-verdict c =
    let header = explained_of c.in-Some.accepted.header in
    inl (header, c.in-Some.ensures.fits, ap (λ r. Ok (record { content = content c.args.form.now; reference = reference_of r; header = header })) c.in-Some.ensures.reference)

pub returns-in-None-clause-verdict : goal.returns-in-None-clause-verdict
returns-in-None-clause-verdict c = inr (c.in-None.ensures.misses, c.later_tries.ensures.verdict)
