use Rattle.rohc_context.proofs.state.StaticContext.tries.Goals as goal

pub one_try-requires-clause-kept : goal.one_try-requires-clause-kept
one_try-requires-clause-kept c = c.args.self.now.kept c.in-Some.reference c.in-Some.is
