use Rattle.rohc_context.proofs.state.State.after_check.Goals as goal

pub returns-in-Full : goal.returns-in-Full
returns-in-Full c = rw c.in-Full.is (c.after_check-in-Full.ensures c.args.moment)
