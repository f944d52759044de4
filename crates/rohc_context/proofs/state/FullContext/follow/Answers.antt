use Rattle.rohc_context.proofs.PreviousLemmas.{kept_by, alike}
use Rattle.rohc_context.proofs.state.FullContext.follow.Goals as goal

pub invariant_of-self : goal.invariant_of-self
invariant_of-self c =
    let context = c.args.self.now in
    record {
      good = context.good;
      kept = context.kept;
      stays = context.stays;
      kept_before = kept_by context.fixed context.reference _ c.keep.ensures context.kept;
      near = λ p e _. alike context.reference _ c.keep.ensures p e;
      one_window = context.one_window;
    }
