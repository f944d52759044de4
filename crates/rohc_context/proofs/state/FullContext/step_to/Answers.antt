use Rattle.rohc_context.proofs.Registers.{kept_next}
use Rattle.rohc_context.proofs.state.FullContext.step_to.Goals as goal

pub invariant_of-self : goal.invariant_of-self
invariant_of-self c =
    let context = c.args.self.now in
    record {
      good = context.good;
      kept = kept_next context.fixed context.reference.moving c.args.moving.now context.reference.saved context.kept c.requires;
      stays = context.stays;
      kept_before = context.kept_before;
      near = λ p e same.
          let is = context.near p e same in
          record {
            tos = is.tos;
            ttl = is.ttl;
            payload_type = is.payload_type;
            df = is.df;
            padding = is.padding;
            extension = is.extension;
            saved = is.saved;
          };
      one_window = context.one_window;
    }
