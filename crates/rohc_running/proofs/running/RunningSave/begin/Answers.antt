use Rattle.std.proofs.Common.{◌∷◌, [], refl, ap, inr}
use Rattle.std.specs.Prelude.{Ok}
use Rattle.rohc_world.specs.Acts.{Created}
use Rattle.rohc_loop.proofs.AskLemmas.{adds_more}
use Rattle.rohc_running.proofs.RunningLemmas.{fails_later}
use Rattle.rohc_running.proofs.running.RunningSave.begin.Goals as goal

pub returns-then-is_err : goal.returns-then-is_err
returns-then-is_err g c =
    let made = Created c.as_str.result.now (Ok tt) in
    record {
      begins = record {
        acts = made ∷ c.give_up.ensures.acts;
        known = adds_more _ _ _ (made ∷ []) c.give_up.ensures.acts c.in-Ok.ensures.told c.give_up.ensures.known;
        form = (
          fails_later c.args.self.now _ c.give_up.new.self made c.give_up.ensures.acts (record { path = refl; unfinished = refl }) c.as_str.ensures.value c.give_up.ensures.form.fails,
          inr (c.give_up.ensures.acts, ap (λ path. Created path (Ok tt) ∷ c.give_up.ensures.acts) c.as_str.ensures.value, c.give_up.ensures.form.removed),
        );
      };
    }
