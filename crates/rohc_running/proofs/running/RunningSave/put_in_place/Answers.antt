use Rattle.std.proofs.Common.{◌∷◌, [], refl, rules}
use Rattle.std.specs.Prelude.{Ok}
use Rattle.rohc_world.specs.Acts.{SetModified, Closed, Renamed}
use Rattle.rohc_loop.proofs.AskLemmas.{adds_more}
use Rattle.rohc_running.proofs.RunningLemmas.{not_placed}
use Rattle.rohc_running.proofs.running.RunningSave.put_in_place.Goals as goal

pub returns-in-Ok : goal.returns-in-Ok
returns-in-Ok g c =
    let dated = SetModified c.args.self.now.date c.set_modified.result in
    let named = Renamed c.as_str.result.now c.as_str-2.result.now (Ok tt) ∷ [] in
    record {
      acts = dated ∷ Closed ∷ named;
      known = adds_more _ _ _ (dated ∷ []) (Closed ∷ named) c.set_modified.ensures.told (adds_more _ _ _ (Closed ∷ []) named c.close.ensures.told c.in-Ok.ensures.told);
      form = (
        refl,
        refl,
        record { path = refl; unfinished = refl },
        (c.set_modified.result, λ i. dated ∷ Closed ∷ Renamed (c.as_str.ensures.value i) (c.as_str-2.ensures.value i) (Ok tt) ∷ []),
      );
    }

pub returns-in-Err : goal.returns-in-Err
returns-in-Err g c = search (rules, not_placed, c.in-Err.ensures.told)
