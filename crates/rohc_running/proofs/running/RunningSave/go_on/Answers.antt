use Rattle.std.proofs.Common.{◌≡◌, ◌∷◌, [], ◌++◌, take, false, refl, sym, subst}
use Rattle.std.specs.Prelude.{Ok, Err}
use Rattle.rohc_world.specs.Acts.{Wrote}
use Rattle.rohc_loop.proofs.AskLemmas.{adds_more}
use Rattle.rohc_piecewise.specs.UnderWay.{IsUnderWay, busy}
use Rattle.rohc_piecewise.proofs.UnderLemmas.{is_saved}
use Rattle.rohc_running.proofs.RunningLemmas.{gives_up_later, size_more, places_last}
use Rattle.rohc_running.proofs.running.RunningSave.go_on.Goals as goal

pub returns-in-Ok-eq0 : goal.returns-in-Ok-eq0
returns-in-Ok-eq0 g c = record {
  goes = λ moment heads seen octets is.
      let wrote = Wrote c.piece-piece.result.now (Ok c.in-Ok-eq0.field-0) in
      record {
        acts = wrote ∷ c.fail.ensures.acts;
        known = adds_more _ _ _ (wrote ∷ []) c.fail.ensures.acts c.in-Ok-eq0.ensures.told c.fail.ensures.known;
        form = gives_up_later c.args.self.now _ c.fail.new.self wrote c.fail.ensures.acts (record { path = refl; unfinished = refl }) tt c.fail.ensures.form;
      };
}

pub returns-in-Err : goal.returns-in-Err
returns-in-Err g c = record {
  goes = λ moment heads seen octets is.
      let wrote = Wrote c.piece-piece.result.now (Err c.in-Err.trouble) in
      record {
        acts = wrote ∷ c.fail-in-Err.ensures.acts;
        known = adds_more _ _ _ (wrote ∷ []) c.fail-in-Err.ensures.acts c.in-Err.ensures.told c.fail-in-Err.ensures.known;
        form = gives_up_later c.args.self.now _ c.fail-in-Err.new.self wrote c.fail-in-Err.ensures.acts (record { path = refl; unfinished = refl }) tt c.fail-in-Err.ensures.form;
      };
}

pub returns : goal.returns
returns g c = record {
  goes = λ moment heads seen octets is.
      let wrote = Wrote c.piece-piece.result.now (Ok c.in-Ok.count) in
      let under : IsUnderWay moment heads seen (octets ++ take c.in-Ok.count c.piece-piece.result.now) c.take.new.self =
      subst (λ piece. IsUnderWay moment heads seen (octets ++ take c.in-Ok.count piece) c.take.new.self) (sym c.piece-piece.ensures.piece) (c.take.ensures.taken moment heads seen octets is.saver) in
      record {
        acts = wrote ∷ c.put_in_place.ensures.acts;
        known = adds_more _ _ _ (wrote ∷ []) c.put_in_place.ensures.acts c.in-Ok.ensures.told c.put_in_place.ensures.known;
        form = places_last moment heads seen octets c.args.concentrator.now c.args.self.now _ c.put_in_place.new.self c.piece-piece.result.now c.in-Ok.count c.put_in_place.result c.put_in_place.ensures.acts
            c.piece-piece.ensures.few refl (record { path = refl; unfinished = refl })
            (is_saved moment heads seen _ c.take.new.self under (let over : busy c.take.new.self ≡ false = cc in over))
            (size_more octets c.piece-piece.result.now c.in-Ok.count c.args.self.now.length _ c.in-Ok.ensures.within is.size c.saturating_add-self.ensures) c.put_in_place.ensures.form;
      };
}
