use Rattle.std.proofs.Common.{◌++◌, ◌∷◌, [], map, slice_get, ap, sym, ◌∙◌}
use Rattle.rohc_totals.specs.Rows.{row_of}
use Rattle.rohc_totals.proofs.RowLemmas.{map_one, take_none}
use Rattle.rohc_totals.proofs.rows.push_calls.Goals as goal
use Rattle.rohc_totals.proofs.rows.push_calls.Goals.{in-Some+in_ok-push, in_default}

pub loop-place-preserved : goal.loop-place-preserved
loop-place-preserved c =
    let entries = c.args.totals.now.calls.entries in
    let place = c.loop-place.place in
    let front = c.args.rows.now.items in
    elim c.match-get_index.branch [
      | in-Some+in_ok-push w ↦
          let e = ap (λ es. slice_get es place) (sym c.as_slice.ensures.entries) ∙ sym w.in-Some.ensures.entry in
          ap (λ v. v.items) w.rows-is ∙ w.in_ok-push.ensures.items ∙ ap (λ t. t ++ row_of c.args.link (w.in-Some.cid.now, w.in-Some.call.now) ∷ []) c.loop-place.invariant
          ∙ map_one (row_of c.args.link) front entries place (w.in-Some.cid.now, w.in-Some.call.now) e
      | in_default w ↦
          let e = ap (λ es. slice_get es place) (sym c.as_slice.ensures.entries) ∙ sym w.in_default.ensures.entry in
          ap (λ v. v.items) w.rows-is ∙ c.loop-place.invariant ∙ ap (λ t. front ++ map (row_of c.args.link) t) (sym (take_none entries place e))
    ]
