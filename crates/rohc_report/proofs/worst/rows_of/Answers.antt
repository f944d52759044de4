use Rattle.std.proofs.Common.{◌++◌, ◌∷◌, [], map, slice_get, ap, sym, ◌∙◌}
use Rattle.rohc_report.specs.Rows.{row_of}
use Rattle.rohc_report.proofs.RowLemmas.{map_one, take_none}
use Rattle.rohc_report.proofs.worst.rows_of.Goals as goal
use Rattle.rohc_report.proofs.worst.rows_of.Goals.{in-Some+in_ok-push, in_default}

pub loop-place-preserved : goal.loop-place-preserved
loop-place-preserved c =
    let entries = c.args.calls.now.calls.entries in
    let place = c.loop-place.place in
    elim c.match-get_index.branch [
      | in-Some+in_ok-push w ↦
          let e = ap (λ es. slice_get es place) (sym c.as_slice.ensures.entries) ∙ sym w.in-Some.ensures.entry in
          ap (λ v. v.items) w.rows-is ∙ w.in_ok-push.ensures.items ∙ ap (λ t. t ++ row_of (w.in-Some.key.now, w.in-Some.totals.now) ∷ []) c.loop-place.invariant
          ∙ map_one row_of entries place (w.in-Some.key.now, w.in-Some.totals.now) e
      | in_default w ↦
          let e = ap (λ es. slice_get es place) (sym c.as_slice.ensures.entries) ∙ sym w.in_default.ensures.entry in
          ap (λ v. v.items) w.rows-is ∙ c.loop-place.invariant ∙ ap (map row_of) (sym (take_none entries place e))
    ]
