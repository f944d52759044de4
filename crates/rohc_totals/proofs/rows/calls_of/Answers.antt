use Rattle.std.proofs.Common.{ℕ, ◌++◌, slice_get, ap, sym, ◌∙◌}
use Rattle.std.specs.List.{flat_map}
use Rattle.rohc_totals.specs.declared.totals.LinkTotals.{LinkTotals}
use Rattle.rohc_totals.specs.Rows.{rows_of}
use Rattle.rohc_totals.proofs.RowLemmas.{flat_one, take_none}
use Rattle.rohc_totals.proofs.rows.calls_of.Goals as goal
use Rattle.rohc_totals.proofs.rows.calls_of.Goals.{in-Some+in_ok-push_calls, in_default}

pub loop-place-preserved : goal.loop-place-preserved
loop-place-preserved c =
    let entries = c.args.totals.now.links.entries in
    let place = c.loop-place.place in
    let calls = λ (link : ℕ × LinkTotals). rows_of link.0 link.1 in
    elim c.match-get_index.branch [
      | in-Some+in_ok-push_calls w ↦
          let e = ap (λ es. slice_get es place) (sym c.as_slice.ensures.entries) ∙ sym w.in-Some.ensures.entry in
          ap (λ v. v.items) w.rows-is ∙ w.in_ok-push_calls.ensures ∙ ap (λ t. t ++ calls (w.in-Some.link.now, w.in-Some.of_link.now)) c.loop-place.invariant
          ∙ flat_one calls entries place (w.in-Some.link.now, w.in-Some.of_link.now) e
      | in_default w ↦
          let e = ap (λ es. slice_get es place) (sym c.as_slice.ensures.entries) ∙ sym w.in_default.ensures.entry in
          ap (λ v. v.items) w.rows-is ∙ c.loop-place.invariant ∙ ap (λ t. flat_map calls t) (sym (take_none entries place e))
    ]
