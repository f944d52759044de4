-- A run that is cut.
use Rattle.std.proofs.Common.{◌≡◌, ℕ, List, [], ◌∷◌, ◌++◌, filter, Option, refl, sym, ap, subst, ◌∙◌, append_assoc}
use Rattle.std.proofs.lemmas.List.Elements.{filter-append}
use Rattle.rohc_concentrator.specs.declared.concentrator.Concentrator.{Concentrator}
use Rattle.rohc_concentrator.specs.Report.{Report}
use Rattle.rohc_concentrator.specs.Events.{Event, RunsEvents}
use Rattle.rohc_concentrator.specs.Isolation.{own_reply, own_replies, is_rich}
use Rattle.rohc_concentrator.specs.Cut.{CutRun}
use Rattle.rohc_concentrator.proofs.SameLemmas.{same_replies}

-- what is kept at the cut
run_split : (front behind : List (Event × Option Report)) (k after : Concentrator) → RunsEvents k (front ++ behind) after
    → (cut : Concentrator) × RunsEvents k front cut × RunsEvents cut behind after
run_split [] behind k after run = (k, refl, run)
run_split ((event, report) ∷ front) behind k after (mid, step, rest) =
    let (cut, a, b) = run_split front behind mid after rest in
    (cut, (mid, step, a), b)

replies_append : (l c : ℕ) (front behind : List (Event × Option Report)) → own_replies l c (front ++ behind) ≡ own_replies l c front ++ own_replies l c behind
replies_append l c [] behind = refl
replies_append l c ((event, report) ∷ front) behind =
    ap (λ rs. own_reply l c event report ++ rs) (replies_append l c front behind)
    ∙ sym (append_assoc (own_reply l c event report) (own_replies l c front) (own_replies l c behind))

pub cut_run : CutRun
cut_run whole front behind runs e =
    let (cut, first, second) = run_split front behind whole.before whole.after (subst (λ turns. RunsEvents whole.before turns whole.after) e runs) in (
      cut,
      first,
      λ other l c goes.
          let same = same_replies (record { before = cut; after = whole.after; turns = behind }) other l c goes.agree goes.fit second goes.runs goes.same in (
            ap (λ turns. filter is_rich (own_replies l c turns)) e
                ∙ ap (filter is_rich) (replies_append l c front behind)
                ∙ filter-append is_rich (own_replies l c front) (own_replies l c behind)
                ∙ ap (λ rs. filter is_rich (own_replies l c front) ++ rs) same.0
                ∙ sym (filter-append is_rich (own_replies l c front) (own_replies l c other.turns)),
            same.1,
          ),
    )
