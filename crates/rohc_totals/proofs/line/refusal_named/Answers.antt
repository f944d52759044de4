use Rattle.std.proofs.Common.{◌≡◌, ℕ, List, Option, Some, None, IfNone, ◌<◌, ◌-◌, get_or, length, ◌∙◌, ap, subst, sym}
use Rattle.std.proofs.lemmas.Option.{slice_get_within, get_or_from_slice_get}
use Rattle.rohc_context.specs.Refusal.{name_of, number_of, StandAtNumbers}
use Rattle.rohc_context.specs.declared.refusal.Refusal.{Refusal}
use Rattle.rohc_context.specs.declared.refusal.Refusal.TheVariants.{Empty}
use Rattle.rohc_totals.proofs.line.refusal_named.Goals as goal

no_name : (name : List ℕ) (r : Option Refusal) (refusals : List Refusal) → StandAtNumbers refusals →
    IfNone r ((k : ℕ) → k < length refusals → name ≡ name_of (get_or refusals k Empty) → ⊥) → IfNone r ((q : Refusal) → name ≡ name_of q → ⊥)
no_name name (Some r) refusals stand none = tt
no_name name None refusals stand none = λ q is.
    let place = number_of q - 1 in
    none place (slice_get_within refusals place q (stand q)) (is ∙ ap name_of (sym (get_or_from_slice_get refusals place q Empty (stand q))))

pub returns : goal.returns
returns c = record {
  named = c.named_among.ensures.named;
  none = no_name c.args.name.now c.named_among.result c.as_slice.result.now (subst StandAtNumbers (sym c.as_slice.ensures) c.all.ensures) c.named_among.ensures.none;
}
