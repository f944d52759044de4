-- Where all stays, what happens next happens as before; and what follows of a value, if there is one.
use Rattle.std.proofs.Common.{◌≡◌, ℕ, List, Bool, length, ◌==◌, Option, refl, subst}
use Rattle.std.specs.Prelude.{Some, None, IfSome}
use Rattle.std.specs.Bool.{MatchBool}
use Rattle.std.proofs.Math.Path.{fun_ext}
use Rattle.rohc_context.specs.Record.{Record}
use Rattle.rohc_concentrator.specs.declared.concentrator.Concentrator.{Concentrator}
use Rattle.rohc_concentrator.specs.Tables.{setting_at, record_at, settings_in_order, KeepsAll}
use Rattle.rohc_concentrator.specs.Report.{Report, IsAnswered}
use Rattle.rohc_concentrator.specs.Repaired.{IsRepaired}
use Rattle.rohc_concentrator.specs.Seen.{view_at}
use Rattle.rohc_concentrator.specs.Calls.{Call, CallAnswer}
use Rattle.rohc_concentrator.specs.RunsCall.{LinkStep, IsCrowd, LinksOrdered, RunsCall}
use Rattle.rohc_concentrator.proofs.ViewLemmas.{keeps_view}

pub some_by : {T : Type 0} (o : Option T) {P Q : T → Type 0} → ((t : T) → P t → Q t) → IfSome o P → IfSome o Q
some_by None f held = held
some_by (Some t) f held = f t held

pub keeps_itself : (k : Concentrator) → KeepsAll k k
keeps_itself k = record {
  settings = record { each = λ l. refl; in_order = refl };
  records = λ l cid. refl;
  order = λ l. refl;
}

pub runs_after : (old mid : Concentrator) (link : ℕ) (e : Call) (a : CallAnswer) (new : Concentrator) → KeepsAll old mid → RunsCall mid link e a new → RunsCall old link e a new
runs_after old mid link e a new kept event = record {
  each = λ l. subst (λ v. MatchBool (link == l) (LinkStep v e a (view_at new l)) (view_at new l ≡ v)) (keeps_view old mid l kept) (event.each l);
  crowd = subst (λ ss. IsCrowd e (length ss) a) kept.settings.in_order event.crowd;
  links = subst (λ set. LinksOrdered e a set (settings_in_order old) (settings_in_order new)) (kept.settings.each link)
      (subst (λ ss. LinksOrdered e a (setting_at mid link) ss (settings_in_order new)) kept.settings.in_order event.links);
}

-- an answer after all stayed is one as before
pub answered_after : (old mid : Concentrator) (link moment : ℕ) (octets : List ℕ) (report : Report) (next : ℕ → Option Record)
    → KeepsAll old mid → IsAnswered (setting_at mid link) (record_at mid link) moment octets report next → IsAnswered (setting_at old link) (record_at old link) moment octets report next
answered_after old mid link moment octets report next kept a =
    subst (λ s. IsAnswered s (record_at old link) moment octets report next) (kept.settings.each link)
    (subst (λ (r : ℕ → Option Record). IsAnswered (setting_at mid link) r moment octets report next) (fun_ext (kept.records link)) a)

-- and so is whether the packet was repaired
pub repaired_after : (old mid : Concentrator) (link moment : ℕ) (octets : List ℕ) (report : Report) (repaired : Bool)
    → KeepsAll old mid → IsRepaired (setting_at mid link) (record_at mid link) moment octets report repaired → IsRepaired (setting_at old link) (record_at old link) moment octets report repaired
repaired_after old mid link moment octets report repaired kept a =
    subst (λ s. IsRepaired s (record_at old link) moment octets report repaired) (kept.settings.each link)
    (subst (λ (r : ℕ → Option Record). IsRepaired (setting_at mid link) r moment octets report repaired) (fun_ext (kept.records link)) a)
