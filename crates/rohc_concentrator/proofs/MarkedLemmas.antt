-- Laws of marked events.
use Rattle.std.proofs.Common.{◌≡◌, ℕ, List, [], ◌∷◌, map, true, false, Option, Some, None, refl}
use Rattle.rohc_frame.specs.Header.{Header}
use Rattle.rohc_context.specs.declared.settings.Settings.{Settings}
use Rattle.rohc_context.specs.Record.{Record}
use Rattle.rohc_context.specs.Response.{Response}
use Rattle.rohc_context.specs.Step.{LoneStep}
use Rattle.rohc_context.proofs.StepLaws.{begins_by_ir, leaves_none}
use Rattle.rohc_concentrator.specs.Report.{is_refusal}
use Rattle.rohc_concentrator.specs.LoneRun.{LoneEvent, Arrival, Forget, LoneRun, MarkedRun}
use Rattle.rohc_concentrator.specs.Laws.{MarkedIsAcceptedIr, LoneRunIsUnmarked}
use Rattle.rohc_concentrator.proofs.WorldLemmas.{which_refusal}

-- what leaves a record where there was none isn't refused
not_refused : (s : Settings) (moment : ℕ) (h : Header) (reply : Response) (r : Record) → LoneStep None s moment h reply (Some r) → is_refusal reply.outcome ≡ false
not_refused s moment h reply r step = elim (is_refusal reply.outcome) as (λ b. is_refusal reply.outcome ≡ b → b ≡ false) [
  | true ↦ λ refuses. let refusal = which_refusal reply.outcome refuses in absurd (let gone : ◌≡◌ {A = Option Record} (Some r) None = leaves_none s moment h reply (Some r) refusal.0 step refusal.1 in cc)
  | false ↦ λ taken. refl
] refl

pub marked_is_accepted_ir : MarkedIsAcceptedIr
marked_is_accepted_ir s moment h before after reply marked =
    let accepted = marked.3.0 in
    let r = marked.3.1 in
    let step = marked.3.2 in
    let ir = begins_by_ir s moment h accepted r step in (
      marked.0,
      record {
        dynamic = ir.0;
        kind = ir.1;
        reply = accepted;
        after = Some r;
        step = step;
        accepted = not_refused s moment h accepted r step;
      },
    )

alone_to_marked : (s : Settings) (before after : Option Record) (events : List LoneEvent) (replies : List Response) → LoneRun s before events replies after → MarkedRun s before (map (λ (event : LoneEvent). (event, false)) events) replies after
alone_to_marked s before after [] [] run = run
alone_to_marked s before after [] (reply ∷ replies) run = absurd run
alone_to_marked s before after (Forget ∷ events) replies run = alone_to_marked s None after events replies run
alone_to_marked s before after (Arrival m h ∷ events) [] run = absurd run
alone_to_marked s before after (Arrival m h ∷ events) (reply ∷ replies) run = (run.0, run.1, alone_to_marked s run.0 after events replies run.2)

marked_to_alone : (s : Settings) (before after : Option Record) (events : List LoneEvent) (replies : List Response) → MarkedRun s before (map (λ (event : LoneEvent). (event, false)) events) replies after → LoneRun s before events replies after
marked_to_alone s before after [] [] run = run
marked_to_alone s before after [] (reply ∷ replies) run = absurd run
marked_to_alone s before after (Forget ∷ events) replies run = marked_to_alone s None after events replies run
marked_to_alone s before after (Arrival m h ∷ events) [] run = absurd run
marked_to_alone s before after (Arrival m h ∷ events) (reply ∷ replies) run = (run.0, run.1, marked_to_alone s run.0 after events replies run.2)

pub lone_run_is_unmarked : LoneRunIsUnmarked
lone_run_is_unmarked s before after events replies = (alone_to_marked s before after events replies, marked_to_alone s before after events replies)
