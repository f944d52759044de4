-- Which lines of an event's answer are a pair's: those of the reply that it got.
use Rattle.std.proofs.Common.{◌≡◌, ℕ, ◌<◌, ◌^◌, List, [], ◌∷◌, ◌++◌, map, filter, Bool, true, false, ◌==◌, if◌then◌else◌, Option, Some, None, ⊎_elim, append-nil, eq-eqb, ne_eqb, refl, sym, ◌∙◌, ap}
use Rattle.std.specs.List.{flat_map}
use Rattle.std.proofs.lemmas.Bool.{cases_eq}
use Rattle.rohc_context.specs.Response.{Response}
use Rattle.rohc_context.specs.declared.refusal.Refusal.TheVariants as refusals
use Rattle.rohc_concentrator.proofs.ArrivedLemmas.{arrived}
use Rattle.rohc_concentrator.proofs.GoodLemmas.{HasFitCid, report_fits}
use Rattle.rohc_concentrator.specs.declared.concentrator.Concentrator.{Concentrator}
use Rattle.rohc_concentrator.specs.declared.setting.LinkSetting.{LinkSetting}
use Rattle.rohc_concentrator.specs.Tables.{setting_at, record_at}
use Rattle.rohc_concentrator.specs.Report.{Report, Arrived, OnlyFront, Refused}
use Rattle.rohc_concentrator.specs.Events.{Event, Arrive, Reset, RunsEvent}
use Rattle.rohc_concentrator.specs.Isolation.{reply_of, own_reply}
use Rattle.rohc_replay.specs.AnswerLines.{report_lines, event_lines, response_lines, relay_line, bad_line, long_line}
use Rattle.rohc_replay.specs.Isolation.{is_pair_line}
use Rattle.rohc_replay.specs.Script.{IsEvent}
use Rattle.rohc_replay.proofs.OwnLines.{filter-append, filter-left_out, relays_left_out, refusal_left_out, reply_left_out, reply_whole_kept}
use Rattle.rohc_replay.proofs.PairLemmas.{other_pair, no_link}

module _ (l c : ℕ) (lf : l < 2 ^ 16) (cf : c < 2 ^ 16) where
  -- the pair's own reply
  own_kept : (relayed : List (List ℕ)) (response : Response) → filter (is_pair_line l c) (map (relay_line l) relayed ++ response_lines l c response) ≡ flat_map (response_lines l c) (response ∷ [])
  own_kept relayed response =
      filter-append (is_pair_line l c) (map (relay_line l) relayed) (response_lines l c response)
      ∙ rw (relays_left_out l c l relayed lf cf lf, reply_whole_kept l c response) (sym (append-nil (response_lines l c response)))

  -- the reply to another pair
  other_left_out : (k d : ℕ) (relayed : List (List ℕ)) (response : Response) → k < 2 ^ 16 → d < 2 ^ 16 → ((l ≡ k) × (c ≡ d) → ⊥) → filter (is_pair_line l c) (map (relay_line k) relayed ++ response_lines k d response) ≡ []
  other_left_out k d relayed response kf df apart =
      filter-append (is_pair_line l c) (map (relay_line k) relayed) (response_lines k d response)
      ∙ rw (relays_left_out l c k relayed lf cf kf, reply_left_out l c k d (λ rest. other_pair l c k d rest lf cf kf df apart) response) refl

  -- where there is no reply
  neither : (b : Bool) → [] ≡ flat_map (response_lines l c) (if b then [] else [])
  neither true = refl
  neither false = refl

  report_told : (k : ℕ) (report : Report) → k < 2 ^ 16 → HasFitCid report → filter (is_pair_line l c) (report_lines k report) ≡ flat_map (response_lines l c) (if k == l then reply_of c report else [])
  report_told k (OnlyFront relayed) kf df = relays_left_out l c k relayed lf cf kf ∙ neither (k == l)
  report_told k (Refused refusal) kf df = refusal_left_out l c k refusal lf cf kf ∙ neither (k == l)
  report_told k (Arrived d response relayed) kf df = ⊎_elim
      (λ e. let here : (k == l) ≡ true = eq-eqb k l e in ⊎_elim
      (λ f. let own : (d == c) ≡ true = eq-eqb d c f in rw (here, own, e, f) (own_kept relayed response))
      (λ apart. let other : (d == c) ≡ false = ne_eqb d c apart in rw (here, other) (other_left_out k d relayed response kf df (λ g. apart (sym g.1))))
      (cases_eq d c))
      (λ apart. let away : (k == l) ≡ false = ne_eqb k l apart in rw away (other_left_out k d relayed response kf df (λ g. apart (sym g.0))))
      (cases_eq k l)

  pub event_told : (old new : Concentrator) (e : Event) (report : Option Report) → IsEvent e → RunsEvent old e report new → filter (is_pair_line l c) (event_lines e report) ≡ flat_map (response_lines l c) (own_reply l c e report)
  event_told old new (Arrive k m octets) None fits turn = absurd turn
  event_told old new (Arrive k m octets) (Some report) fits turn = report_told k report fits.0 (report_fits old k m octets (record_at new k) report fits.3 (arrived old new k m octets report turn))
  event_told old new (Reset k) None fits turn = refl
  event_told old new (Reset k) (Some report) fits turn = rw turn.1 (refusal_left_out l c k refusals.NoLink lf cf fits)

-- a line that is no event is left out
pub bad_left_out : (l c : ℕ) → l < 2 ^ 16 → filter (is_pair_line l c) (bad_line ∷ []) ≡ []
bad_left_out l c lf = filter-left_out (is_pair_line l c) bad_line [] (no_link l c _ lf)

pub long_left_out : (l c : ℕ) → l < 2 ^ 16 → filter (is_pair_line l c) (long_line ∷ []) ≡ []
long_left_out l c lf = filter-left_out (is_pair_line l c) long_line [] (no_link l c _ lf)
