-- Each answer of a run is lines without a newline within.
use Rattle.std.proofs.Common.{◌≡◌, ℕ, ◌<◌, ◌^◌, List, [], ◌∷◌, ◌++◌, map, Option, Some, None, append-nil, refl, sym, ◌∙◌, ap, subst}
use Rattle.std.specs.List.{flat_map}
use Rattle.std.proofs.lemmas.Grind.{flat_map-append}
use Rattle.rohc_context.specs.declared.refusal.Refusal.TheVariants as refusals
use Rattle.rohc_concentrator.proofs.ArrivedLemmas.{arrived}
use Rattle.rohc_concentrator.proofs.GoodLemmas.{HasFitCid, report_fits}
use Rattle.rohc_concentrator.specs.declared.concentrator.Concentrator.{Concentrator}
use Rattle.rohc_concentrator.specs.declared.setting.LinkSetting.{LinkSetting}
use Rattle.rohc_concentrator.specs.Tables.{setting_at, record_at}
use Rattle.rohc_concentrator.specs.Report.{Report, Arrived, OnlyFront, Refused}
use Rattle.rohc_concentrator.specs.Events.{Event, Arrive, Reset, RunsEvent}
use Rattle.rohc_replay.specs.AnswerLines.{report_lines, event_lines, response_lines, relay_line, text_of}
use Rattle.rohc_replay.specs.Run.{Runs}
use Rattle.rohc_replay.specs.Script.{IsEvent, Line, Good, Bad, Long, lines_of}
use Rattle.rohc_replay.proofs.NewlineLemmas.{AreWhole, whole_append, relays_whole, refusal_whole, reply_whole}
use Rattle.rohc_replay.proofs.SplitLemmas.{lines_of-splits}
use Rattle.rohc_replay.proofs.ToldLemmas.{AreFit}

report_whole : (l : ℕ) (report : Report) → l < 2 ^ 16 → HasFitCid report → AreWhole (report_lines l report)
report_whole l (Arrived c response relayed) lf cf = whole_append (map (relay_line l) relayed) (response_lines l c response) (relays_whole l relayed lf) (reply_whole l c lf cf response)
report_whole l (OnlyFront relayed) lf cf = relays_whole l relayed lf
report_whole l (Refused refusal) lf cf = (refusal_whole l refusal lf, tt)

event_whole : (old new : Concentrator) (e : Event) (report : Option Report) → RunsEvent old e report new → IsEvent e → AreWhole (event_lines e report)
event_whole old new (Arrive k m octets) None turn fits = absurd turn
event_whole old new (Arrive k m octets) (Some report) turn fits = report_whole k report fits.0 (report_fits old k m octets (record_at new k) report fits.3 (arrived old new k m octets report turn))
event_whole old new (Reset k) None turn fits = tt
event_whole old new (Reset k) (Some report) turn fits = rw turn.1 (refusal_whole k refusals.NoLink fits, tt)

run_whole : (old : Concentrator) (lines : List Line) (answers : List (List (List ℕ))) (new : Concentrator) → Runs old lines answers new → AreFit lines → AreWhole (flat_map (λ a. a) answers)
run_whole old [] [] new run fit = tt
run_whole old [] (a ∷ more) new run fit = absurd run
run_whole old (line ∷ lines) [] new run fit = absurd run
run_whole old (Good e ∷ lines) (a ∷ more) new run fit = whole_append a (flat_map (λ b. b) more) (subst AreWhole (sym run.1.2) (event_whole old run.0 e run.1.0 run.1.1 fit.0)) (run_whole run.0 lines more new run.2 fit.1)
run_whole old (Bad ∷ lines) (a ∷ more) new run fit = whole_append a (flat_map (λ b. b) more) (subst AreWhole (sym run.1.1) (refl, tt)) (run_whole run.0 lines more new run.2 fit)
run_whole old (Long ∷ lines) (a ∷ more) new run fit = whole_append a (flat_map (λ b. b) more) (subst AreWhole (sym run.1.1) (refl, tt)) (run_whole run.0 lines more new run.2 fit)

text_of-all : (answers : List (List (List ℕ))) → text_of (flat_map (λ a. a) answers) ≡ flat_map text_of answers
text_of-all [] = refl
text_of-all (a ∷ more) = flat_map-append (λ (line : List ℕ). line ++ 10 ∷ []) a (flat_map (λ b. b) more) ∙ ap (λ t. text_of a ++ t) (text_of-all more)

-- the lines of what a run writes are its answer lines
pub written_lines : (old : Concentrator) (lines : List Line) (answers : List (List (List ℕ))) (new : Concentrator) → Runs old lines answers new → AreFit lines → lines_of (flat_map text_of answers) ≡ flat_map (λ a. a) answers
written_lines old lines answers new run fit =
    lines_of-splits (flat_map text_of answers) (flat_map (λ a. a) answers) [] (record {
      whole = sym (text_of-all answers) ∙ sym (append-nil (text_of (flat_map (λ a. a) answers)));
      each = run_whole old lines answers new run fit;
      unfinished = refl;
    })
    ∙ append-nil (flat_map (λ a. a) answers)
