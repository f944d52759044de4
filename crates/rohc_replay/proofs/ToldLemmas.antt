-- The run of a script as a run of events, and what it tells a pair.
use Rattle.std.proofs.Common.{◌≡◌, ℕ, ◌<◌, ◌^◌, List, [], ◌∷◌, ◌++◌, map, filter, Bool, Option, sym, refl, ◌∙◌, ap, subst}
use Rattle.std.specs.List.{flat_map}
use Rattle.std.proofs.lemmas.Grind.{flat_map-append}
use Rattle.rohc_concentrator.specs.declared.concentrator.Concentrator.{Concentrator}
use Rattle.rohc_concentrator.specs.declared.setting.LinkSetting.{LinkSetting}
use Rattle.rohc_concentrator.specs.Report.{Report}
use Rattle.rohc_concentrator.specs.Events.{Event, RunsEvents}
use Rattle.rohc_concentrator.specs.Isolation.{is_marked, own_event, own_events, own_reply, own_replies}
use Rattle.rohc_replay.specs.AnswerLines.{response_lines}
use Rattle.rohc_replay.specs.Isolation.{is_pair_line, own_marked}
use Rattle.rohc_replay.specs.Run.{Runs, marked_of}
use Rattle.rohc_replay.specs.Script.{IsEvent, Line, Good, Bad, Long, AreLines}
use Rattle.rohc_replay.proofs.OwnLines.{filter-append}
use Rattle.rohc_replay.proofs.EventLemmas.{event_told, bad_left_out, long_left_out}

-- the lines of a run, but for their marks
pub marked_lines : (old : Concentrator) (lines : List Line) (answers : List (List (List ℕ))) (new : Concentrator) (run : Runs old lines answers new) → map (λ (m : Line × Bool). m.0) (marked_of old lines answers new run) ≡ lines
marked_lines old [] [] new run = refl
marked_lines old [] (a ∷ more) new run = absurd run
marked_lines old (line ∷ lines) [] new run = absurd run
marked_lines old (Good e ∷ lines) (a ∷ more) new run = ap (λ ls. Good e ∷ ls) (marked_lines run.0 lines more new run.2)
marked_lines old (Bad ∷ lines) (a ∷ more) new run = ap (λ ls. Bad ∷ ls) (marked_lines run.0 lines more new run.2)
marked_lines old (Long ∷ lines) (a ∷ more) new run = ap (λ ls. Long ∷ ls) (marked_lines run.0 lines more new run.2)

-- the events of good lines fit their fields
abbrev pub AreFit : List Line → Type 0
AreFit [] = Unit {0}
AreFit (Good e ∷ lines) = IsEvent e × AreFit lines
AreFit (Bad ∷ lines) = AreFit lines
AreFit (Long ∷ lines) = AreFit lines

pub lines_fit : (texts : List (List ℕ)) (lines : List Line) → AreLines texts lines → AreFit lines
lines_fit [] [] are = tt
lines_fit [] (line ∷ lines) are = absurd are
lines_fit (text ∷ texts) [] are = absurd are
lines_fit (text ∷ texts) (Good e ∷ lines) are = (are.0.0, lines_fit texts lines are.1)
lines_fit (text ∷ texts) (Bad ∷ lines) are = lines_fit texts lines are.1
lines_fit (text ∷ texts) (Long ∷ lines) are = lines_fit texts lines are.1

-- the events of a run, each with what it was answered
abbrev pub turns_of : (old : Concentrator) (lines : List Line) (answers : List (List (List ℕ))) (new : Concentrator) → Runs old lines answers new → List (Event × Option Report)
turns_of old [] answers new run = []
turns_of old (line ∷ lines) [] new run = []
turns_of old (Good e ∷ lines) (a ∷ more) new run = (e, run.1.0) ∷ turns_of run.0 lines more new run.2
turns_of old (Bad ∷ lines) (a ∷ more) new run = turns_of run.0 lines more new run.2
turns_of old (Long ∷ lines) (a ∷ more) new run = turns_of run.0 lines more new run.2

pub turns_run : (old : Concentrator) (lines : List Line) (answers : List (List (List ℕ))) (new : Concentrator) (run : Runs old lines answers new) → RunsEvents old (turns_of old lines answers new run) new
turns_run old [] [] new run = run
turns_run old [] (a ∷ more) new run = absurd run
turns_run old (line ∷ lines) [] new run = absurd run
turns_run old (Good e ∷ lines) (a ∷ more) new run = (run.0, run.1.1, turns_run run.0 lines more new run.2)
turns_run old (Bad ∷ lines) (a ∷ more) new run = subst (λ k. RunsEvents k (turns_of run.0 lines more new run.2) new) run.1.0 (turns_run run.0 lines more new run.2)
turns_run old (Long ∷ lines) (a ∷ more) new run = subst (λ k. RunsEvents k (turns_of run.0 lines more new run.2) new) run.1.0 (turns_run run.0 lines more new run.2)

-- of its marked lines a pair's own events are those of the run of events
pub own_turns : (s : LinkSetting) (l c : ℕ) (old : Concentrator) (lines : List Line) (answers : List (List (List ℕ))) (new : Concentrator) (run : Runs old lines answers new) → own_events s l c (turns_of old lines answers new run) ≡ own_marked s l c (marked_of old lines answers new run)
own_turns s l c old [] [] new run = refl
own_turns s l c old [] (a ∷ more) new run = absurd run
own_turns s l c old (line ∷ lines) [] new run = absurd run
own_turns s l c old (Good e ∷ lines) (a ∷ more) new run = ap (λ es. map (λ own. (own, is_marked run.1.0)) (own_event s l c e) ++ es) (own_turns s l c run.0 lines more new run.2)
own_turns s l c old (Bad ∷ lines) (a ∷ more) new run = own_turns s l c run.0 lines more new run.2
own_turns s l c old (Long ∷ lines) (a ∷ more) new run = own_turns s l c run.0 lines more new run.2

-- a pair's lines are the lines of its own replies
pub run_told : (l c : ℕ) → l < 2 ^ 16 → c < 2 ^ 16 → (old : Concentrator) (lines : List Line) (answers : List (List (List ℕ))) (new : Concentrator) (run : Runs old lines answers new) → AreFit lines →
    filter (is_pair_line l c) (flat_map (λ a. a) answers) ≡ flat_map (response_lines l c) (own_replies l c (turns_of old lines answers new run))
run_told l c lf cf old [] [] new run fit = refl
run_told l c lf cf old [] (a ∷ more) new run fit = absurd run
run_told l c lf cf old (line ∷ lines) [] new run fit = absurd run
run_told l c lf cf old (Good e ∷ lines) (a ∷ more) new run fit =
    let first : filter (is_pair_line l c) a ≡ flat_map (response_lines l c) (own_reply l c e run.1.0) = ap (filter (is_pair_line l c)) run.1.2 ∙ event_told l c lf cf old run.0 e run.1.0 fit.0 run.1.1 in
    filter-append (is_pair_line l c) a (flat_map (λ b. b) more)
    ∙ rw (first, run_told l c lf cf run.0 lines more new run.2 fit.1) (sym (flat_map-append (response_lines l c) (own_reply l c e run.1.0) (own_replies l c (turns_of run.0 lines more new run.2))))
run_told l c lf cf old (Bad ∷ lines) (a ∷ more) new run fit =
    filter-append (is_pair_line l c) a (flat_map (λ b. b) more)
    ∙ rw (ap (filter (is_pair_line l c)) run.1.1 ∙ bad_left_out l c lf) (run_told l c lf cf run.0 lines more new run.2 fit)
run_told l c lf cf old (Long ∷ lines) (a ∷ more) new run fit =
    filter-append (is_pair_line l c) a (flat_map (λ b. b) more)
    ∙ rw (ap (filter (is_pair_line l c)) run.1.1 ∙ long_left_out l c lf) (run_told l c lf cf run.0 lines more new run.2 fit)
