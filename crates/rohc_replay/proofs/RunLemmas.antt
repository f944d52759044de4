-- Runs of one script begin alike.
use Rattle.std.proofs.Common.{◌≡◌, ℕ, List, [], ◌∷◌, ◌++◌, Bool, false, Option, Some, None, refl, sym, ◌∙◌, ap, subst}
use Rattle.rohc_concentrator.specs.declared.concentrator.Concentrator.{Concentrator}
use Rattle.rohc_concentrator.specs.Laws.{AreAlike}
use Rattle.rohc_concentrator.proofs.WorldLemmas.{arrive_alike, reset_alike}
use Rattle.rohc_replay.specs.AnswerLines.{event_lines}
use Rattle.rohc_replay.specs.Laws.{IsFront, BeginsAlike}
use Rattle.rohc_replay.specs.Run.{Runs, marked_of}
use Rattle.rohc_concentrator.specs.Events.{Event, Arrive, Reset, RunsEvent}
use Rattle.rohc_concentrator.specs.Report.{Report}
use Rattle.rohc_concentrator.specs.Isolation.{is_marked}
use Rattle.rohc_replay.specs.Script.{IsEvent, Line, Good, Bad, Long, lines_of}
use Rattle.rohc_replay.proofs.ToldLemmas.{AreFit, lines_fit}

-- a list begins with another where their first items are the same and their others begin alike
front_first : {X : Type 0} (x y : X) (xs ys : List X) → IsFront (x ∷ xs) (y ∷ ys) → (y ≡ x) × IsFront xs ys
front_first x y xs ys f = let e = f.1 in (cc, (f.0, cc))

front_more : {X : Type 0} (x y : X) (xs ys : List X) → x ≡ y → IsFront xs ys → IsFront (x ∷ xs) (y ∷ ys)
front_more x y xs ys e f = (f.0, ap (λ z. z ∷ ys) (sym e) ∙ ap (λ zs. x ∷ zs) f.1)

-- one good line
event_alike : (a b mid_a mid_b : Concentrator) (e : Event) (x y : Option Report) → RunsEvent a e x mid_a → RunsEvent b e y mid_b → AreAlike a b → IsEvent e → is_marked y ≡ is_marked x → (x ≡ y) × AreAlike mid_a mid_b
event_alike a b mid_a mid_b (Arrive l m octets) None y p q alike fits marks = absurd p
event_alike a b mid_a mid_b (Arrive l m octets) (Some x) None p q alike fits marks = absurd q
event_alike a b mid_a mid_b (Arrive l m octets) (Some x) (Some y) p q alike fits marks =
    let one = arrive_alike a b mid_a mid_b l m octets x y alike fits.1 fits.3 p q (sym marks) in
    (ap (λ r. Some r) one.0, one.1)
event_alike a b mid_a mid_b (Reset l) x y p q alike fits marks = reset_alike a b mid_a mid_b l x y alike p q

same_mark : (line : Line) (m n : Bool) → ◌≡◌ {A = Line × Bool} (line, m) (line, n) → m ≡ n
same_mark line m n e = ap (λ (p : Line × Bool). p.1) e

pub run_alike : (a b after_a after_b : Concentrator) (lines more : List Line) (answers others : List (List (List ℕ))) (run : Runs a lines answers after_a) (whole : Runs b (lines ++ more) others after_b) → AreAlike a b → AreFit lines →
    IsFront (marked_of a lines answers after_a run) (marked_of b (lines ++ more) others after_b whole) → IsFront answers others
run_alike a b after_a after_b [] more [] others run whole alike fit marks = (others, refl)
run_alike a b after_a after_b [] more (x ∷ answers) others run whole alike fit marks = absurd run
run_alike a b after_a after_b (line ∷ lines) more [] others run whole alike fit marks = absurd run
run_alike a b after_a after_b (line ∷ lines) more (x ∷ answers) [] run whole alike fit marks = absurd whole
run_alike a b after_a after_b (Good e ∷ lines) more (x ∷ answers) (y ∷ others) run whole alike fit marks =
    let firsts = front_first (Good e, is_marked run.1.0) (Good e, is_marked whole.1.0) (marked_of run.0 lines answers after_a run.2) (marked_of whole.0 (lines ++ more) others after_b whole.2) marks in
    let one = event_alike a b run.0 whole.0 e run.1.0 whole.1.0 run.1.1 whole.1.1 alike fit.0 (same_mark (Good e) _ _ firsts.0) in
    front_more x y answers others (run.1.2 ∙ ap (event_lines e) one.0 ∙ sym whole.1.2) (run_alike run.0 whole.0 after_a after_b lines more answers others run.2 whole.2 one.1 fit.1 firsts.1)
run_alike a b after_a after_b (Bad ∷ lines) more (x ∷ answers) (y ∷ others) run whole alike fit marks =
    let firsts = front_first (Bad, false) (Bad, false) (marked_of run.0 lines answers after_a run.2) (marked_of whole.0 (lines ++ more) others after_b whole.2) marks in
    let still : AreAlike run.0 whole.0 = subst (λ k. AreAlike k whole.0) (sym run.1.0) (subst (λ k. AreAlike a k) (sym whole.1.0) alike) in
    front_more x y answers others (run.1.1 ∙ sym whole.1.1) (run_alike run.0 whole.0 after_a after_b lines more answers others run.2 whole.2 still fit firsts.1)
run_alike a b after_a after_b (Long ∷ lines) more (x ∷ answers) (y ∷ others) run whole alike fit marks =
    let firsts = front_first (Long, false) (Long, false) (marked_of run.0 lines answers after_a run.2) (marked_of whole.0 (lines ++ more) others after_b whole.2) marks in
    let still : AreAlike run.0 whole.0 = subst (λ k. AreAlike k whole.0) (sym run.1.0) (subst (λ k. AreAlike a k) (sym whole.1.0) alike) in
    front_more x y answers others (run.1.1 ∙ sym whole.1.1) (run_alike run.0 whole.0 after_a after_b lines more answers others run.2 whole.2 still fit firsts.1)

fit_front : (lines more : List Line) → AreFit (lines ++ more) → AreFit lines
fit_front [] more fit = tt
fit_front (Good e ∷ lines) more fit = (fit.0, fit_front lines more fit.1)
fit_front (Bad ∷ lines) more fit = fit_front lines more fit
fit_front (Long ∷ lines) more fit = fit_front lines more fit

pub begins_alike : BeginsAlike
begins_alike a b after_a after_b text lines more answers others run whole alike script marks =
    run_alike a b after_a after_b lines more answers others run whole alike (fit_front lines more (lines_fit (lines_of text) (lines ++ more) script)) marks
