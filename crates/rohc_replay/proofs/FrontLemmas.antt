-- What a failed replay has written begins what a whole one writes.
use Rattle.std.proofs.Common.{◌≡◌, ℕ, List, [], ◌∷◌, ◌++◌, false, Option, Some, None, append_assoc, append-nil, refl, sym, ◌∙◌, ap, subst}
use Rattle.std.specs.List.{flat_map, AllByRecursion}
use Rattle.std.specs.Io.KnownBytes.{Consumes}
use Rattle.std.proofs.lemmas.Grind.{flat_map-append}
use Rattle.rohc_concentrator.specs.declared.concentrator.Concentrator.{Concentrator}
use Rattle.rohc_concentrator.specs.Laws.{AreAlike}
use Rattle.rohc_replay.specs.AnswerLines.{text_of}
use Rattle.rohc_replay.specs.Laws.{IsFront, ReadLeavesFront, WriteLeavesFront, FlushLeavesAll}
use Rattle.rohc_replay.specs.Lines.{has_newline}
use Rattle.rohc_replay.specs.Run.{Runs, marked_of}
use Rattle.rohc_replay.specs.Script.{Line, AreLines, IsScript, lines_of}
use Rattle.rohc_replay.proofs.RunLemmas.{begins_alike}
use Rattle.rohc_replay.proofs.ScriptLemmas.{lines_one}
use Rattle.rohc_replay.proofs.SplitLemmas.{lines_of-line}

alike : (k : Concentrator) → AreAlike k k
alike k = record { settings = λ l. refl; records = λ l c. refl }

-- lines that are a front of a script's
lines_front : (front back : List (List ℕ)) (lines whole : List Line) → AreLines front lines → AreLines (front ++ back) whole → (more : List Line) × (whole ≡ lines ++ more)
lines_front [] back [] whole p q = (whole, refl)
lines_front [] back (x ∷ lines) whole p q = absurd p
lines_front (t ∷ front) back [] whole p q = absurd p
lines_front (t ∷ front) back (x ∷ lines) [] p q = absurd q
lines_front (t ∷ front) back (x ∷ lines) (y ∷ whole) p q =
    let rest = lines_front front back lines whole p.1 q.1 in
    let first = lines_one (t ∷ []) (x ∷ []) (y ∷ []) (p.0, tt) (q.0, tt) in
    (rest.0, (let e : ◌≡◌ {A = Line} x y = (let f : ◌≡◌ {A = List Line} (x ∷ []) (y ∷ []) = first in cc) in ap (λ z. z ∷ whole) (sym e)) ∙ ap (λ zs. x ∷ zs) rest.1)

-- a run of a front of a script answers a front of what the whole run answers
front_answers : (old new after : Concentrator) (text : List ℕ) (front back : List (List ℕ)) (lines : List Line) (answers : List (List (List ℕ))) (run : Runs old lines answers new) (whole : List Line) (all : List (List (List ℕ))) (run_all : Runs old whole all after) →
    lines_of text ≡ front ++ back → AreLines front lines → IsScript text whole → IsFront (marked_of old lines answers new run) (marked_of old whole all after run_all) → IsFront answers all
front_answers old new after text front back lines answers run whole all run_all cut are script marks =
    let rest = lines_front front back lines whole are (subst (λ ts. AreLines ts whole) cut script) in
    subst (λ ls. (r : Runs old ls all after) → IsScript text ls → IsFront (marked_of old lines answers new run) (marked_of old ls all after r) → IsFront answers all) (sym rest.1)
    (λ r s m. begins_alike old old new after text lines rest.0 answers all run r (alike old) s m) run_all script marks

-- a text of a front of the answers
front_text : (answers all : List (List (List ℕ))) → IsFront answers all → IsFront (flat_map text_of answers) (flat_map text_of all)
front_text answers all f = (flat_map text_of f.0, ap (flat_map text_of) f.1 ∙ flat_map-append text_of answers f.0)

-- the finished lines of a front of a text are its first lines
finished_first : (finished : List (List ℕ)) (back : List ℕ) → AllByRecursion (λ (line : List ℕ). has_newline line ≡ false) finished → lines_of (text_of finished ++ back) ≡ finished ++ lines_of back
finished_first [] back each = refl
finished_first (line ∷ lines) back each =
    ap lines_of (append_assoc (line ++ 10 ∷ []) (text_of lines) back)
    ∙ lines_of-line line (text_of lines ++ back) each.0
    ∙ ap (λ ls. line ∷ ls) (finished_first lines back each.1)

-- what was read of a text
consumed_front : (text seen : List ℕ) (left : Option (List ℕ)) → Consumes (Some text) left seen → (back : List ℕ) × (text ≡ seen ++ back)
consumed_front text seen (Some back) consumed = (back, consumed)
consumed_front text seen None consumed = absurd consumed

pub read_leaves_front : ReadLeavesFront
read_leaves_front c after text left written f lines answers whole script marks =
    let back = consumed_front text f.seen left f.consumed in
    let cut : lines_of text ≡ f.finished ++ lines_of (f.rest ++ back.0) =
    ap lines_of (back.1 ∙ ap (λ t. t ++ back.0) f.splits.whole ∙ append_assoc (text_of f.finished) f.rest back.0) ∙ finished_first f.finished (f.rest ++ back.0) f.splits.each in
    front_text f.answers answers (front_answers c.before c.after after text f.finished (lines_of (f.rest ++ back.0)) f.lines f.answers f.run lines answers whole cut f.are_lines script marks)

pub write_leaves_front : WriteLeavesFront
write_leaves_front c after text written f lines answers whole script marks =
    let s = f.stops in
    let all = front_text (s.answers ++ s.last_answers ∷ []) answers
    (front_answers c.before c.after after text f.texts f.others (s.earlier ++ s.last ∷ []) (s.answers ++ s.last_answers ∷ []) s.run lines answers whole f.first_lines s.are_lines script marks) in (
      s.rest ++ all.0,
      all.1
          ∙ ap (λ t. t ++ all.0) (flat_map-append text_of s.answers (s.last_answers ∷ []) ∙ ap (λ t. flat_map text_of s.answers ++ t) (append-nil (text_of s.last_answers) ∙ s.parts))
          ∙ simp append_assoc,
    )

-- a run has answers for each line
answers_alone : (old new after : Concentrator) (lines : List Line) (answers more : List (List (List ℕ))) → Runs old lines answers new → Runs old lines (answers ++ more) after → more ≡ []
answers_alone old new after lines answers more p q = go old old lines answers p q
  where
    go : (a b : Concentrator) (ls : List Line) (xs : List (List (List ℕ))) → Runs a ls xs new → Runs b ls (xs ++ more) after → more ≡ []
    go a b [] [] p q = none_more more q
      where
        none_more : (ys : List (List (List ℕ))) → Runs b [] ys after → ys ≡ []
        none_more [] q = refl
        none_more (y ∷ ys) q = absurd q
    go a b [] (x ∷ xs) p q = absurd p
    go a b (l ∷ ls) [] p q = absurd p
    go a b (l ∷ ls) (x ∷ xs) p q = go p.0 q.0 ls xs p.2 q.2

pub flush_leaves_all : FlushLeavesAll
flush_leaves_all c after text written f lines answers whole script marks =
    let front = front_answers c.before c.after after text (lines_of text) [] f.lines f.answers f.run lines answers whole (sym (append-nil (lines_of text))) f.script script marks in
    let same : lines ≡ f.lines = lines_one (lines_of text) lines f.lines script f.script in
    let none : front.0 ≡ [] = answers_alone c.before c.after after f.lines f.answers front.0 f.run (subst (λ xs. Runs c.before f.lines xs after) front.1 (subst (λ ls. Runs c.before ls answers after) same whole)) in
    ap (flat_map text_of) (sym (append-nil f.answers) ∙ ap (λ t. f.answers ++ t) (sym none) ∙ sym front.1)
