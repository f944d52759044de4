-- Where a trace stands after one octet more, and at its end.
use Rattle.std.proofs.Common.{◌≡◌, ℕ, ◌+◌, ◌<◌, ◌≤◌, List, [], ◌∷◌, ◌++◌, length, length-append, length-take, drop, false, ◌==◌, Option, arith, refl, sym, ◌∙◌, ap, subst, append-nil, append_assoc, ne_eqb, inl, inr}
use Rattle.std.specs.List.{flat_map}
use Rattle.std.specs.Io.KnownBytes.{Appends}
use Rattle.std.proofs.KnownBytes.{Appends-nil, Appends-trans}
use Rattle.std.proofs.lemmas.List.{take_all, take-append-le, take-append-drop, nil_from_length}
use Rattle.std.proofs.lemmas.Bool.{cases_lt}
use Rattle.rohc_concentrator.specs.declared.concentrator.Concentrator.{Concentrator}
use Rattle.rohc_links.specs.Limits.{counted}
use Rattle.rohc_replay.specs.Script.{Line, Good, Bad, Long, IsLine, AreLines, longest_line, lines_of}
use Rattle.rohc_replay.specs.AnswerLines.{text_of}
use Rattle.rohc_replay.specs.Lines.{has_newline}
use Rattle.rohc_replay.specs.Run.{Runs, RunsLine, ReplayChange, change}
use Rattle.rohc_replay.proofs.SplitLemmas.{Splits-more, Splits-newline, AreLines-push, lines_of-splits, lines_of-line, last_line, both_false, neither, has_newline-append}
use Rattle.rohc_replay.proofs.StreamLemmas.{Runs-push}
use Rattle.rohc_trace.specs.Head.{numbered_head}
use Rattle.rohc_trace.specs.Lines.{RunsText}
use Rattle.rohc_trace.specs.declared.tracer.Tracer.{Tracer}
use Rattle.rohc_trace.specs.Trace.{front_of, traced, Traces, StandsInTrace}

-- ---- the front of a line

-- a line is of the kind of its front
long_front : (rest : List ℕ) (line : Line) → longest_line + 1 < length rest → IsLine (front_of rest) line → IsLine rest line
long_front rest (Good e) many is = absurd (let size = length-take (longest_line + 1) rest in omega (arith, size, many, is.2))
long_front rest Bad many is = absurd (let size = length-take (longest_line + 1) rest in omega (arith, size, many, is.0))
long_front rest Long many is = omega (arith, many)

pub line_of_front : (rest : List ℕ) (line : Line) → IsLine (front_of rest) line → IsLine rest line
line_of_front rest line is = elim (cases_lt (longest_line + 1) (length rest)) [
  | inl many ↦ long_front rest line many is
  | inr few ↦ subst (λ (t : List ℕ). IsLine t line) (take_all (longest_line + 1) rest few) is
]

-- the front has no newline if the line has none
front_none : (rest : List ℕ) → has_newline rest ≡ false → has_newline (front_of rest) ≡ false
front_none rest none =
    (neither (has_newline (front_of rest)) (has_newline (drop (longest_line + 1) rest))
    (sym (has_newline-append (front_of rest) (drop (longest_line + 1) rest)) ∙ ap has_newline (take-append-drop (longest_line + 1) rest) ∙ none)).0

-- one octet more, behind a front that has room, and behind one that has none
front_more : (rest : List ℕ) (octet : ℕ) → length (front_of rest) ≤ longest_line → front_of (rest ++ octet ∷ []) ≡ front_of rest ++ octet ∷ []
front_more rest octet room =
    let size = length-take (longest_line + 1) rest in
    let few : length rest ≤ longest_line = omega (arith, size, room) in
    let long = length-append rest (octet ∷ []) in
    take_all (longest_line + 1) (rest ++ octet ∷ []) (omega (arith, long, few))
    ∙ ap (λ t. t ++ octet ∷ []) (sym (take_all (longest_line + 1) rest (omega (arith, few))))

front_same : (rest : List ℕ) (octet : ℕ) → longest_line < length (front_of rest) → front_of (rest ++ octet ∷ []) ≡ front_of rest
front_same rest octet full =
    let size = length-take (longest_line + 1) rest in
    take-append-le (longest_line + 1) rest (octet ∷ []) (omega (arith, size, full))

-- ---- the trace of one line more

same_length : (finished : List (List ℕ)) (lines : List Line) (answers : List (List (List ℕ))) (old new : Concentrator) →
    AreLines finished lines → Runs old lines answers new → length finished ≡ length answers
same_length [] [] [] old new are run = refl
same_length (f ∷ fs) (l ∷ ls) (a ∷ rest_of) old new are run = let rest = same_length fs ls rest_of run.0 new are.1 run.2 in omega (arith, rest)
same_length [] [] (a ∷ rest_of) old new are run = absurd run
same_length (f ∷ fs) (l ∷ ls) [] old new are run = absurd run
same_length [] (l ∷ ls) answers old new are run = absurd are
same_length (f ∷ fs) [] answers old new are run = absurd are

traced-push : (n : ℕ) (finished : List (List ℕ)) (answers : List (List (List ℕ))) (octets : List ℕ) (more : List (List ℕ)) →
    length finished ≡ length answers →
    traced n (finished ++ octets ∷ []) (answers ++ more ∷ []) ≡ traced n finished answers ++ (numbered_head (counted 0 (n + length finished + 1)) (front_of octets) ++ text_of more)
traced-push n [] [] octets more same =
    let number : n + 1 ≡ n + 0 + 1 = omega arith in
    append-nil (numbered_head (counted 0 (n + 1)) (front_of octets) ++ text_of more) ∙ ap (λ m. numbered_head (counted 0 m) (front_of octets) ++ text_of more) number
traced-push n (f ∷ fs) (a ∷ more_answers) octets more same =
    let number : n + 1 + length fs + 1 ≡ n + length (f ∷ fs) + 1 = omega arith in
    let front = numbered_head (counted 0 (n + 1)) (front_of f) ++ text_of a in
    ap (λ t. front ++ t) (traced-push (n + 1) fs more_answers octets more (omega (arith, same))
    ∙ ap (λ m. traced (n + 1) fs more_answers ++ (numbered_head (counted 0 m) (front_of octets) ++ text_of more)) number)
    ∙ sym (append_assoc front (traced (n + 1) fs more_answers) (numbered_head (counted 0 (n + length (f ∷ fs) + 1)) (front_of octets) ++ text_of more))
traced-push n [] (a ∷ more_answers) octets more same = absurd (omega (arith, same))
traced-push n (f ∷ fs) [] octets more same = absurd (omega (arith, same))

-- ---- the run of one line

-- a line that was run
pub record RunsOne (c : ReplayChange) (octets : List ℕ) : Type 0 where
  pub line : Line
  pub answers : List (List ℕ)
  pub is_line : IsLine octets line
  pub turns : RunsLine c.before line answers c.after
  pub written : Appends c.held c.holding (text_of answers)

one_of : (c : ReplayChange) (octets : List ℕ) (lines : List Line) (answers : List (List (List ℕ))) → AreLines (octets ∷ []) lines →
    Runs c.before lines answers c.after → Appends c.held c.holding (flat_map text_of answers) → RunsOne c octets
one_of c octets (l ∷ []) (a ∷ []) are run written = record {
  line = l;
  answers = a;
  is_line = are.0;
  turns = subst (λ (k : Concentrator). RunsLine c.before l a k) (sym run.2) run.1;
  written = subst (λ (t : List ℕ). Appends c.held c.holding t) (append-nil (text_of a)) written;
}
one_of c octets [] answers are run written = absurd are
one_of c octets (l ∷ m ∷ ms) answers are run written = absurd are.1
one_of c octets (l ∷ []) [] are run written = absurd run
one_of c octets (l ∷ []) (a ∷ b ∷ bs) are run written = absurd run.2

pub one_line : (c : ReplayChange) (octets : List ℕ) → has_newline octets ≡ false → RunsText c (octets ++ 10 ∷ []) → RunsOne c octets
one_line c octets none r =
    let lone : lines_of (octets ++ 10 ∷ []) ≡ octets ∷ [] = ap lines_of (sym (append-nil (octets ++ 10 ∷ []))) ∙ lines_of-line octets [] none in
    one_of c octets r.lines r.answers (subst (λ ls. AreLines ls r.lines) lone r.script) r.run r.written

-- ---- where the trace stands

-- another octet is kept, or not any more
pub stands_kept : (c : ReplayChange) (seen : List ℕ) (octet : ℕ) (t u : Tracer) → (octet ≡ 10 → ⊥) → length t.line.items ≤ longest_line →
    u.lines ≡ t.lines → u.line.items ≡ t.line.items ++ octet ∷ [] → StandsInTrace c seen t → StandsInTrace c (seen ++ octet ∷ []) u
stands_kept c seen octet t u other room number kept s = record {
  finished = s.finished;
  rest = s.rest ++ octet ∷ [];
  splits = Splits-more seen s.finished s.rest (octet ∷ []) s.splits (both_false (octet == 10) false (ne_eqb octet 10 other) refl);
  is_front = kept ∙ ap (λ t. t ++ octet ∷ []) s.is_front ∙ sym (front_more s.rest octet (subst (λ (k : List ℕ). length k ≤ longest_line) s.is_front room));
  number = number ∙ s.number;
  lines = s.lines;
  are_lines = s.are_lines;
  answers = s.answers;
  run = s.run;
  written = s.written;
}

pub stands_full : (c : ReplayChange) (seen : List ℕ) (octet : ℕ) (t : Tracer) → (octet ≡ 10 → ⊥) → longest_line < length t.line.items →
    StandsInTrace c seen t → StandsInTrace c (seen ++ octet ∷ []) t
stands_full c seen octet t other full s = record {
  finished = s.finished;
  rest = s.rest ++ octet ∷ [];
  splits = Splits-more seen s.finished s.rest (octet ∷ []) s.splits (both_false (octet == 10) false (ne_eqb octet 10 other) refl);
  is_front = s.is_front ∙ sym (front_same s.rest octet (subst (λ (k : List ℕ). longest_line < length k) s.is_front full));
  number = s.number;
  lines = s.lines;
  are_lines = s.are_lines;
  answers = s.answers;
  run = s.run;
  written = s.written;
}

-- a line was shown and run
traced_one : (first now new : Concentrator) (held holding shown after : Option (List ℕ)) (seen : List ℕ) (t : Tracer) (number : ℕ)
    (s : StandsInTrace (change first held now holding) seen t) → number ≡ counted t.lines 1 → Appends holding shown (numbered_head number t.line.items) →
    (one : RunsOne (change now shown new after) t.line.items) →
    Appends held after (traced 0 (s.finished ++ s.rest ∷ []) (s.answers ++ one.answers ∷ []))
traced_one first now new held holding shown after seen t number s is head one =
    let count : number ≡ counted 0 (0 + length s.finished + 1) = let n = s.number in omega (arith, is, n) in
    let shows : numbered_head number t.line.items ≡ numbered_head (counted 0 (0 + length s.finished + 1)) (front_of s.rest) = rw (count, s.is_front) refl in
    let line = Appends-trans holding shown after (numbered_head number t.line.items) (text_of one.answers) head one.written in
    subst (λ (text : List ℕ). Appends held after text)
    (ap (λ x. traced 0 s.finished s.answers ++ (x ++ text_of one.answers)) shows
    ∙ sym (traced-push 0 s.finished s.answers s.rest one.answers (same_length s.finished s.lines s.answers first now s.are_lines s.run)))
    (Appends-trans held holding after (traced 0 s.finished s.answers) (numbered_head number t.line.items ++ text_of one.answers) s.written line)

rest_none : (first now : Concentrator) (held holding : Option (List ℕ)) (seen : List ℕ) (t : Tracer) → StandsInTrace (change first held now holding) seen t → has_newline t.line.items ≡ false
rest_none first now held holding seen t s = ap has_newline s.is_front ∙ front_none s.rest s.splits.unfinished

-- a newline ends the line
pub stands_newline : (first now new : Concentrator) (held holding shown after : Option (List ℕ)) (seen : List ℕ) (t u : Tracer) →
    u.lines ≡ counted t.lines 1 → Appends holding shown (numbered_head u.lines t.line.items) →
    RunsText (change now shown new after) (t.line.items ++ 10 ∷ []) → u.line.items ≡ [] →
    StandsInTrace (change first held now holding) seen t → StandsInTrace (change first held new after) (seen ++ 10 ∷ []) u
stands_newline first now new held holding shown after seen t u is head ran empty s =
    let one = one_line (change now shown new after) t.line.items (rest_none first now held holding seen t s) ran in
    record {
      finished = s.finished ++ s.rest ∷ [];
      rest = [];
      splits = Splits-newline seen s.finished s.rest s.splits;
      is_front = empty;
      number = let n = s.number in let long = length-append s.finished (s.rest ∷ []) in omega (arith, is, n, long);
      lines = s.lines ++ one.line ∷ [];
      are_lines = AreLines-push s.finished s.lines s.rest one.line s.are_lines (line_of_front s.rest one.line (subst (λ (k : List ℕ). IsLine k one.line) s.is_front one.is_line));
      answers = s.answers ++ one.answers ∷ [];
      run = Runs-push first now new s.lines s.answers one.line one.answers s.run one.turns;
      written = traced_one first now new held holding shown after seen t u.lines s is head one;
    }

last_some : (rest : List ℕ) → 0 < length rest → last_line rest ≡ rest ∷ []
last_some [] some = absurd (omega (arith, some))
last_some (o ∷ os) some = refl

-- the last line ends without a newline
pub stands_end : (first now new : Concentrator) (held holding shown after : Option (List ℕ)) (seen : List ℕ) (t : Tracer) (number : ℕ) →
    number ≡ counted t.lines 1 → Appends holding shown (numbered_head number t.line.items) →
    RunsText (change now shown new after) (t.line.items ++ 10 ∷ []) → 0 < length t.line.items →
    StandsInTrace (change first held now holding) seen t → Traces (change first held new after) seen
stands_end first now new held holding shown after seen t number is head ran some s =
    let one = one_line (change now shown new after) t.line.items (rest_none first now held holding seen t s) ran in
    let size = length-take (longest_line + 1) s.rest in
    let front : 0 < length (front_of s.rest) = subst (λ (k : List ℕ). 0 < length k) s.is_front some in
    let all : s.finished ++ s.rest ∷ [] ≡ lines_of seen = sym (lines_of-splits seen s.finished s.rest s.splits ∙ ap (λ ls. s.finished ++ ls) (last_some s.rest (omega (arith, size, front)))) in
    record {
      lines = s.lines ++ one.line ∷ [];
      answers = s.answers ++ one.answers ∷ [];
      script = subst (λ ls. AreLines ls (s.lines ++ one.line ∷ [])) all
          (AreLines-push s.finished s.lines s.rest one.line s.are_lines (line_of_front s.rest one.line (subst (λ (k : List ℕ). IsLine k one.line) s.is_front one.is_line)));
      run = Runs-push first now new s.lines s.answers one.line one.answers s.run one.turns;
      written = subst (λ ls. Appends held after (traced 0 ls (s.answers ++ one.answers ∷ []))) all (traced_one first now new held holding shown after seen t number s is head one);
    }

-- nothing is left
pub stands_whole : (c : ReplayChange) (seen : List ℕ) (t : Tracer) → length t.line.items ≡ 0 → StandsInTrace c seen t → Traces c seen
stands_whole c seen t none s =
    let size = length-take (longest_line + 1) s.rest in
    let front : length (front_of s.rest) ≡ 0 = subst (λ (k : List ℕ). length k ≡ 0) s.is_front none in
    let rest : s.rest ≡ [] = nil_from_length s.rest (omega (arith, size, front)) in
    let all : s.finished ≡ lines_of seen = sym (lines_of-splits seen s.finished s.rest s.splits ∙ ap (λ r. s.finished ++ last_line r) rest ∙ append-nil s.finished) in
    record {
      lines = s.lines;
      answers = s.answers;
      script = subst (λ ls. AreLines ls s.lines) all s.are_lines;
      run = s.run;
      written = subst (λ ls. Appends c.held c.holding (traced 0 ls s.answers)) all s.written;
    }

-- before anything is read
pub stands_first : (first : Concentrator) (held : Option (List ℕ)) (t : Tracer) → t.lines ≡ 0 → t.line.items ≡ [] → StandsInTrace (change first held first held) [] t
stands_first first held t none empty = record {
  finished = [];
  rest = [];
  splits = record { whole = refl; each = tt; unfinished = refl };
  is_front = empty;
  number = none;
  lines = [];
  are_lines = tt;
  answers = [];
  run = refl;
  written = Appends-nil held;
}
