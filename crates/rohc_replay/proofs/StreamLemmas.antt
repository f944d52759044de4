-- Lemmas on where a replay stands.
use Rattle.std.proofs.Common.{◌≡◌, ℕ, ◌+◌, ◌-◌, ◌<◌, ◌≤◌, List, [], ◌∷◌, ◌++◌, length, length-append, Bool, true, false, cond, not, slice_range, get_or, drop, ◌⊎◌, inl, inr, Option, Result, Ok, Err, IfOk, IfErr, count_by, append_assoc, append-nil, arith, refl, sym, ◌∙◌, ap, subst}
use Rattle.std.specs.List.{flat_map}
use Rattle.std.specs.Io.KnownBytes.{Keeps}
use Rattle.std.proofs.KnownBytes.{Appends-nil, Appends-trans, Appends-kept}
use Rattle.std.proofs.lemmas.Grind.{flat_map-append}
use Rattle.std.proofs.lemmas.List.Sums.{sum_by-append}
use Rattle.rohc_concentrator.specs.declared.concentrator.Concentrator.{Concentrator}
use Rattle.rohc_replay.specs.declared.counts.Counts.{Counts}
use Rattle.rohc_replay.specs.declared.output.Stopped.{Stopped}
use Rattle.rohc_replay.specs.declared.tally.Tally.{Tally}
use Rattle.rohc_replay.specs.Script.{Line, Good, Bad, Long, IsLine, AreLines, longest_line, lines_of}
use Rattle.rohc_replay.specs.AnswerLines.{text_of, long_line}
use Rattle.rohc_links.specs.Limits.{counted}
use Rattle.rohc_replay.specs.Offers.{TakesAll, TakesPart}
use Rattle.rohc_replay.specs.Run.{ReplayChange, change, RunsLine, Runs, IsTally, Replays, Stops, is_good_line}
use Rattle.rohc_replay.specs.Turn.{with_line, TakesTurn, TakesLongTurn}
use Rattle.rohc_replay.specs.Stream.{StandsInScript, EndsWithText, IsUnfinished, StopsAt}
use Rattle.rohc_replay.specs.Lines.{Splits, has_newline}
use Rattle.rohc_replay.proofs.RangeLemmas.{range-append, range-one, range-none, range-end}
use Rattle.rohc_replay.proofs.SplitLemmas.{Splits-more, Splits-newline, AreLines-push, lines_of-splits, last_line}

-- a run goes on by one line
pub Runs-push : (old mid new : Concentrator) (lines : List Line) (answers : List (List (List ℕ))) (line : Line) (more : List (List ℕ)) →
    Runs old lines answers mid → RunsLine mid line more new → Runs old (lines ++ line ∷ []) (answers ++ more ∷ []) new
Runs-push old mid new [] [] line more run turn = (new, subst (λ k. RunsLine k line more new) run turn, refl)
Runs-push old mid new (l ∷ ls) (a ∷ rest) line more run turn = (run.0, run.1, Runs-push run.0 mid new ls rest line more run.2 turn)
Runs-push old mid new [] (a ∷ rest) line more run turn = absurd run
Runs-push old mid new (l ∷ ls) [] line more run turn = absurd run

-- counting goes on
pub counted-counted : (a b c : ℕ) → counted (counted a b) c ≡ counted a (b + c)
counted-counted a b c = omega arith

-- what is taken of two texts in turn is taken of both
pub TakesAll-more : (a b c : Option (List ℕ)) (m n o : ℕ) (xs ys : List ℕ) → TakesAll a b m n xs → TakesAll b c n o ys → TakesAll a c m o (xs ++ ys)
TakesAll-more a b c m n o xs ys p q = (Appends-trans a b c xs ys p.0 q.0, (let h = length-append xs ys in q.1 ∙ ap (λ k. counted k (length ys)) p.1 ∙ counted-counted m (length xs) (length ys) ∙ ap (counted m) (sym h)))

texts-push : (answers : List (List (List ℕ))) (more : List (List ℕ)) → flat_map text_of (answers ++ more ∷ []) ≡ flat_map text_of answers ++ text_of more
texts-push answers more = flat_map-append text_of answers (more ∷ []) ∙ ap (λ t. flat_map text_of answers ++ t) (append-nil (text_of more))

count_by-push : (p : Line → Bool) (lines : List Line) (line : Line) → count_by p (lines ++ line ∷ []) ≡ count_by p lines + count_by p (line ∷ [])
count_by-push p lines line = sum_by-append (λ (l : Line). cond (p l) 1 0) lines (line ∷ [])

-- one line more is counted
pub IsTally-push : (lines : List Line) (line : Line) (t u : Tally) → IsTally lines t → u ≡ with_line t line → IsTally (lines ++ line ∷ []) u
IsTally-push lines (Good e) t u is eq =
    let good = count_by-push is_good_line lines (Good e) in
    let bad = count_by-push (λ (l : Line). not (is_good_line l)) lines (Good e) in
    let events = ap (λ (v : Tally). v.events) eq in
    let others = ap (λ (v : Tally). v.bad) eq in
    record { events = omega (arith, is.events); bad = omega (arith, is.bad) }
IsTally-push lines Bad t u is eq =
    let good = count_by-push is_good_line lines Bad in
    let bad = count_by-push (λ (l : Line). not (is_good_line l)) lines Bad in
    let events = ap (λ (v : Tally). v.events) eq in
    let others = ap (λ (v : Tally). v.bad) eq in
    record { events = omega (arith, is.events); bad = omega (arith, is.bad) }
IsTally-push lines Long t u is eq =
    let good = count_by-push is_good_line lines Long in
    let bad = count_by-push (λ (l : Line). not (is_good_line l)) lines Long in
    let events = ap (λ (v : Tally). v.events) eq in
    let others = ap (λ (v : Tally). v.bad) eq in
    record { events = omega (arith, is.events); bad = omega (arith, is.bad) }

-- octets without a newline are kept
pub StandsInScript-more : (c : ReplayChange) (seen kept more : List ℕ) (long : Bool) (counts : Counts) →
    StandsInScript c seen kept long counts → has_newline more ≡ false → StandsInScript c (seen ++ more) (kept ++ more) long counts
StandsInScript-more c seen kept more long counts s none = record {
  finished = s.finished;
  rest = s.rest ++ more;
  splits = Splits-more seen s.finished s.rest more s.splits none;
  is_kept = IsUnfinished-more long kept s.rest more s.is_kept;
  lines = s.lines;
  are_lines = s.are_lines;
  answers = s.answers;
  run = s.run;
  taken = s.taken;
  tally = s.tally;
}
  where
    IsUnfinished-more : (l : Bool) (k r m : List ℕ) → IsUnfinished l k r → IsUnfinished l (k ++ m) (r ++ m)
    IsUnfinished-more false k r m e = ap (λ t. t ++ m) e
    IsUnfinished-more true k r m e = omega (arith, length-append r m)

-- a rest that is long already is a long line, and a kept one is the line that it spells
IsLine-kept : (long : Bool) (kept rest : List ℕ) (line : Line) → IsUnfinished long kept rest → (long ≡ false → IsLine kept line) → (long ≡ true → line ≡ Long) → IsLine rest line
IsLine-kept false kept rest line is_kept short is_long = subst (λ t. IsLine t line) is_kept (short refl)
IsLine-kept true kept rest line is_kept short is_long = rw (is_long refl) is_kept

-- The kept line is run: what it is, whether it is short or long, and what it changes.
pub record RunsKept (c : ReplayChange) (before after : Counts) (long : Bool) (kept : List ℕ) : Type 0 where
  pub line : Line
  pub answers : List (List ℕ)
  pub short : long ≡ false → IsLine kept line
  pub is_long : long ≡ true → line ≡ Long
  pub turns : RunsLine c.before line answers c.after
  pub tally : after.tally ≡ with_line before.tally line

-- a turn runs a short line, and a long one
abbrev turn_runs : (c : ReplayChange) (before after : Counts) (kept : List ℕ) (result : Result Unit Stopped) →
    TakesTurn c before after kept result → RunsKept c before after false kept
turn_runs c before after kept result t = record {
  line = t.line;
  answers = t.answers;
  short = λ _. t.is_line;
  is_long = λ e. cc;
  turns = t.turns;
  tally = t.tally;
}

abbrev long_runs : (now : Concentrator) (held holding : Option (List ℕ)) (before after : Counts) (kept : List ℕ) →
    after.tally ≡ with_line before.tally Long → RunsKept (change now held now holding) before after true kept
long_runs now held holding before after kept tally = record {
  line = Long;
  answers = long_line ∷ [];
  short = λ e. cc;
  is_long = λ _. refl;
  turns = (refl, refl);
  tally = tally;
}

-- the lines with the kept one behind them, what they are, and their answers, all of which were taken
lines_kept : (c : ReplayChange) (before after : Counts) (long : Bool) (kept rest : List ℕ) → IsUnfinished long kept rest →
    (r : RunsKept c before after long kept) → IsLine rest r.line
lines_kept c before after long kept rest is_kept r = IsLine-kept long kept rest r.line is_kept r.short r.is_long

taken_kept : (held : Option (List ℕ)) (c : ReplayChange) (before after : Counts) (answers : List (List (List ℕ))) (more : List (List ℕ)) →
    TakesAll held c.held 0 before.answers.taken (flat_map text_of answers) →
    TakesAll c.held c.holding before.answers.taken after.answers.taken (text_of more) →
    TakesAll held c.holding 0 after.answers.taken (flat_map text_of (answers ++ more ∷ []))
taken_kept held c before after answers more first next =
    subst (TakesAll held c.holding 0 after.answers.taken) (sym (texts-push answers more))
    (TakesAll-more held c.held c.holding 0 before.answers.taken after.answers.taken (flat_map text_of answers) (text_of more) first next)

-- a newline ends the kept line, which is run
pub StandsInScript-newline : (first : Concentrator) (held : Option (List ℕ)) (c : ReplayChange) (before after : Counts) (seen kept : List ℕ) (long : Bool) →
    StandsInScript (change first held c.before c.held) seen kept long before → (r : RunsKept c before after long kept) →
    TakesAll c.held c.holding before.answers.taken after.answers.taken (text_of r.answers) →
    StandsInScript (change first held c.after c.holding) (seen ++ 10 ∷ []) [] false after
StandsInScript-newline first held c before after seen kept long s r taken = record {
  finished = s.finished ++ s.rest ∷ [];
  rest = [];
  splits = Splits-newline seen s.finished s.rest s.splits;
  is_kept = refl;
  lines = s.lines ++ r.line ∷ [];
  are_lines = AreLines-push s.finished s.lines s.rest r.line s.are_lines (lines_kept c before after long kept s.rest s.is_kept r);
  answers = s.answers ++ r.answers ∷ [];
  run = Runs-push first c.before c.after s.lines s.answers r.line r.answers s.run r.turns;
  taken = taken_kept held c before after s.answers r.answers s.taken taken;
  tally = IsTally-push s.lines r.line before.tally after.tally s.tally r.tally;
}

-- what isn't empty is a line
some_rest : (l : Bool) (k r : List ℕ) → IsUnfinished l k r → (l ≡ false → 0 < length k) → 0 < length r
some_rest false k r e h = subst (λ t. 0 < length t) e (h refl)
some_rest true k r e h = omega (arith, e)

last_line-some : (r : List ℕ) → 0 < length r → last_line r ≡ r ∷ []
last_line-some [] h = absurd (omega arith)
last_line-some (x ∷ xs) h = refl

-- then it is the last line of what was seen
last_of_lines : (seen : List ℕ) (finished : List (List ℕ)) (long : Bool) (kept rest : List ℕ) → Splits seen finished rest → IsUnfinished long kept rest →
    (long ≡ false → 0 < length kept) → finished ++ rest ∷ [] ≡ lines_of seen
last_of_lines seen finished long kept rest splits is_kept some =
    sym (lines_of-splits seen finished rest splits ∙ ap (λ ls. finished ++ ls) (last_line-some rest (some_rest long kept rest is_kept some)))

-- a last line that isn't empty is run
pub EndsWithText-line : (first : Concentrator) (held : Option (List ℕ)) (c : ReplayChange) (before after : Counts) (seen kept : List ℕ) (long : Bool) →
    StandsInScript (change first held c.before c.held) seen kept long before → (long ≡ false → 0 < length kept) → (r : RunsKept c before after long kept) →
    TakesAll c.held c.holding before.answers.taken after.answers.taken (text_of r.answers) →
    EndsWithText (change first held c.after c.holding) seen after
EndsWithText-line first held c before after seen kept long s some r taken = record {
  lines = s.lines ++ r.line ∷ [];
  are_lines = subst (λ ls. AreLines ls (s.lines ++ r.line ∷ [])) (last_of_lines seen s.finished long kept s.rest s.splits s.is_kept some)
      (AreLines-push s.finished s.lines s.rest r.line s.are_lines (lines_kept c before after long kept s.rest s.is_kept r));
  answers = s.answers ++ r.answers ∷ [];
  run = Runs-push first c.before c.after s.lines s.answers r.line r.answers s.run r.turns;
  taken = taken_kept held c before after s.answers r.answers s.taken taken;
  tally = IsTally-push s.lines r.line before.tally after.tally s.tally r.tally;
}

-- nothing is kept of an empty last line
pub EndsWithText-empty : (c : ReplayChange) (seen : List ℕ) (counts : Counts) →
    StandsInScript c seen [] false counts → EndsWithText c seen counts
EndsWithText-empty c seen counts s = record {
  lines = s.lines;
  are_lines = subst (λ ls. AreLines ls s.lines) (sym (lines_of-splits seen s.finished s.rest s.splits ∙ ap (λ r. s.finished ++ last_line r) (sym s.is_kept) ∙ append-nil s.finished)) s.are_lines;
  answers = s.answers;
  run = s.run;
  taken = s.taken;
  tally = s.tally;
}

-- before anything is read
pub StandsInScript-first : (first : Concentrator) (held : Option (List ℕ)) (counts : Counts) → counts.answers.taken ≡ 0 → counts.tally ≡ record { events = 0; bad = 0 } → StandsInScript (change first held first held) [] [] false counts
StandsInScript-first first held counts none nothing = record {
  finished = [];
  rest = [];
  splits = record { whole = refl; each = tt; unfinished = refl };
  is_kept = refl;
  lines = [];
  are_lines = tt;
  answers = [];
  run = refl;
  taken = (Appends-nil held, none);
  tally = rw nothing (record { events = refl; bad = refl });
}

-- The same, from what a turn says of its result.

pub newline_after_turn : (c : ReplayChange) (before after : Counts) (kept : List ℕ) (result : Result Unit Stopped) → TakesTurn c before after kept result →
    IfOk result (λ _. (first : Concentrator) (held : Option (List ℕ)) (seen : List ℕ) → StandsInScript (change first held c.before c.held) seen kept false before → StandsInScript (change first held c.after c.holding) (seen ++ 10 ∷ []) [] false after)
newline_after_turn c before after kept (Ok done) t = λ first held seen s. StandsInScript-newline first held c before after seen kept false s (turn_runs c before after kept (Ok done) t) t.offers
newline_after_turn c before after kept (Err stopped) t = tt

pub newline_after_long : (now : Concentrator) (held holding : Option (List ℕ)) (before after : Counts) (kept : List ℕ) (result : Result Unit Stopped) →
    TakesLongTurn held holding before after result →
    IfOk result (λ _. (first : Concentrator) (old : Option (List ℕ)) (seen : List ℕ) → StandsInScript (change first old now held) seen kept true before → StandsInScript (change first old now holding) (seen ++ 10 ∷ []) [] false after)
newline_after_long now held holding before after kept (Ok done) t = λ first old seen s.
    StandsInScript-newline first old (change now held now holding) before after seen kept true s (long_runs now held holding before after kept t.tally) t.offers
newline_after_long now held holding before after kept (Err stopped) t = tt

pub end_after_turn : (c : ReplayChange) (before after : Counts) (kept : List ℕ) (result : Result Unit Stopped) → 0 < length kept → TakesTurn c before after kept result →
    IfOk result (λ _. (first : Concentrator) (held : Option (List ℕ)) (seen : List ℕ) → StandsInScript (change first held c.before c.held) seen kept false before → EndsWithText (change first held c.after c.holding) seen after)
end_after_turn c before after kept (Ok done) some t = λ first held seen s. EndsWithText-line first held c before after seen kept false s (λ _. some) (turn_runs c before after kept (Ok done) t) t.offers
end_after_turn c before after kept (Err stopped) some t = tt

pub end_after_long : (now : Concentrator) (held holding : Option (List ℕ)) (before after : Counts) (kept : List ℕ) (result : Result Unit Stopped) →
    TakesLongTurn held holding before after result →
    IfOk result (λ _. (first : Concentrator) (old : Option (List ℕ)) (seen : List ℕ) → StandsInScript (change first old now held) seen kept true before → EndsWithText (change first old now holding) seen after)
end_after_long now held holding before after kept (Ok done) t = λ first old seen s.
    EndsWithText-line first old (change now held now holding) before after seen kept true s (λ e. cc) (long_runs now held holding before after kept t.tally) t.offers
end_after_long now held holding before after kept (Err stopped) t = tt

-- Two parts of one piece: what was run up to `from` of the octets, and the octets from there to `to`.

pub StandsInScript-along : (c : ReplayChange) (octets : List ℕ) (searched start from to : ℕ) (long : Bool) (counts : Counts) →
    start ≤ from → searched ≤ from → from ≤ to → has_newline (slice_range octets from to) ≡ false → (seen : List ℕ) →
    StandsInScript c (seen ++ slice_range octets searched from) (slice_range octets start from) long counts →
    StandsInScript c (seen ++ slice_range octets searched to) (slice_range octets start to) long counts
StandsInScript-along c octets searched start from to long counts begun later ahead none seen s =
    let all : (seen ++ slice_range octets searched from) ++ slice_range octets from to ≡ seen ++ slice_range octets searched to = append_assoc seen (slice_range octets searched from) (slice_range octets from to) ∙ ap (λ t. seen ++ t) (range-append octets searched from to later ahead) in
    let line : slice_range octets start from ++ slice_range octets from to ≡ slice_range octets start to = range-append octets start from to begun ahead in
    subst (λ t. StandsInScript c t (slice_range octets start to) long counts) all
    (subst (λ k. StandsInScript c ((seen ++ slice_range octets searched from) ++ slice_range octets from to) k long counts) line
    (StandsInScript-more c (seen ++ slice_range octets searched from) (slice_range octets start from) (slice_range octets from to) long counts s none))

-- a newline at a place was seen, and a new line begins behind it
pub StandsInScript-after : (c : ReplayChange) (seen octets : List ℕ) (searched stop : ℕ) (counts : Counts) →
    searched ≤ stop → stop < length octets → get_or octets stop 0 ≡ 10 →
    StandsInScript c ((seen ++ slice_range octets searched stop) ++ 10 ∷ []) [] false counts →
    StandsInScript c (seen ++ slice_range octets searched (stop + 1)) (slice_range octets (stop + 1) (stop + 1)) false counts
StandsInScript-after c seen octets searched stop counts later within newline s =
    let one : slice_range octets stop (stop + 1) ≡ 10 ∷ [] = range-one octets stop within ∙ ap (λ o. o ∷ []) newline in
    let all : (seen ++ slice_range octets searched stop) ++ 10 ∷ [] ≡ seen ++ slice_range octets searched (stop + 1) =
    append_assoc seen (slice_range octets searched stop) (10 ∷ []) ∙ ap (λ t. seen ++ t) (ap (λ t. slice_range octets searched stop ++ t) (sym one) ∙ range-append octets searched stop (stop + 1) later (omega arith)) in
    subst (λ t. StandsInScript c t (slice_range octets (stop + 1) (stop + 1)) false counts) all
    (subst (λ k. StandsInScript c ((seen ++ slice_range octets searched stop) ++ 10 ∷ []) k false counts) (sym (range-none octets (stop + 1))) s)

-- A line is long where it was, or where more than the greatest length of it came. Nothing is kept of it.
kept_over : (long : Bool) (kept rest : List ℕ) → (long ≡ true) ⊎ (longest_line < length kept) → IsUnfinished long kept rest → longest_line < length rest
kept_over false kept rest (inl was) k = cc was
kept_over false kept rest (inr over) k = subst (λ t. longest_line < length t) k over
kept_over true kept rest how k = k

pub StandsInScript-long : (c : ReplayChange) (seen kept any : List ℕ) (long : Bool) (counts : Counts) →
    (long ≡ true) ⊎ (longest_line < length kept) → StandsInScript c seen kept long counts → StandsInScript c seen any true counts
StandsInScript-long c seen kept any long counts how s = record {
  finished = s.finished;
  rest = s.rest;
  splits = s.splits;
  is_kept = kept_over long kept s.rest how s.is_kept;
  lines = s.lines;
  are_lines = s.are_lines;
  answers = s.answers;
  run = s.run;
  taken = s.taken;
  tally = s.tally;
}

-- and where it is neither, its octets are kept
pub StandsInScript-short : (c : ReplayChange) (seen octets : List ℕ) (start : ℕ) (long : Bool) (counts : Counts) →
    start ≤ length octets → long ≡ false → StandsInScript c seen (drop start octets) long counts →
    StandsInScript c seen (drop (length octets - (length octets - start)) octets) false counts
StandsInScript-short c seen octets start long counts within short s =
    let back : start ≡ length octets - (length octets - start) = omega arith in
    subst (λ l. StandsInScript c seen (drop (length octets - (length octets - start)) octets) l counts) short
    (subst (λ n. StandsInScript c seen (drop n octets) long counts) back s)

-- at the end of the octets all of them were seen
pub StandsInScript-end : (c : ReplayChange) (seen octets : List ℕ) (searched start : ℕ) (long : Bool) (counts : Counts) →
    StandsInScript c (seen ++ slice_range octets searched (length octets)) (slice_range octets start (length octets)) long counts →
    StandsInScript c (seen ++ drop searched octets) (drop start octets) long counts
StandsInScript-end c seen octets searched start long counts s =
    subst (λ t. StandsInScript c (seen ++ t) (drop start octets) long counts) (range-end octets searched)
    (subst (λ k. StandsInScript c (seen ++ slice_range octets searched (length octets)) k long counts) (range-end octets start) s)

-- what is kept may be spelled otherwise
pub StandsInScript-same : (c : ReplayChange) (seen new_seen kept new_kept : List ℕ) (long : Bool) (counts : Counts) →
    seen ≡ new_seen → kept ≡ new_kept → StandsInScript c seen kept long counts → StandsInScript c new_seen new_kept long counts
StandsInScript-same c seen new_seen kept new_kept long counts same_seen same_kept s =
    subst (λ t. StandsInScript c t new_kept long counts) same_seen (subst (λ k. StandsInScript c seen k long counts) same_kept s)

-- a whole text was replayed, and the flush kept what was written
pub Replays-end : (c : ReplayChange) (flushed : Option (List ℕ)) (seen : List ℕ) (counts : Counts) →
    EndsWithText c seen counts → Keeps c.holding flushed → Replays (change c.before c.held c.after flushed) seen counts.tally
Replays-end c flushed seen counts e kept = record {
  lines = e.lines;
  answers = e.answers;
  script = e.are_lines;
  run = e.run;
  written = Appends-kept c.held c.holding flushed (flat_map text_of e.answers) e.taken.0 kept;
  tally = e.tally;
}

-- a flush keeps what was written, so the replay stands where it stood
pub StandsInScript-flushed : (c : ReplayChange) (flushed : Option (List ℕ)) (seen kept : List ℕ) (long : Bool) (counts : Counts) →
    StandsInScript c seen kept long counts → Keeps c.holding flushed → StandsInScript (change c.before c.held c.after flushed) seen kept long counts
StandsInScript-flushed c flushed seen kept long counts s same = record {
  finished = s.finished;
  rest = s.rest;
  splits = s.splits;
  is_kept = s.is_kept;
  lines = s.lines;
  are_lines = s.are_lines;
  answers = s.answers;
  run = s.run;
  taken = (Appends-kept c.held c.holding flushed (flat_map text_of s.answers) s.taken.0 same, s.taken.1);
  tally = s.tally;
}

-- Where the writer stops.

-- the kept line is the last of the lines, and its answers are taken in part
record StopsAtLine (c : ReplayChange) (seen kept : List ℕ) (long : Bool) (counts : Counts) : Type 0 where
  texts : List (List ℕ)
  splits : Splits (seen ++ 10 ∷ []) texts []
  last : (long ≡ false → 0 < length kept) → texts ≡ lines_of seen
  stops : Stops c texts counts.answers.taken

stops_at_line : (first : Concentrator) (held : Option (List ℕ)) (c : ReplayChange) (before after : Counts) (seen kept : List ℕ) (long : Bool) →
    StandsInScript (change first held c.before c.held) seen kept long before → (r : RunsKept c before after long kept) →
    TakesPart c.held c.holding before.answers.taken after.answers.taken (text_of r.answers) →
    StopsAtLine (change first held c.after c.holding) seen kept long after
stops_at_line first held c before after seen kept long s r part = record {
  texts = s.finished ++ s.rest ∷ [];
  splits = Splits-newline seen s.finished s.rest s.splits;
  last = last_of_lines seen s.finished long kept s.rest s.splits s.is_kept;
  stops = record {
    earlier = s.lines;
    last = r.line;
    are_lines = AreLines-push s.finished s.lines s.rest r.line s.are_lines (lines_kept c before after long kept s.rest s.is_kept r);
    answers = s.answers;
    last_answers = r.answers;
    run = Runs-push first c.before c.after s.lines s.answers r.line r.answers s.run r.turns;
    part = part.part;
    rest = part.rest;
    parts = part.parts;
    some_left = part.some_left;
    taken = TakesAll-more held c.held c.holding 0 before.answers.taken after.answers.taken (flat_map text_of s.answers) part.part s.taken part.taken;
  };
}

stops_within : (c : ReplayChange) (seen kept : List ℕ) (long : Bool) (counts : Counts) → StopsAtLine c seen kept long counts → StopsAt c (seen ++ 10 ∷ []) counts
stops_within c seen kept long counts s = (s.texts, s.splits, s.stops)

stops_last : (c : ReplayChange) (seen kept : List ℕ) (long : Bool) (counts : Counts) → StopsAtLine c seen kept long counts → (long ≡ false → 0 < length kept) →
    Stops c (lines_of seen) counts.answers.taken
stops_last c seen kept long counts s some = subst (λ ls. Stops c ls counts.answers.taken) (s.last some) s.stops

pub stop_after_turn : (c : ReplayChange) (before after : Counts) (kept : List ℕ) (result : Result Unit Stopped) → TakesTurn c before after kept result →
    IfErr result (λ _. (first : Concentrator) (held : Option (List ℕ)) (seen : List ℕ) → StandsInScript (change first held c.before c.held) seen kept false before → StopsAt (change first held c.after c.holding) (seen ++ 10 ∷ []) after)
stop_after_turn c before after kept (Ok done) t = tt
stop_after_turn c before after kept (Err stopped) t = λ first held seen s.
    stops_within (change first held c.after c.holding) seen kept false after (stops_at_line first held c before after seen kept false s (turn_runs c before after kept (Err stopped) t) t.offers)

pub stop_after_long : (now : Concentrator) (held holding : Option (List ℕ)) (before after : Counts) (kept : List ℕ) (result : Result Unit Stopped) →
    TakesLongTurn held holding before after result →
    IfErr result (λ _. (first : Concentrator) (old : Option (List ℕ)) (seen : List ℕ) → StandsInScript (change first old now held) seen kept true before → StopsAt (change first old now holding) (seen ++ 10 ∷ []) after)
stop_after_long now held holding before after kept (Ok done) t = tt
stop_after_long now held holding before after kept (Err stopped) t = λ first old seen s.
    stops_within (change first old now holding) seen kept true after
    (stops_at_line first old (change now held now holding) before after seen kept true s (long_runs now held holding before after kept t.tally) t.offers)

pub last_after_turn : (c : ReplayChange) (before after : Counts) (kept : List ℕ) (result : Result Unit Stopped) → 0 < length kept → TakesTurn c before after kept result →
    IfErr result (λ _. (first : Concentrator) (held : Option (List ℕ)) (seen : List ℕ) → StandsInScript (change first held c.before c.held) seen kept false before → Stops (change first held c.after c.holding) (lines_of seen) after.answers.taken)
last_after_turn c before after kept (Ok done) some t = tt
last_after_turn c before after kept (Err stopped) some t = λ first held seen s.
    stops_last (change first held c.after c.holding) seen kept false after (stops_at_line first held c before after seen kept false s (turn_runs c before after kept (Err stopped) t) t.offers) (λ _. some)

pub last_after_long : (now : Concentrator) (held holding : Option (List ℕ)) (before after : Counts) (kept : List ℕ) (result : Result Unit Stopped) →
    TakesLongTurn held holding before after result →
    IfErr result (λ _. (first : Concentrator) (old : Option (List ℕ)) (seen : List ℕ) → StandsInScript (change first old now held) seen kept true before → Stops (change first old now holding) (lines_of seen) after.answers.taken)
last_after_long now held holding before after kept (Ok done) t = tt
last_after_long now held holding before after kept (Err stopped) t = λ first old seen s.
    stops_last (change first old now holding) seen kept true after
    (stops_at_line first old (change now held now holding) before after seen kept true s (long_runs now held holding before after kept t.tally) t.offers) (λ e. cc)

-- what was seen, up to a newline at a place and behind it
pub seen_parts : (seen octets : List ℕ) (searched stop : ℕ) → searched ≤ stop → stop < length octets → get_or octets stop 0 ≡ 10 →
    seen ++ drop searched octets ≡ ((seen ++ slice_range octets searched stop) ++ 10 ∷ []) ++ drop (stop + 1) octets
seen_parts seen octets searched stop later within newline =
    let one : slice_range octets stop (stop + 1) ≡ 10 ∷ [] = range-one octets stop within ∙ ap (λ o. o ∷ []) newline in
    let front : slice_range octets searched stop ++ 10 ∷ [] ≡ slice_range octets searched (stop + 1) = ap (λ t. slice_range octets searched stop ++ t) (sym one) ∙ range-append octets searched stop (stop + 1) later (omega arith) in
    let all : drop searched octets ≡ slice_range octets searched (stop + 1) ++ drop (stop + 1) octets =
    sym (range-end octets searched) ∙ sym (range-append octets searched (stop + 1) (length octets) (omega arith) (omega arith)) ∙ ap (λ t. slice_range octets searched (stop + 1) ++ t) (range-end octets (stop + 1)) in
    ap (λ t. seen ++ t) all
    ∙ sym (append_assoc seen (slice_range octets searched (stop + 1)) (drop (stop + 1) octets))
    ∙ ap (λ t. t ++ drop (stop + 1) octets) (ap (λ t. seen ++ t) (sym front) ∙ sym (append_assoc seen (slice_range octets searched stop) (10 ∷ [])))
