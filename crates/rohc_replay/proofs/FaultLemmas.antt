-- Lemmas on what a fault leaves.
use Rattle.std.proofs.Common.{ℕ, List, [], ◌++◌, Option, None, Some, IfSome, Bool, inl, inr, append_assoc, append-nil, sym, ◌∙◌, ap}
use Rattle.std.specs.List.{flat_map}
use Rattle.std.specs.Io.KnownBytes.{Consumes, Keeps}
use Rattle.std.proofs.KnownBytes.{Appends-kept}
use Rattle.rohc_replay.specs.declared.counts.Counts.{Counts}
use Rattle.rohc_replay.specs.Script.{lines_of}
use Rattle.rohc_replay.specs.AnswerLines.{text_of}
use Rattle.rohc_replay.specs.Run.{ReplayChange, change, ReadFails, WriteOrFlushFails, Stops}
use Rattle.rohc_replay.specs.Stream.{StandsInScript, EndsWithText, StopsWithin}
use Rattle.rohc_replay.proofs.SplitLemmas.{lines_of-front}

-- a read fails where a replay stands
pub fails_reading : (c : ReplayChange) (a b : Option (List ℕ)) (seen kept : List ℕ) (long : Bool) (counts : Counts) →
    Consumes a b seen → StandsInScript c seen kept long counts → ReadFails c a b counts.answers.taken
fails_reading c a b seen kept long counts consumed s = record {
  seen = seen;
  consumed = consumed;
  finished = s.finished;
  rest = s.rest;
  splits = s.splits;
  lines = s.lines;
  are_lines = s.are_lines;
  answers = s.answers;
  run = s.run;
  taken = s.taken;
}

-- a write fails at a line that ended
pub fails_writing : (c : ReplayChange) (a b : Option (List ℕ)) (seen : List ℕ) (counts : Counts) →
    Consumes a b seen → StopsWithin c seen counts →
    IfSome a (λ text. WriteOrFlushFails c text counts.answers.taken)
fails_writing c None b seen counts consumed stops = tt
fails_writing c (Some text) None seen counts consumed stops = absurd consumed
fails_writing c (Some text) (Some left) seen counts consumed stops = inl (record {
  texts = stops.3.0;
  others = lines_of (stops.1 ++ left);
  first_lines = ap lines_of (consumed ∙ ap (λ t. t ++ left) stops.2 ∙ append_assoc stops.0 stops.1 left) ∙ lines_of-front stops.0 (stops.1 ++ left) stops.3.0 stops.3.1;
  stops = stops.3.2;
})

-- a write fails at the last line
pub last_line_fails : (c : ReplayChange) (seen : List ℕ) (written : ℕ) → Stops c (lines_of seen) written → WriteOrFlushFails c seen written
last_line_fails c seen written stops = inl (record { texts = lines_of seen; others = []; first_lines = sym (append-nil (lines_of seen)); stops = stops })

-- the flush fails
pub flush_fails : (c : ReplayChange) (flushed : Option (List ℕ)) (seen : List ℕ) (counts : Counts) →
    EndsWithText c seen counts → Keeps c.holding flushed → WriteOrFlushFails (change c.before c.held c.after flushed) seen counts.answers.taken
flush_fails c flushed seen counts e kept =
    inr (record { lines = e.lines; script = e.are_lines; answers = e.answers; run = e.run; taken = (Appends-kept c.held c.holding flushed (flat_map text_of e.answers) e.taken.0 kept, e.taken.1) })
