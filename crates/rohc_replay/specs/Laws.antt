-- Laws of two runs, and of a text's one script. Words: IsFront; then each law.
use Rattle.std.specs.Prelude.{◌≡◌, ℕ, ◌<◌, ◌^◌, List, [], ◌∷◌, ◌++◌, Option, Some}
use Rattle.std.specs.List.{flat_map}
use Rattle.rohc_concentrator.specs.declared.concentrator.Concentrator.{Concentrator}
use Rattle.rohc_concentrator.specs.Laws.{Agree, AreAlike}
use Rattle.rohc_context.specs.Record.{Record}
use Rattle.rohc_concentrator.specs.Setting.{settings_of}
use Rattle.rohc_concentrator.specs.Isolation.{Pair}
use Rattle.rohc_concentrator.specs.Honest.{Arrived, Sender, IsHonestCall, events_of, deliveries}
use Rattle.rohc_concentrator.specs.Tables.{record_at}
use Rattle.rohc_replay.specs.Script.{Line, IsScript}
use Rattle.rohc_replay.specs.AnswerLines.{response_lines, text_of}
use Rattle.rohc_replay.specs.Isolation.{Replay, IsPair, IsIsolated, own_unmarked, own_lines}
use Rattle.rohc_replay.specs.Run.{Runs, marked_of, ReplayChange, ReadFails, WriteFails, FlushFails}

-- the second list starts with the first
abbrev pub IsFront : {X : Type 0} → List X → List X → Type 0
IsFront {X} front whole = (rest : List X) × (whole ≡ front ++ rest)

-- a text is at most one script
abbrev pub HasOneScript : Type 0
HasOneScript = (text : List ℕ) (a b : List Line) → IsScript text a → IsScript text b → a ≡ b

-- Let two replays agree on a CID of a link: in its own events, its settings and its record before. Then they
-- write the same lines for it and leave it equal records, whatever else the scripts hold.
abbrev pub SameLines : Type 0
SameLines =
    (a b : Replay) (p : IsIsolated a) (q : IsIsolated b) (l c : ℕ) (agree : Agree a.before b.before l c) →
    l < 2 ^ 16 → c < 2 ^ 16 → own_unmarked agree.here l c p.marked ≡ own_unmarked agree.there l c q.marked →
    (own_lines l c a.written ≡ own_lines l c b.written) × (record_at a.after l c ≡ record_at b.after l c)

-- A run of a whole script answers first what a run of its first lines answers, if the same events find no
-- memory.
abbrev pub BeginsAlike : Type 0
BeginsAlike = (a b after_a after_b : Concentrator) (text : List ℕ) (lines more : List Line)
    (answers others : List (List (List ℕ)))
    (run : Runs a lines answers after_a) (whole : Runs b (lines ++ more) others after_b) →
    AreAlike a b → IsScript text (lines ++ more) →
    IsFront (marked_of a lines answers after_a run) (marked_of b (lines ++ more) others after_b whole) →
    IsFront answers others

-- What a failed read leaves written is a prefix of what a whole run of the text writes, if the same events
-- find no memory.
abbrev pub ReadLeavesFront : Type 0
ReadLeavesFront = (c : ReplayChange) (whole_after : Concentrator) (text : List ℕ) (left : Option (List ℕ))
    (written : ℕ) (f : ReadFails c (Some text) left written)
    (lines : List Line) (answers : List (List (List ℕ))) (whole : Runs c.before lines answers whole_after) →
    IsScript text lines →
    IsFront (marked_of c.before f.lines f.answers c.after f.run)
    (marked_of c.before lines answers whole_after whole) →
    IsFront (flat_map text_of f.answers) (flat_map text_of answers)

-- So is what a failed write leaves.
abbrev pub WriteLeavesFront : Type 0
WriteLeavesFront = (c : ReplayChange) (whole_after : Concentrator) (text : List ℕ) (written : ℕ)
    (f : WriteFails c text written)
    (lines : List Line) (answers : List (List (List ℕ))) (whole : Runs c.before lines answers whole_after) →
    IsScript text lines →
    IsFront (marked_of c.before (f.stops.earlier ++ f.stops.last ∷ [])
    (f.stops.answers ++ f.stops.last_answers ∷ []) c.after f.stops.run)
    (marked_of c.before lines answers whole_after whole) →
    IsFront (flat_map text_of f.stops.answers ++ f.stops.part) (flat_map text_of answers)

-- What a failed flush leaves is all of it.
abbrev pub FlushLeavesAll : Type 0
FlushLeavesAll = (c : ReplayChange) (whole_after : Concentrator) (text : List ℕ) (written : ℕ)
    (f : FlushFails c text written)
    (lines : List Line) (answers : List (List (List ℕ))) (whole : Runs c.before lines answers whole_after) →
    IsScript text lines →
    IsFront (marked_of c.before f.lines f.answers c.after f.run)
    (marked_of c.before lines answers whole_after whole) →
    flat_map text_of f.answers ≡ flat_map text_of answers

-- What is delivered was sent, in lines. If a pair's own events are what arrives of an honest sender's
-- packets, at a record in Full Context, its lines are those of the headers and payloads that were sent.
abbrev pub LinesOfWhatWasSent : Type 0
LinesOfWhatWasSent = (r : Replay) (isolated : IsIsolated r) (p : Pair) (sender : Sender)
    (before : Record) (arrivals : List Arrived) →
    IsPair r.before p → record_at r.before p.link p.cid ≡ Some before →
    own_unmarked p.setting p.link p.cid isolated.marked ≡ events_of arrivals →
    IsHonestCall sender (settings_of p.setting p.cid) before arrivals →
    own_lines p.link p.cid r.written ≡ flat_map (response_lines p.link p.cid) (deliveries arrivals)
