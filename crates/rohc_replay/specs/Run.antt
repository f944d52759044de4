-- The run of a script, line by line. Words: RunsLine, Runs; marked_of; IsTally; ReplayChange; Replays; Work,
-- WriteOrFlushFails, ReplayFails.
use Rattle.std.specs.Prelude.{◌≡◌, ℕ, ◌-◌, ◌^◌, List, [], ◌∷◌, ◌++◌, Bool, true, false, not, count_by, min, length, ◌<◌, ◌⊎◌, Option, IfSome}
use Rattle.std.specs.List.{flat_map}
use Rattle.std.specs.Io.KnownBytes.{Appends, Consumes}
use Rattle.rohc_concentrator.specs.declared.concentrator.Concentrator.{Concentrator}
use Rattle.rohc_concentrator.specs.Report.{Report}
use Rattle.rohc_concentrator.specs.Events.{RunsEvent}
use Rattle.rohc_concentrator.specs.Isolation.{is_marked}
use Rattle.rohc_replay.specs.declared.tally.Tally.{Tally}
use Rattle.rohc_replay.specs.declared.fault.RunFault.{RunFault}
use Rattle.rohc_replay.specs.declared.fault.RunFault.TheVariants.{NoMemory, Read, Write}
use Rattle.rohc_replay.specs.Script.{Line, Good, Bad, Long, AreLines, lines_of, IsScript}
use Rattle.rohc_replay.specs.Offers.{TakesAll}
use Rattle.rohc_replay.specs.Lines.{Splits}
use Rattle.rohc_replay.specs.AnswerLines.{event_lines, bad_line, long_line, text_of}

-- one line: the concentrator before it, its answer lines, and the concentrator after it
abbrev pub RunsLine : Concentrator → Line → List (List ℕ) → Concentrator → Type 0
RunsLine old (Good event) answers new =
    (report : Option Report) × RunsEvent old event report new × (answers ≡ event_lines event report)
RunsLine old Bad answers new = (new ≡ old) × (answers ≡ bad_line ∷ [])
RunsLine old Long answers new = (new ≡ old) × (answers ≡ long_line ∷ [])

-- the lines in turn, with the answer lines of each
abbrev pub Runs : Concentrator → List Line → List (List (List ℕ)) → Concentrator → Type 0
Runs old [] [] new = new ≡ old
Runs old (line ∷ lines) (answers ∷ more) new =
    (mid : Concentrator) × RunsLine old line answers mid × Runs mid lines more new
Runs old [] (answers ∷ more) new = ⊥
Runs old (line ∷ lines) [] new = ⊥

-- the lines of a run, each with its mark: true if its event was answered `NoMemory`
abbrev pub marked_of : (old : Concentrator) (lines : List Line) (answers : List (List (List ℕ)))
    (new : Concentrator) → Runs old lines answers new → List (Line × Bool)
marked_of old [] answers new run = []
marked_of old (line ∷ lines) [] new run = []
marked_of old (Good e ∷ lines) (a ∷ more) new run =
    (Good e, is_marked run.1.0) ∷ marked_of run.0 lines more new run.2
marked_of old (Bad ∷ lines) (a ∷ more) new run = (Bad, false) ∷ marked_of run.0 lines more new run.2
marked_of old (Long ∷ lines) (a ∷ more) new run = (Long, false) ∷ marked_of run.0 lines more new run.2

-- the line is an event
abbrev pub is_good_line : Line → Bool
is_good_line (Good e) = true
is_good_line Bad = false
is_good_line Long = false

-- the numbers of good lines and of others, up to the greatest `u64`
pub record IsTally (lines : List Line) (t : Tally) : Type 0 where
  pub events : t.events ≡ min (count_by is_good_line lines) (2 ^ 64 - 1)
  pub bad : t.bad ≡ min (count_by (λ line. not (is_good_line line)) lines) (2 ^ 64 - 1)

-- what a replay changes: the concentrator, and the octets that the writer holds, both before and after
pub record ReplayChange : Type 0 where
  pub before : Concentrator
  pub after : Concentrator
  pub held : Option (List ℕ)
  pub holding : Option (List ℕ)

-- the change from one concentrator and one content of the writer to another
abbrev pub change : Concentrator → Option (List ℕ) → Concentrator → Option (List ℕ) → ReplayChange
change before held after holding =
    record { before = before; after = after; held = held; holding = holding }

-- A whole replay: the script of the text, its answer lines, which are all that was written, the tally, and
-- the concentrator after all events.
pub record Replays (c : ReplayChange) (text : List ℕ) (t : Tally) : Type 0 where
  pub lines : List Line
  pub answers : List (List (List ℕ))
  pub script : IsScript text lines
  pub run : Runs c.before lines answers c.after
  pub written : Appends c.held c.holding (flat_map text_of answers)
  pub tally : IsTally lines t

-- A read failed. Of the octets that were read before, the finished lines were run and answered, and the
-- writer took all their answers.
pub record ReadFails (c : ReplayChange) (unread left : Option (List ℕ)) (written : ℕ) : Type 0 where
  pub seen : List ℕ
  pub consumed : Consumes unread left seen
  pub finished : List (List ℕ)
  pub rest : List ℕ
  pub splits : Splits seen finished rest
  pub lines : List Line
  pub are_lines : AreLines finished lines
  pub answers : List (List (List ℕ))
  pub run : Runs c.before lines answers c.after
  pub taken : TakesAll c.held c.holding 0 written (flat_map text_of answers)

-- Lines were run one after the other. The writer took all answers of the lines before the last, and a part of
-- the last line's answers but not all.
pub record Stops (c : ReplayChange) (texts : List (List ℕ)) (written : ℕ) : Type 0 where
  pub earlier : List Line
  pub last : Line
  pub are_lines : AreLines texts (earlier ++ last ∷ [])
  pub answers : List (List (List ℕ))
  pub last_answers : List (List ℕ)
  pub run : Runs c.before (earlier ++ last ∷ []) (answers ++ last_answers ∷ []) c.after
  pub part : List ℕ
  pub rest : List ℕ
  pub parts : text_of last_answers ≡ part ++ rest
  pub some_left : 0 < length rest
  pub taken : TakesAll c.held c.holding 0 written (flat_map text_of answers ++ part)

-- A write failed, at one of the first lines of the text.
pub record WriteFails (c : ReplayChange) (text : List ℕ) (written : ℕ) : Type 0 where
  pub texts : List (List ℕ)
  pub others : List (List ℕ)
  pub first_lines : lines_of text ≡ texts ++ others
  pub stops : Stops c texts written

-- The flush failed: all lines were run, and all their answers taken.
pub record FlushFails (c : ReplayChange) (text : List ℕ) (written : ℕ) : Type 0 where
  pub lines : List Line
  pub script : IsScript text lines
  pub answers : List (List (List ℕ))
  pub run : Runs c.before lines answers c.after
  pub taken : TakesAll c.held c.holding 0 written (flat_map text_of answers)

-- what a write that failed leaves, or else a flush
abbrev pub WriteOrFlushFails : ReplayChange → List ℕ → ℕ → Type 0
WriteOrFlushFails c text written = WriteFails c text written ⊎ FlushFails c text written

-- what a replay works on
pub record Work (R W : Type 0) : Type 0 where
  pub concentrator : Concentrator
  pub reader : R
  pub writer : W

-- the change by a replay, if the octets that the writer holds are known
abbrev pub change_of : {R W : Type 0} → (W → Option (List ℕ)) → Work R W → Work R W → ReplayChange
change_of contents old new =
    change old.concentrator (contents old.writer) new.concentrator (contents new.writer)

-- What each fault leaves, if the reader's octets are known too. Without memory nothing is changed.
abbrev pub ReplayFails : {R W : Type 0} → (R → Option (List ℕ)) → (W → Option (List ℕ))
    → Work R W → RunFault → Work R W → Type 0
ReplayFails remaining contents old NoMemory new = new ≡ old
ReplayFails remaining contents old (Read written) new =
    ReadFails (change_of contents old new) (remaining old.reader) (remaining new.reader) written
ReplayFails remaining contents old (Write written) new =
    let c : ReplayChange = change_of contents old new in
    IfSome (remaining old.reader) (λ text. WriteFails c text written ⊎ FlushFails c text written)
