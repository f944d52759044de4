-- Isolation: the answer lines for one CID of one link, whatever comes under the others. Words: IsPair,
-- Replay; own_unmarked, a pair's own events; pair_lines, own_lines; IsToldAll, IsToldAlone,
-- IsToldAlike; Isolates.
use Rattle.std.specs.Prelude.{◌≡◌, ℕ, ◌^◌, ◌<◌, List, [], ◌∷◌, ◌++◌, map, filter, Bool, true, false, not, ◌==◌, ◌&&◌, Option, Some, None, codes}
use Rattle.std.specs.List.{flat_map}
use Rattle.std.specs.Str.{bytes_eq}
use Rattle.std.specs.Io.KnownBytes.{Appends}
use Rattle.rohc_context.specs.Response.{Response}
use Rattle.rohc_concentrator.specs.declared.concentrator.Concentrator.{Concentrator}
use Rattle.rohc_concentrator.specs.declared.setting.LinkSetting.{LinkSetting}
use Rattle.rohc_concentrator.specs.Setting.{settings_of}
use Rattle.rohc_concentrator.specs.Tables.{setting_at, record_at}
use Rattle.rohc_concentrator.specs.LoneRun.{LoneEvent, LoneRun, MarkedRun, unmarked}
use Rattle.rohc_concentrator.specs.Isolation.{Pair, own_event}
use Rattle.rohc_replay.specs.Script.{Line, Good, Bad, Long, IsScript, lines_of}
use Rattle.rohc_replay.specs.AnswerLines.{pair_text, response_lines, text_of}

-- the link and the CID have 16 bits, and the concentrator has the link with this setting
pub record IsPair (k : Concentrator) (p : Pair) : Type 0 where
  pub link_fits : p.link < 2 ^ 16
  pub cid_fits : p.cid < 2 ^ 16
  pub set : setting_at k p.link ≡ Some p.setting

-- a replay from outside: the concentrator before it and after it, what was read, and what was written
pub record Replay : Type 0 where
  pub before : Concentrator
  pub after : Concentrator
  pub text : List ℕ
  pub written : List ℕ

-- a line of a script as a CID of a link sees it: what its event is; a bad or a long line is no event
abbrev pub own_line : LinkSetting → ℕ → ℕ → Line → List LoneEvent
own_line s l c (Good e) = own_event s l c e
own_line s l c Bad = []
own_line s l c Long = []

-- the pair's own events in their order, each with the mark of its line: true if it found no memory
abbrev pub own_marked : LinkSetting → ℕ → ℕ → List (Line × Bool) → List (LoneEvent × Bool)
own_marked s l c [] = []
own_marked s l c ((line, mark) ∷ marked) =
    map (λ event. (event, mark)) (own_line s l c line) ++ own_marked s l c marked

-- the pair's own events without the marked ones
abbrev pub own_unmarked : LinkSetting → ℕ → ℕ → List (Line × Bool) → List LoneEvent
own_unmarked s l c marked = unmarked (own_marked s l c marked)

-- the text starts with these octets
abbrev pub begins_with : List ℕ → List ℕ → Bool
begins_with [] text = true
begins_with (o ∷ os) [] = false
begins_with (o ∷ os) (p ∷ ps) = (o == p) && begins_with os ps

-- a line of the pair starts with the link, a space, the CID and a space
abbrev pub is_pair_line : ℕ → ℕ → List ℕ → Bool
is_pair_line l c line = begins_with (pair_text l c) line

-- the lines of a pair in a text
abbrev pub pair_lines : ℕ → ℕ → List ℕ → List (List ℕ)
pair_lines l c text = filter (is_pair_line l c) (lines_of text)

-- a line of the pair, except the one that reports lack of memory
abbrev pub is_own_line : ℕ → ℕ → List ℕ → Bool
is_own_line l c line =
    is_pair_line l c line && not (bytes_eq (pair_text l c ++ codes "refused NoMemory") line)

-- the lines of a pair in a text without those that report lack of memory
abbrev pub own_lines : ℕ → ℕ → List ℕ → List (List ℕ)
own_lines l c text = filter (is_own_line l c) (lines_of text)

-- All that a replay answered to one pair, lack of memory included: the replies of one context over the pair's
-- own events. An event is marked exactly if its reply is `NoMemory`, and only an accepted first IR may be.
pub record IsToldAll (r : Replay) (marked : List (Line × Bool)) (p : Pair) : Type 0 where
  pub replies : List Response
  pub run : MarkedRun (settings_of p.setting p.cid) (record_at r.before p.link p.cid)
      (own_marked p.setting p.link p.cid marked) replies (record_at r.after p.link p.cid)
  pub told : pair_lines p.link p.cid r.written ≡ flat_map (response_lines p.link p.cid) replies

-- What a replay answered to one pair, lack of memory aside: the replies of one context, run alone under the
-- link's settings for the CID, over the pair's own events, from its record before to its record after.
pub record IsToldAlone (r : Replay) (own_events : List LoneEvent) (p : Pair) : Type 0 where
  pub replies : List Response
  pub run : LoneRun (settings_of p.setting p.cid) (record_at r.before p.link p.cid)
      own_events replies (record_at r.after p.link p.cid)
  pub told : own_lines p.link p.cid r.written ≡ flat_map (response_lines p.link p.cid) replies

-- a line is kept if it is the pair's own and isn't marked
abbrev pub left_of : {X : Type 0} → List LoneEvent → Bool → X → List X
left_of [] mark x = []
left_of (event ∷ events) true x = []
left_of (event ∷ events) false x = x ∷ []

-- The lines of a script without every other arrival, every other link's reset, every bad or long line and
-- every marked arrival.
abbrev pub lines_left : LinkSetting → ℕ → ℕ → List (List ℕ) → List (Line × Bool) → List (List ℕ)
lines_left s l c [] marked = []
lines_left s l c (octets ∷ texts) [] = []
lines_left s l c (octets ∷ texts) ((line, mark) ∷ marked) =
    left_of (own_line s l c line) mark octets ++ lines_left s l c texts marked

-- The pair got what the script of these lines alone answers. None of them is marked.
pub record IsToldAlike (r : Replay) (marked : List (Line × Bool)) (p : Pair) : Type 0 where
  pub lines : List Line
  pub script : IsScript (text_of (lines_left p.setting p.link p.cid (lines_of r.text) marked)) lines
  pub alike : IsToldAlone r (flat_map (own_line p.setting p.link p.cid) lines) p

-- Isolation, for all pairs at once: the script's lines, each with its mark, and what was answered to each
-- pair. The settings of each link stay, and a pair of a link that isn't there gets no line.
pub record IsIsolated (r : Replay) : Type 0 where
  pub marked : List (Line × Bool)
  pub script : IsScript r.text (map (λ (m : Line × Bool). m.0) marked)
  pub answered : (p : Pair) → IsPair r.before p → IsToldAll r marked p
  pub alone : (p : Pair) → IsPair r.before p → IsToldAlone r (own_unmarked p.setting p.link p.cid marked) p
  pub taken_out : (p : Pair) → IsPair r.before p → IsToldAlike r marked p
  pub settings : (l : ℕ) → setting_at r.after l ≡ setting_at r.before l
  pub absent : (l c : ℕ) → l < 2 ^ 16 → c < 2 ^ 16 → setting_at r.before l ≡ None →
      pair_lines l c r.written ≡ []

-- A replay isolates: each CID of each link gets the answers of one context run alone.
abbrev pub Isolates : Concentrator → List ℕ → Option (List ℕ) → Option (List ℕ) → Concentrator → Type 0
Isolates old text held holding new =
    (written : List ℕ) × Appends held holding written
    × IsIsolated (record { before = old; after = new; text = text; written = written })
