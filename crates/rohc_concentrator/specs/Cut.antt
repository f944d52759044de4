-- A run that is cut: another concentrator goes on behind the cut. Words: GoesOn, CutRun.
use Rattle.std.specs.Prelude.{◌≡◌, ℕ, List, ◌++◌, filter, Option}
use Rattle.std.specs.List.{AllByRecursion}
use Rattle.rohc_concentrator.specs.declared.concentrator.Concentrator.{Concentrator}
use Rattle.rohc_concentrator.specs.Tables.{record_at}
use Rattle.rohc_concentrator.specs.Report.{Report}
use Rattle.rohc_concentrator.specs.Events.{Event, RunsEvents}
use Rattle.rohc_concentrator.specs.LoneRun.{unmarked}
use Rattle.rohc_concentrator.specs.Isolation.{EventRun, own_events, own_replies, is_rich}
use Rattle.rohc_concentrator.specs.Laws.{Agree, IsFit}

-- Another run goes on for a CID of a link from where a run was cut: its concentrator agrees on the CID with
-- what was kept there, and its own events are those that came behind the cut, without a mark.
pub record GoesOn (cut : Concentrator) (behind : List (Event × Option Report)) (other : EventRun) (l c : ℕ) :
    Type 0 where
  pub agree : Agree cut other.before l c
  pub fit : AllByRecursion (λ (turn : Event × Option Report). IsFit turn.0) behind
  pub runs : RunsEvents other.before other.turns other.after
  pub same : unmarked (own_events agree.here l c behind) ≡ unmarked (own_events agree.there l c other.turns)

-- A run is cut anywhere, and another goes on. Then the CID gets from both together the replies of the whole
-- run, lack of memory aside, and has the record that the whole run leaves.
abbrev pub CutRun : Type 0
CutRun = (whole : EventRun) (front behind : List (Event × Option Report)) →
    RunsEvents whole.before whole.turns whole.after → whole.turns ≡ front ++ behind →
    (cut : Concentrator) × RunsEvents whole.before front cut ×
    ((other : EventRun) (l c : ℕ) → GoesOn cut behind other l c →
    (filter is_rich (own_replies l c whole.turns)
    ≡ filter is_rich (own_replies l c front ++ own_replies l c other.turns))
    × (record_at whole.after l c ≡ record_at other.after l c))
