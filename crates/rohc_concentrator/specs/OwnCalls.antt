-- Isolation over calls: what a run answers to one CID of one link. Words: own_calls; MarkedCalls, rich;
-- LoneCalls; IsIsolated, IsolatedCalls.
use Rattle.std.specs.Prelude.{◌≡◌, ℕ, List, [], ◌∷◌, map, filter, not, ◌==◌, Option, Some, None, if◌then◌else◌}
use Rattle.rohc_concentrator.specs.declared.concentrator.Concentrator.{Concentrator}
use Rattle.rohc_concentrator.specs.declared.setting.LinkSetting.{LinkSetting}
use Rattle.rohc_concentrator.specs.Tables.{setting_at}
use Rattle.rohc_concentrator.specs.Seen.{Seen, seen_at}
use Rattle.rohc_concentrator.specs.Calls.{CallAnswer, is_poor, LoneCall, lone_call, LoneAnswer, lone_answer}
use Rattle.rohc_concentrator.specs.Owns.{Makes, Owns}
use Rattle.rohc_concentrator.specs.RunsCall.{setting_made, Turn, Runs}

-- a CID's own call with its answer
abbrev pub Own : Type 0
Own = LoneCall × CallAnswer

-- a call, if it concerns the CID, and then others
abbrev pub own_more : Option LoneCall → CallAnswer → List Own → List Own
own_more None a own = own
own_more (Some e) a own = (e, a) ∷ own

-- its own calls in their order, from its link's setting on
abbrev pub own_calls : (l c : ℕ) → Option LinkSetting → List Turn → List Own
own_calls l c set [] = []
own_calls l c set (t ∷ turns) =
    if t.link == l
    then own_more (lone_call c t.call t.answer set) t.answer
    (own_calls l c (setting_made t.call t.answer set) turns)
    else own_calls l c set turns

-- a context with its settings over calls, some of which are refused for what others hold
abbrev pub MarkedCalls : ℕ → Option Seen → List Own → Option Seen → Type 0
MarkedCalls c before [] after = after ≡ before
MarkedCalls c before ((e, a) ∷ own) after =
    (mid : Option Seen) × Owns c e before a mid × MarkedCalls c mid own after

-- the calls that weren't refused for what others hold
abbrev pub rich : List Own → List Own
rich own = filter (λ (o : Own). not (is_poor o.1)) own

abbrev pub calls_of : List Own → List LoneCall
calls_of own = map (λ (o : Own). o.0) own

abbrev pub answers_of : List Own → List LoneAnswer
answers_of own = map (λ (o : Own). lone_answer o.1) own

-- a context with its settings, run alone over calls
abbrev pub LoneCalls : ℕ → Option Seen → List LoneCall → List LoneAnswer → Option Seen → Type 0
LoneCalls c before [] [] after = after ≡ before
LoneCalls c before [] (a ∷ answers) after = ⊥
LoneCalls c before (e ∷ calls) [] after = ⊥
LoneCalls c before (e ∷ calls) (a ∷ answers) after =
    (mid : Option Seen) × Makes c e before a mid × LoneCalls c mid calls answers after

-- the calls that a CID sees of a run from this concentrator, and their answers
abbrev pub calls_to : (l c : ℕ) → Concentrator → List Turn → List LoneCall
calls_to l c k turns = calls_of (rich (own_calls l c (setting_at k l) turns))

abbrev pub answers_to : (l c : ℕ) → Concentrator → List Turn → List LoneAnswer
answers_to l c k turns = answers_of (rich (own_calls l c (setting_at k l) turns))

-- What a run makes of one CID is what its own calls make of one context, some of them refused for what
-- others hold. Without these, its answers are those of the context run alone. Both lead from what it saw
-- before the run to what it sees after it.
pub record IsIsolated (old new : Concentrator) (turns : List Turn) (l c : ℕ) : Type 0 where
  pub marked : MarkedCalls c (seen_at old l c) (own_calls l c (setting_at old l) turns) (seen_at new l c)
  pub alone : LoneCalls c (seen_at old l c) (calls_to l c old turns) (answers_to l c old turns)
      (seen_at new l c)

-- Every run of calls, whatever they are, isolates each CID of each link.
abbrev pub IsolatedCalls : Type 0
IsolatedCalls = (old new : Concentrator) (turns : List Turn) → Runs old turns new →
    (l c : ℕ) → IsIsolated old new turns l c
