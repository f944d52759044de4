-- Isolation of a link: what a run answers to all its CIDs, and to its packets without a CID. Words:
-- turns_on, LinkRun; IsolatedLinks, SameLinks.
use Rattle.std.specs.Prelude.{◌≡◌, ℕ, List, [], ◌∷◌, map, filter, false, not, ◌&&◌, ◌==◌}
use Rattle.std.specs.List.{AllByRecursion}
use Rattle.rohc_concentrator.specs.declared.concentrator.Concentrator.{Concentrator}
use Rattle.rohc_concentrator.specs.Seen.{View, view_at}
use Rattle.rohc_concentrator.specs.Calls.{Call, CallAnswer, is_poor}
use Rattle.rohc_concentrator.specs.RunsCall.{LinkStep, Turn, Runs}
use Rattle.rohc_concentrator.specs.CallLaws.{IsFitTurn}

-- the turns of a link that weren't refused for what others hold
abbrev pub turns_on : ℕ → List Turn → List Turn
turns_on l turns = filter (λ (t : Turn). t.link == l && not (is_poor t.answer)) turns

abbrev pub calls_on : ℕ → List Turn → List Call
calls_on l turns = map (λ (t : Turn). t.call) (turns_on l turns)

abbrev pub answers_on : ℕ → List Turn → List CallAnswer
answers_on l turns = map (λ (t : Turn). t.answer) (turns_on l turns)

-- a link, run alone over calls
abbrev pub LinkRun : View → List Call → List CallAnswer → View → Type 0
LinkRun v [] [] w = w ≡ v
LinkRun v [] (a ∷ answers) w = ⊥
LinkRun v (e ∷ calls) [] w = ⊥
LinkRun v (e ∷ calls) (a ∷ answers) w =
    (mid : View) × LinkStep v e a mid × (is_poor a ≡ false) × LinkRun mid calls answers w

-- Every run of calls isolates each link: its answers, lack of memory and too many links aside, are those of
-- the link run alone.
abbrev pub IsolatedLinks : Type 0
IsolatedLinks = (old new : Concentrator) (turns : List Turn) → Runs old turns new → (l : ℕ) →
    LinkRun (view_at old l) (calls_on l turns) (answers_on l turns) (view_at new l)

-- Let two runs begin alike for a link, with the same calls for it, lack of memory and too many links aside.
-- Then both answer all of them alike, and end alike for it.
abbrev pub SameLinks : Type 0
SameLinks = (a b after_a after_b : Concentrator) (xs ys : List Turn) (l : ℕ) →
    view_at a l ≡ view_at b l → AllByRecursion IsFitTurn xs →
    Runs a xs after_a → Runs b ys after_b → calls_on l xs ≡ calls_on l ys →
    (answers_on l xs ≡ answers_on l ys) × (view_at after_a l ≡ view_at after_b l)
