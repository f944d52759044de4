-- Laws over calls. Words: IsFitCall, IsFitTurn; SameAnswers, CutCalls; is_refused_call, NoTraceOfCalls.
use Rattle.std.specs.Prelude.{◌≡◌, ℕ, ◌<◌, ◌^◌, List, ◌++◌, All, Bool, true, false, None}
use Rattle.std.specs.List.{AllByRecursion}
use Rattle.rohc_frame.specs.Laws.{IsOctet}
use Rattle.rohc_concentrator.specs.declared.concentrator.Concentrator.{Concentrator}
use Rattle.rohc_concentrator.specs.Tables.{setting_at, record_at}
use Rattle.rohc_concentrator.specs.Report.{is_refused}
use Rattle.rohc_concentrator.specs.Seen.{seen_at}
use Rattle.rohc_concentrator.specs.Calls.{Call, Arrive, AddLink, ChangeLink, CallAnswer, Reported, Done}
use Rattle.rohc_concentrator.specs.RunsCall.{RunsCall, Turn, Runs}
use Rattle.rohc_concentrator.specs.OwnCalls.{calls_to, answers_to}

-- the arrival time has 64 bits, the packet consists of octets, and a setting names the link, whose number has
-- 16 bits
abbrev pub IsFitCall : (link : ℕ) → Call → Type 0
IsFitCall link (Arrive moment octets) = (moment < 2 ^ 64) × All IsOctet octets
IsFitCall link (AddLink s) = (s.link ≡ link) × (link < 65536)
IsFitCall link (ChangeLink s) = s.link ≡ link
IsFitCall link e = Unit {0}

abbrev pub IsFitTurn : Turn → Type 0
IsFitTurn t = IsFitCall t.link t.call

-- Let two runs begin alike for a CID, and let it see the same calls in both, whatever else comes. Then it
-- gets the same answers, lack of memory and too many links aside, and both end alike for it.
abbrev pub SameAnswers : Type 0
SameAnswers = (a b after_a after_b : Concentrator) (xs ys : List Turn) (l c : ℕ) →
    seen_at a l c ≡ seen_at b l c → AllByRecursion IsFitTurn xs →
    Runs a xs after_a → Runs b ys after_b → calls_to l c a xs ≡ calls_to l c b ys →
    (answers_to l c a xs ≡ answers_to l c b ys) × (seen_at after_a l c ≡ seen_at after_b l c)

-- A run is cut anywhere, and another goes on from what a CID saw at the cut, with its calls behind it. Then
-- the CID gets from both together the answers of the whole run, and sees in the end what the whole run
-- leaves.
abbrev pub CutCalls : Type 0
CutCalls = (k after : Concentrator) (front behind : List Turn) → Runs k (front ++ behind) after →
    AllByRecursion IsFitTurn behind →
    (cut : Concentrator) × Runs k front cut × ((b after_b : Concentrator) (ys : List Turn) (l c : ℕ) →
    seen_at cut l c ≡ seen_at b l c → Runs b ys after_b → calls_to l c cut behind ≡ calls_to l c b ys →
    (answers_to l c k (front ++ behind) ≡ answers_to l c k front ++ answers_to l c b ys)
    × (seen_at after l c ≡ seen_at after_b l c))

-- a call is refused
abbrev pub is_refused_call : CallAnswer → Bool
is_refused_call (Reported report) = is_refused report
is_refused_call Done = false
is_refused_call a = true

-- No trace: a call that is refused makes no record where there was none, and changes no setting.
abbrev pub NoTraceOfCalls : Type 0
NoTraceOfCalls = (old new : Concentrator) (link : ℕ) (e : Call) (a : CallAnswer) →
    RunsCall old link e a new → is_refused_call a ≡ true →
    ((l : ℕ) → setting_at new l ≡ setting_at old l)
    × ((l c : ℕ) → record_at old l c ≡ None → record_at new l c ≡ None)
