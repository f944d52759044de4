-- The answer to an arrival. Words: report_of; OwnStep; IsPoor (lack of memory); IsAnswered.
use Rattle.std.specs.Prelude.{◌≡◌, ℕ, List, Bool, true, false, Option, Some, None, Result, Ok, Err, ◌⊎◌}
use Rattle.rohc_frame.specs.Header.{Header}
use Rattle.rohc_frame.specs.Reading.{Reading, elements_of}
use Rattle.rohc_frame.specs.Parts.{parts_of}
use Rattle.rohc_frame.specs.declared.refusal.FrameRefusal.{FrameRefusal}
use Rattle.rohc_context.specs.declared.refusal.Refusal.{Refusal}
use Rattle.rohc_context.specs.declared.refusal.Refusal.TheVariants as refusals
use Rattle.rohc_context.specs.declared.reply.Outcome.{Outcome}
use Rattle.rohc_context.specs.declared.reply.Outcome.TheVariants as outcomes
use Rattle.rohc_context.specs.declared.settings.Settings.{Settings}
use Rattle.rohc_context.specs.Framing.{refusal_of_framing}
use Rattle.rohc_context.specs.Record.{Record}
use Rattle.rohc_context.specs.Response.{Response, response_of, refused}
use Rattle.rohc_context.specs.Step.{LoneStep}
use Rattle.rohc_concentrator.specs.declared.setting.LinkSetting.{LinkSetting}
use Rattle.rohc_concentrator.specs.declared.answer.Answer.{Answer}
use Rattle.rohc_concentrator.specs.declared.answer.Answer.TheVariants as answers
use Rattle.rohc_concentrator.specs.Setting.{settings_of}

-- An answer, apart from where its octets lie in memory. With a CID it is the response of that CID's context;
-- without, there was padding and feedback alone, or the packet is refused. The lists are relayed feedback.
pub data Report : Type 0 where
  Arrived : ℕ → Response → List (List ℕ) → Report
  OnlyFront : List (List ℕ) → Report
  Refused : Refusal → Report

-- the answer of the code as a report
abbrev pub report_of : Answer → Report
report_of (answers.Arrived cid reply relayed) = Arrived cid (response_of reply) (elements_of relayed)
report_of (answers.OnlyFront relayed) = OnlyFront (elements_of relayed)
report_of (answers.Refused refusal) = Refused refusal

-- A first IR that the lone step would accept finds no memory: nothing changes.
abbrev pub IsPoor : Settings → ℕ → Header → Option Record → Response → Option Record → Type 0
IsPoor s moment h before response next =
    (before ≡ None) × (next ≡ None) × (response ≡ refused refusals.NoMemory)
    × ((accepted : Response) × (r : Record) × LoneStep None s moment h accepted (Some r))

-- one arrival for a CID: the lone step of its record, or lack of memory
abbrev pub OwnStep : Settings → ℕ → Header → Option Record → Response → Option Record → Type 0
OwnStep s moment h before response next =
    LoneStep before s moment h response next ⊎ IsPoor s moment h before response next

-- one arrival with a header: the answer is the own step of its CID, and only that record may change
abbrev pub IsArrival : LinkSetting → ℕ → Header → List (List ℕ) → (ℕ → Option Record)
    → Report → (ℕ → Option Record) → Type 0
IsArrival s moment h relayed before report after =
    (response : Response) × (report ≡ Arrived h.cid response relayed)
    × OwnStep (settings_of s h.cid) moment h (before h.cid) response (after h.cid)

-- a packet that was split into its parts: padding and feedback alone, or a header too
abbrev pub IsCut : LinkSetting → ℕ → List (List ℕ) → Option Header → (ℕ → Option Record)
    → Report → (ℕ → Option Record) → Type 0
IsCut s moment relayed None before report after = report ≡ OnlyFront relayed
IsCut s moment relayed (Some h) before report after = IsArrival s moment h relayed before report after

-- a packet on a link: by its one reading or its one refusal
abbrev pub IsRead : LinkSetting → ℕ → Result Reading FrameRefusal → (ℕ → Option Record)
    → Report → (ℕ → Option Record) → Type 0
IsRead s moment (Err refusal) before report after = report ≡ Refused (refusal_of_framing refusal)
IsRead s moment (Ok reading) before report after =
    IsCut s moment reading.elements reading.header before report after

-- The answer to an arrival, by the link's setting if it is there, the records of its CIDs before, the arrival
-- time and the packet, and those records after.
abbrev pub IsAnswered : Option LinkSetting → (ℕ → Option Record) → ℕ → List ℕ
    → Report → (ℕ → Option Record) → Type 0
IsAnswered None before moment octets report after = report ≡ Refused refusals.NoLink
IsAnswered (Some s) before moment octets report after =
    IsRead s moment (parts_of s.settings.size s.settings.max_cid octets) before report after

-- the outcome is the refusal `NoMemory`
abbrev pub is_no_memory : Outcome → Bool
is_no_memory (outcomes.Refused refusals.NoMemory) = true
is_no_memory outcome = false

-- the answer to an arrival is `NoMemory`
abbrev pub wants_memory : Report → Bool
wants_memory (Arrived cid response relayed) = is_no_memory response.outcome
wants_memory (OnlyFront relayed) = false
wants_memory (Refused refusal) = false

-- the outcome is a refusal
abbrev pub is_refusal : Outcome → Bool
is_refusal (outcomes.Refused refusal) = true
is_refusal outcomes.Delivered = false
is_refusal outcomes.Stored = false

-- the answer to an arrival is a refusal
abbrev pub is_refused : Report → Bool
is_refused (Arrived cid response relayed) = is_refusal response.outcome
is_refused (OnlyFront relayed) = false
is_refused (Refused refusal) = true
