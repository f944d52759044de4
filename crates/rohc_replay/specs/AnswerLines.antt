-- The lines that answer an event, without their newlines. Words: response_lines, report_lines, event_lines;
-- text_of, lines with their newlines.
use Rattle.std.specs.Prelude.{ℕ, List, [], ◌∷◌, ◌++◌, map, Option, Some, None, codes}
use Rattle.std.specs.List.{flat_map}
use Rattle.std.specs.Fmt.{decimal}
use Rattle.rohc_context.specs.Refusal.{name_of}
use Rattle.rohc_context.specs.declared.refusal.Refusal.{Refusal}
use Rattle.rohc_context.specs.declared.reply.Outcome.{Outcome}
use Rattle.rohc_context.specs.declared.reply.Outcome.TheVariants as outcomes
use Rattle.rohc_context.specs.Response.{Response, Packet}
use Rattle.rohc_concentrator.specs.Report.{Report, Arrived, OnlyFront, Refused}
use Rattle.rohc_concentrator.specs.Events.{Event, Arrive, Reset}
use Rattle.rohc_replay.specs.Script.{hex_text}

-- a link and a CID, with which an answer line starts
abbrev pub pair_text : ℕ → ℕ → List ℕ
pair_text link cid = decimal link ++ codes " " ++ decimal cid ++ codes " "

-- feedback in the packet, for this side's compressor
abbrev pub relay_line : ℕ → List ℕ → List ℕ
relay_line link feedback = decimal link ++ codes " - relay " ++ hex_text feedback

-- a refusal without a CID
abbrev pub link_refusal : ℕ → Refusal → List ℕ
link_refusal link refusal = decimal link ++ codes " - refused " ++ name_of refusal

-- the IP packet, if there is one
abbrev pub packet_lines : ℕ → ℕ → Option Packet → List (List ℕ)
packet_lines link cid None = []
packet_lines link cid (Some p) = (pair_text link cid ++ codes "ip " ++ hex_text (p.head ++ p.payload)) ∷ []

-- `stored`, if that is the outcome
abbrev pub stored_lines : ℕ → ℕ → Outcome → List (List ℕ)
stored_lines link cid outcomes.Stored = (pair_text link cid ++ codes "stored") ∷ []
stored_lines link cid outcomes.Delivered = []
stored_lines link cid (outcomes.Refused refusal) = []

-- the feedback to be sent, if there is some
abbrev pub feedback_lines : ℕ → ℕ → Option (List ℕ) → List (List ℕ)
feedback_lines link cid None = []
feedback_lines link cid (Some element) = (pair_text link cid ++ codes "feedback " ++ hex_text element) ∷ []

-- the refusal, if there is one
abbrev pub refused_lines : ℕ → ℕ → Outcome → List (List ℕ)
refused_lines link cid (outcomes.Refused refusal) =
    (pair_text link cid ++ codes "refused " ++ name_of refusal) ∷ []
refused_lines link cid outcomes.Delivered = []
refused_lines link cid outcomes.Stored = []

-- the reply of a context: the packet, `stored`, the feedback and the refusal, each if there is one
abbrev pub response_lines : ℕ → ℕ → Response → List (List ℕ)
response_lines link cid r =
    packet_lines link cid r.packet ++ stored_lines link cid r.outcome
    ++ feedback_lines link cid r.feedback ++ refused_lines link cid r.outcome

-- the answer to an arrival: the relayed feedback, and then the reply
abbrev pub report_lines : ℕ → Report → List (List ℕ)
report_lines link (Arrived cid response relayed) =
    map (relay_line link) relayed ++ response_lines link cid response
report_lines link (OnlyFront relayed) = map (relay_line link) relayed
report_lines link (Refused refusal) = link_refusal link refusal ∷ []

-- the link of an event
abbrev pub link_of : Event → ℕ
link_of (Arrive link moment octets) = link
link_of (Reset link) = link

-- the answer to an event, if it has one
abbrev pub event_lines : Event → Option Report → List (List ℕ)
event_lines event None = []
event_lines event (Some report) = report_lines (link_of event) report

-- the answer to a line that isn't an event
abbrev pub bad_line : List ℕ
bad_line = codes "- - refused BadLine"

-- the answer to a line that is too long
abbrev pub long_line : List ℕ
long_line = codes "- - refused LongLine"

-- lines as a text
abbrev pub text_of : List (List ℕ) → List ℕ
text_of lines = flat_map (λ line. line ++ 10 ∷ []) lines
