-- A run over the records of a capture. Words: Arrival, arrivals_of; Turn; Runs; IsLed, OfReading;
-- Decompresses, Stops.
use Rattle.std.specs.Prelude.{◌≡◌, ◌≢◌, ℕ, ◌/◌, List, [], ◌∷◌, ◌++◌, map, Bool, Option, Some, None, IfSome, Result, Ok, Err}
use Rattle.std.specs.List.{flat_map}
use Rattle.std.specs.Io.KnownBytes.{Appends}
use Rattle.rohc_concentrator.specs.Report.{Report}
use Rattle.rohc_concentrator.specs.Events.{Event, Arrive, RunsEvents}
use Rattle.rohc_concentrator.specs.Isolation.{EventRun, IsIsolatedRun}
use Rattle.rohc_capture.specs.declared.fault.FrameFault.{FrameFault}
use Rattle.rohc_capture.specs.declared.fault.CaptureFault.{CaptureFault}
use Rattle.rohc_capture.specs.declared.fault.FaultKind.TheVariants.{Read}
use Rattle.rohc_capture.specs.declared.choice.Rule.{Rule}
use Rattle.rohc_capture.specs.declared.framing.Framing.{Framing}
use Rattle.rohc_capture.specs.declared.reader.Kind.{Kind}
use Rattle.rohc_capture.specs.declared.reader.Record.{Record}
use Rattle.rohc_capture.specs.declared.writer.Format.{Format}
use Rattle.rohc_capture.specs.Choice.{packet_in}
use Rattle.rohc_capture.specs.Records.{Entry, Standing, standing, Leads, Holds}
use Rattle.rohc_decompress.specs.declared.run.Bulk.{Bulk}
use Rattle.rohc_decompress.specs.declared.fault.BulkFault.{BulkFault}
use Rattle.rohc_decompress.specs.declared.fault.BulkFault.TheVariants.{Capture, Write}
use Rattle.rohc_decompress.specs.Written.{packet_text, feedback_text, packet_of, feedback_of, Work}

-- a packet that arrives on a link, with the nanosecond of its frame
pub record Arrival : Type 0 where
  pub link : ℕ
  pub nanos : ℕ
  pub packet : List ℕ

-- what a frame carries, if a rule speaks of it
abbrev pub arrival_of : ℕ → Result (Option (ℕ × List ℕ)) FrameFault → List Arrival
arrival_of nanos (Ok (Some (link, packet))) = record { link = link; nanos = nanos; packet = packet } ∷ []
arrival_of nanos (Ok None) = []
arrival_of nanos (Err fault) = []

abbrev pub arrival_in : List Rule → Framing → Entry → List Arrival
arrival_in rules framing e =
    arrival_of e.nanos (packet_in rules framing e.link_type e.original e.frame)

-- the arrivals in the records of a capture, in their order
abbrev pub arrivals_in : List Rule → Framing → List Entry → List Arrival
arrivals_in rules framing [] = []
arrivals_in rules framing (e ∷ es) = arrival_in rules framing e ++ arrivals_in rules framing es

-- an arrival and its answer
pub record Turn : Type 0 where
  pub arrival : Arrival
  pub report : Report

-- the arrival at its moment in milliseconds, with its answer
abbrev pub event_of : Turn → Event × Option Report
event_of t = (Arrive t.arrival.link (t.arrival.nanos / 1000000) t.arrival.packet, Some t.report)

-- the octets that are written of the packet that the answer delivers
abbrev pub turn_packet : Format → Bool → Turn → List ℕ
turn_packet format padded t = packet_text format padded t.arrival.nanos (packet_of t.report)

-- the octets that are written of the feedback of the answer
abbrev pub turn_feedback : Format → Turn → List ℕ
turn_feedback format t = feedback_text format t.arrival.link t.arrival.nanos (feedback_of t.report)

-- How a capture is run: the rules, how packets lie in frames, the form of what is written, and whether
-- padding is cut.
pub record How : Type 0 where
  pub rules : List Rule
  pub framing : Framing
  pub format : Format
  pub padded : Bool

abbrev pub how : Bulk → How
how bulk = record {
  rules = bulk.rules.now;
  framing = bulk.framing;
  format = bulk.format;
  padded = bulk.padded;
}

-- The arrivals in these records come one after another, each at its time. What the concentrator answers is
-- written, and nothing else.
pub record Runs (how : How) (es : List Entry) (old new : Work) : Type 0 where
  pub turns : List Turn
  pub arrivals : map (λ (t : Turn). t.arrival) turns ≡ arrivals_in how.rules how.framing es
  pub run : RunsEvents old.concentrator (map event_of turns) new.concentrator
  pub packets : Appends old.packets new.packets (flat_map (turn_packet how.format how.padded) turns)
  pub feedback : Appends old.feedback new.feedback (flat_map (turn_feedback how.format) turns)

-- the run from outside, for the concentrator
abbrev pub event_run : {how : How} {es : List Entry} {old new : Work} → Runs how es old new → EventRun
event_run {how} {es} {old} {new} r =
    record { before = old.concentrator; after = new.concentrator; turns = map event_of r.turns }

-- a capture was read up to here
abbrev pub IsLed : Option Standing → List Entry → Kind → ℕ → Option (List ℕ) → Type 0
IsLed s es kind place rest =
    IfSome s (λ (s : Standing). (text : List ℕ) × (rest ≡ Some text) × Leads s es (standing kind place text))

-- a record that was read, the end, or a fault of the capture; of a failed write nothing is said
abbrev pub OfReading : (Result (Option Record) CaptureFault → Type 0) → Result (Option Record) BulkFault →
    Type 0
OfReading P (Ok found) = P (Ok found)
OfReading P (Err (Capture fault)) = P (Err fault)
OfReading P (Err Write) = Unit {0}

-- A capture is run to its end: its records are these, where its octets are known. Each CID of each link gets
-- the answers of one context run alone.
pub record Decompresses (how : How) (s : Option Standing) (ending : Result Unit CaptureFault)
    (old new : Work) : Type 0 where
  pub records : List Entry
  pub held : IfSome s (λ (s : Standing). Holds s records ending)
  pub run : Runs how records old new
  pub isolated : IsIsolatedRun (event_run run)

-- A read failed: some first records were run.
pub record Breaks (how : How) (s : Option Standing) (old new : Work) : Type 0 where
  pub records : List Entry
  pub led : IfSome s (λ (s : Standing). (t : Standing) × Leads s records t)
  pub run : Runs how records old new
  pub isolated : IsIsolatedRun (event_run run)

-- What a fault leaves: all before a fault of the capture was run and written. Of a failed write nothing is
-- said.
abbrev pub Stops : How → Option Standing → BulkFault → Work → Work → Type 0
Stops how s (Capture fault) old new =
    (fault.kind ≢ Read → Decompresses how s (Err fault) old new) × Breaks how s old new
Stops how s Write old new = Unit {0}
