-- Where a capture that is read stands. Words: frame_of, rest_of, place_of; entry_of; at_place; is_whole;
-- ReadsOn; IsBegun, BeginsAs.
use Rattle.std.specs.Prelude.{◌≡◌, ◌≢◌, ℕ, ◌+◌, List, length, take, drop, min, nat_le, ◌&&◌, Bool, true, false, Option, Some, None, Result, Ok, Err}
use Rattle.std.specs.Io.KnownBytes.{prepend_known}
use Rattle.rohc_capture.specs.declared.fault.FaultKind.{FaultKind}
use Rattle.rohc_capture.specs.declared.fault.FaultKind.TheVariants.{Read}
use Rattle.rohc_capture.specs.declared.fault.CaptureFault.{CaptureFault}
use Rattle.rohc_capture.specs.declared.reader.Kind.{Kind}
use Rattle.rohc_capture.specs.declared.reader.Kind.TheVariants.{Unknown, Pcap, Pcapng}
use Rattle.rohc_capture.specs.declared.pcap.RecordHead.{RecordHead}
use Rattle.rohc_capture.specs.declared.reader.Record.{Record}
use Rattle.rohc_capture.specs.declared.reader.Capture.{Capture}
use Rattle.rohc_capture.specs.Number.{long_at}
use Rattle.rohc_capture.specs.Pcap.{record_in}
use Rattle.rohc_capture.specs.Window.{ahead_of, counted}
use Rattle.rohc_capture.specs.Records.{Entry, Standing, standing, IsNext, is_section, head_at}

-- the frame of the record that was read last
abbrev pub frame_of : {R : Type 0} → Capture R → List ℕ
frame_of c = take c.span.captured (drop c.span.skip (ahead_of c.window))

-- the octets behind that record, if they are known
abbrev pub rest_of : {R : Type 0} → (R → Option (List ℕ)) → Capture R → Option (List ℕ)
rest_of remaining c = prepend_known (drop c.span.all (ahead_of c.window)) (remaining c.window.reader)

-- how many octets of the capture stand before those
abbrev pub place_of : {R : Type 0} → Capture R → ℕ
place_of c = counted c.window.place (min c.span.all (length (ahead_of c.window)))

-- a record of the code, with its frame
abbrev pub entry_of : Record → List ℕ → Entry
entry_of r frame =
    record { link_type = r.link_type; nanos = r.nanos; original = r.original; frame = frame; place = r.place }

-- What a call that reads on gives: the next record, and where the capture then stands; the end; or a fault. A
-- failed read says nothing more.
abbrev pub ReadsOn : Standing → Result (Option Record) CaptureFault → List ℕ → Kind → ℕ →
    Option (List ℕ) → Type 0
ReadsOn s (Ok (Some r)) frame kind place rest =
    (text : List ℕ) × (rest ≡ Some text) × IsNext s (Ok (Some (entry_of r frame, standing kind place text)))
ReadsOn s (Ok None) frame kind place rest = IsNext s (Ok None)
ReadsOn s (Err fault) frame kind place rest = fault.kind ≢ Read → IsNext s (Err fault)

-- whether a record was found, with the record that was set, or with the fault's place
abbrev pub at_place : ℕ → Record → Result Bool FaultKind → Result (Option Record) CaptureFault
at_place place r (Ok true) = Ok (Some r)
at_place place r (Ok false) = Ok None
at_place place r (Err kind) = Err (record { kind = kind; place = place })

-- the first record, or the first block, lies whole in these octets
abbrev pub has_record : Option RecordHead → List ℕ → Bool
has_record None text = false
has_record (Some r) text = nat_le (16 + r.captured) (length text)

abbrev pub has_block : Option (ℕ × List ℕ) → List ℕ → Bool
has_block None text = false
has_block (Some (size, behind)) text = nat_le size (length text)

abbrev pub is_whole : Kind → List ℕ → Bool
is_whole Unknown text = false
is_whole (Pcap head) text = has_record (record_in head text) text
is_whole (Pcapng order) text = nat_le 4 (length text) && has_block (long_at order (drop 4 text)) text

-- its first octets were read
abbrev pub IsBegun : Kind → Type 0
IsBegun Unknown = ⊥
IsBegun (Pcap head) = Unit {0}
IsBegun (Pcapng order) = Unit {0}

-- what the first octets of a capture say that it is, and where it then stands
abbrev pub BeginsAs : ℕ → List ℕ → Result Unit FaultKind → Kind → ℕ → Option (List ℕ) → Type 0
BeginsAs place text (Ok nothing) Unknown after rest = ⊥
BeginsAs place text (Ok nothing) (Pcap head) after rest =
    (head_at text ≡ Ok head) × (after ≡ counted place 24) × (rest ≡ Some (drop 24 text))
BeginsAs place text (Ok nothing) (Pcapng order) after rest = (is_section text ≡ true) × (rest ≡ Some text)
BeginsAs place text (Err kind) now after rest =
    kind ≢ Read → is_section text ≡ false → head_at text ≡ Err kind
