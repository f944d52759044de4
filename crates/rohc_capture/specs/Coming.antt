-- A frame that lies ahead in a capture. Words: Ahead, seen, first_of, IsComing.
use Rattle.std.specs.Prelude.{◌≡◌, ℕ, ◌+◌, List, length, Option, Some, None, Result, Ok, Err}
use Rattle.rohc_capture.specs.declared.fault.FaultKind.{FaultKind}
use Rattle.rohc_capture.specs.declared.reader.Kind.{Kind}
use Rattle.rohc_capture.specs.declared.reader.Kind.TheVariants.{Unknown, Pcap, Pcapng}
use Rattle.rohc_capture.specs.declared.reader.Coming.{Coming}
use Rattle.rohc_capture.specs.Records.{Entry, record_at}

-- a frame's link type, how many octets it had, those that were captured, and the octets of its record
pub record Ahead : Type 0 where
  pub link_type : ℕ
  pub original : ℕ
  pub frame : List ℕ
  pub all : ℕ

abbrev pub seen : Coming → Ahead
seen c = record { link_type = c.link_type; original = c.original; frame = c.frame.now; all = c.all }

-- the frame of a record of pcap, which has 16 octets before it, if the record could be read
abbrev pub first_of : Result (Entry × List ℕ) FaultKind → Option Ahead
first_of (Ok (e, rest)) =
    Some (record {
      link_type = e.link_type;
      original = e.original;
      frame = e.frame;
      all = 16 + length e.frame;
    })
first_of (Err kind) = None

-- The frame of the record at the front, if it is there. Of pcapng nothing is said.
abbrev pub IsComing : Kind → List ℕ → Option Ahead → Type 0
IsComing Unknown text found = found ≡ None
IsComing (Pcap head) text found = found ≡ first_of (record_at head 0 text)
IsComing (Pcapng order) text found = Unit {0}
