-- The records of a capture. Words: Entry, Standing; longest; next_in_pcap, next_in_file; is_section; IsNext;
-- Leads; Holds.
use Rattle.std.specs.Prelude.{◌≡◌, ℕ, ◌+◌, List, [], ◌∷◌, length, take, drop, nat_le, ◌==◌, Bool, true, false, Option, Some, None, Result, Ok, Err}
use Rattle.rohc_capture.specs.declared.fault.FaultKind.{FaultKind}
use Rattle.rohc_capture.specs.declared.fault.FaultKind.TheVariants.{NotACapture, CutOff, TooLong}
use Rattle.rohc_capture.specs.declared.fault.CaptureFault.{CaptureFault}
use Rattle.rohc_capture.specs.declared.number.ByteOrder.TheVariants.{Big}
use Rattle.rohc_capture.specs.declared.pcap.PcapHead.{PcapHead}
use Rattle.rohc_capture.specs.declared.reader.Kind.{Kind}
use Rattle.rohc_capture.specs.declared.reader.Kind.TheVariants.{Unknown, Pcap, Pcapng}
use Rattle.rohc_capture.specs.Octets.{◌>>=◌}
use Rattle.rohc_capture.specs.Number.{long_at}
use Rattle.rohc_capture.specs.Pcap.{file_in, record_in}
use Rattle.rohc_capture.specs.Window.{counted}

-- a record: the octets of a frame that were captured, the frame's link type, its time in nanoseconds since
-- 1970, how many octets it had, and how many octets of the capture stand before the record
pub record Entry : Type 0 where
  pub link_type : ℕ
  pub nanos : ℕ
  pub original : ℕ
  pub frame : List ℕ
  pub place : ℕ

-- where a capture stands: what it is, how many of its octets were passed, and those that follow
pub record Standing : Type 0 where
  pub kind : Kind
  pub place : ℕ
  pub text : List ℕ

abbrev pub standing : Kind → ℕ → List ℕ → Standing
standing kind place text = record { kind = kind; place = place; text = text }

-- a record, the end, or a fault with its place, and where the capture then stands
abbrev pub Next : Type 0
Next = Result (Option (Entry × Standing)) CaptureFault

-- the longest record, in octets
abbrev pub longest : ℕ
longest = 1048576

-- the value, if there is one, and else the fault
abbrev pub found : {A : Type 0} → FaultKind → Option A → Result A FaultKind
found fault (Some x) = Ok x
found fault None = Err fault

-- the value, if the test holds, and else the fault
abbrev pub holding : {A : Type 0} → Bool → FaultKind → A → Result A FaultKind
holding true fault x = Ok x
holding false fault x = Err fault

-- a record at the front: a head of 16 octets, and as many octets of the frame as it says; and what follows
unfoldable pub record_at : PcapHead → ℕ → List ℕ → Result (Entry × List ℕ) FaultKind
record_at head place text = do
  text ← holding (nat_le 16 (length text)) CutOff text
  r ← found CutOff (record_in head text)
  r ← holding (nat_le (16 + r.captured) longest) TooLong r
  text ← holding (nat_le (16 + r.captured) (length text)) CutOff text
  Ok (
    record {
      link_type = head.link_type;
      nanos = r.nanos;
      original = r.original;
      frame = take r.captured (drop 16 text);
      place = place;
    },
    drop (16 + r.captured) text,
  )

-- the record that was read at a place, or the fault there
abbrev pub placed : PcapHead → ℕ → Result (Entry × List ℕ) FaultKind → Next
placed head place (Ok (e, rest)) =
    Ok (Some (e, standing (Pcap head) (counted place (16 + length e.frame)) rest))
placed head place (Err kind) = Err (record { kind = kind; place = place })

-- what comes next in a capture of pcap behind its head: a record, if anything follows
abbrev pub next_in_pcap : PcapHead → ℕ → List ℕ → Next
next_in_pcap head place [] = Ok None
next_in_pcap head place (octet ∷ octets) = placed head place (record_at head place (octet ∷ octets))

-- the head of a capture of pcap, in 24 octets
unfoldable pub head_at : List ℕ → Result PcapHead FaultKind
head_at text = do
  text ← holding (nat_le 24 (length text)) NotACapture text
  found NotACapture (file_in text)

-- the first record, if the head is good
abbrev pub behind_head : ℕ → List ℕ → Result PcapHead FaultKind → Next
behind_head place text (Ok head) = next_in_pcap head (counted place 24) (drop 24 text)
behind_head place text (Err kind) = Err (record { kind = kind; place = place })

abbrev pub next_in_file : ℕ → List ℕ → Next
next_in_file place text = behind_head place text (head_at text)

-- the number in front, if it is there, is that of a section's block: the capture is one of pcapng
abbrev pub is_number : Option (ℕ × List ℕ) → Bool
is_number None = false
is_number (Some (number, text)) = number == 0x0a0d0d0a

abbrev pub is_section : List ℕ → Bool
is_section text = is_number (long_at Big text)

-- What comes next, by what the capture is. Of pcapng nothing is said.
abbrev pub IsNextOf : Kind → ℕ → List ℕ → Next → Type 0
IsNextOf Unknown place text next = is_section text ≡ false → next ≡ next_in_file place text
IsNextOf (Pcap head) place text next = next ≡ next_in_pcap head place text
IsNextOf (Pcapng order) place text next = Unit {0}

abbrev pub IsNext : Standing → Next → Type 0
IsNext s next = IsNextOf s.kind s.place s.text next

-- records one after another, from where the capture stands to where it then stands
abbrev pub Leads : Standing → List Entry → Standing → Type 0
Leads s [] t = s ≡ t
Leads s (e ∷ es) t = (mid : Standing) × IsNext s (Ok (Some (e, mid))) × Leads mid es t

-- no record follows: the end, or a fault
abbrev pub ended : Result Unit CaptureFault → Next
ended (Ok nothing) = Ok None
ended (Err fault) = Err fault

-- These are all records from where the capture stands, and so it ends: well, or with a fault.
pub record Holds (s : Standing) (es : List Entry) (ending : Result Unit CaptureFault) : Type 0 where
  pub last : Standing
  pub leads : Leads s es last
  pub ends : IsNext last (ended ending)
