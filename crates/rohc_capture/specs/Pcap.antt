-- The heads of a capture of pcap. Words: magic_of; file_in; nanos_of; record_in.
use Rattle.std.specs.Prelude.{ℕ, ◌+◌, ◌*◌, ◌%◌, List, Bool, true, false, ◌==◌, Option, Some, None, if◌then◌else◌}
use Rattle.rohc_capture.specs.declared.number.ByteOrder.{ByteOrder}
use Rattle.rohc_capture.specs.declared.number.ByteOrder.TheVariants.{Big, Little}
use Rattle.rohc_capture.specs.declared.pcap.PcapHead.{PcapHead}
use Rattle.rohc_capture.specs.declared.pcap.RecordHead.{RecordHead}
use Rattle.rohc_capture.specs.Number.{◌>>=◌, long_at}

-- the octet order, and whether fractions of a second are nanoseconds
abbrev pub magic_of : ℕ → Option (ByteOrder × Bool)
magic_of magic =
    if magic == 0xa1b2c3d4 then Some (Big, false)
    else if magic == 0xa1b23c4d then Some (Big, true)
    else if magic == 0xd4c3b2a1 then Some (Little, false)
    else if magic == 0x4d3cb2a1 then Some (Little, true)
    else None

-- the head of a file: a magic number, the version, a time zone and its accuracy, which are 0, the longest
-- frame, and the link type in the low half of the last number
unfoldable pub file_in : List ℕ → Option PcapHead
file_in text = do
  (magic, text) ← long_at Big text
  (order, is_nano) ← magic_of magic
  (version, text) ← long_at order text
  (zone, text) ← long_at order text
  (figures, text) ← long_at order text
  (longest, text) ← long_at order text
  (link, text) ← long_at order text
  Some (record { order = order; is_nano = is_nano; link_type = link % 65536 })

-- a moment in nanoseconds since 1970
abbrev pub nanos_of : Bool → ℕ → ℕ → ℕ
nanos_of is_nano seconds fraction = seconds * 1000000000 + fraction * (if is_nano then 1 else 1000)

-- the head of a record: seconds and their fraction, how many octets were captured, and how many there were
unfoldable pub record_in : PcapHead → List ℕ → Option RecordHead
record_in head text = do
  (seconds, text) ← long_at head.order text
  (fraction, text) ← long_at head.order text
  (captured, text) ← long_at head.order text
  (original, text) ← long_at head.order text
  Some (record { nanos = nanos_of head.is_nano seconds fraction; captured = captured; original = original })
