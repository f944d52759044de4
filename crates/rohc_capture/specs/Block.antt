-- The blocks of a capture of pcapng. Words: order_of; enhanced_in, obsolete_in, simple_in.
use Rattle.std.specs.Prelude.{ℕ, ◌+◌, ◌*◌, ◌^◌, List, ◌==◌, ◌&&◌, nat_lt, Option, Some, None, if◌then◌else◌}
use Rattle.rohc_capture.specs.declared.number.ByteOrder.{ByteOrder}
use Rattle.rohc_capture.specs.declared.number.ByteOrder.TheVariants.{Big, Little}
use Rattle.rohc_capture.specs.declared.block.PacketHead.{PacketHead}
use Rattle.rohc_capture.specs.Number.{◌>>=◌, short_at, long_at}

-- the octet order of a section
abbrev pub order_of : ℕ → Option ByteOrder
order_of magic =
    if magic == 0x1a2b3c4d then Some Big else if magic == 0x4d3c2b1a then Some Little else None

-- the head of a packet's block: its interface, its time in two halves, how many octets were captured, and how
-- many there were
unfoldable pub enhanced_in : ByteOrder → List ℕ → Option PacketHead
enhanced_in order text = do
  (interface, text) ← long_at order text
  (high, text) ← long_at order text
  (low, text) ← long_at order text
  (captured, text) ← long_at order text
  (original, text) ← long_at order text
  Some (record {
    interface = interface;
    ticks = Some (high * 2 ^ 32 + low);
    captured = captured;
    original = original;
  })

-- the same of the obsolete block: the interface has two octets, and how many frames were lost follows it
unfoldable pub obsolete_in : ByteOrder → List ℕ → Option PacketHead
obsolete_in order text = do
  (interface, text) ← short_at order text
  (drops, text) ← short_at order text
  (high, text) ← long_at order text
  (low, text) ← long_at order text
  (captured, text) ← long_at order text
  (original, text) ← long_at order text
  Some (record {
    interface = interface;
    ticks = Some (high * 2 ^ 32 + low);
    captured = captured;
    original = original;
  })

-- how many octets were captured, at most so many if that isn't 0
abbrev pub at_most : ℕ → ℕ → ℕ
at_most longest original = if nat_lt 0 longest && nat_lt longest original then longest else original

-- the same of a block without a time, which is of the first interface
unfoldable pub simple_in : ByteOrder → ℕ → List ℕ → Option PacketHead
simple_in order longest text = do
  (original, text) ← long_at order text
  Some (record { interface = 0; ticks = None; captured = at_most longest original; original = original })
