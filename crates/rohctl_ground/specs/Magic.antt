-- The first octets of captures. Words: is_magic; begins_capture.
use Rattle.std.specs.Prelude.{ℕ, ◌+◌, ◌*◌, ◌==◌, ◌||◌, List, [], ◌∷◌, Bool, false}

-- The first four octets as one number, the most significant octet first. A file of pcap begins with a magic
-- number (draft-ietf-opsawg-pcap, 4): of microseconds or nanoseconds, each in the octet order of the machine
-- that wrote it. A file of pcapng begins with the type of a section header block (draft-ietf-opsawg-pcapng,
-- 4.1), the same in both orders.
abbrev pub is_magic : ℕ → Bool
is_magic magic = magic == 0xa1b2c3d4 || magic == 0xd4c3b2a1 || magic == 0xa1b23c4d || magic == 0x4d3cb2a1
    || magic == 0x0a0d0d0a

-- whether octets begin as those of a capture do
abbrev pub begins_capture : List ℕ → Bool
begins_capture (a ∷ b ∷ c ∷ d ∷ _) = is_magic (((a * 256 + b) * 256 + c) * 256 + d)
begins_capture _ = false
