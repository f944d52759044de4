-- A capture that is written: with numbers with their most significant octet first.
-- Words: pair, quad; missing; pcap_head, pcapng_head, head_of; is_in_time; before_frame, after_frame,
-- frame_record.
use Rattle.std.specs.Prelude.{ℕ, ◌+◌, ◌*◌, ◌-◌, ◌/◌, ◌%◌, ◌^◌, Bool, true, nat_lt, List, [], ◌∷◌, ◌++◌, length, take}
use Rattle.rohc_capture.specs.declared.writer.Format.{Format}
use Rattle.rohc_capture.specs.declared.writer.Format.TheVariants.{Pcap, Pcapng}

-- the octets of a number below 2^16, and of one below 2^32
abbrev pub pair : ℕ → List ℕ
pair n = n / 256 ∷ n % 256 ∷ []

abbrev pub quad : ℕ → List ℕ
quad n = pair (n / 65536) ++ pair (n % 65536)

-- the octets after a frame, up to a multiple of four
abbrev pub missing : ℕ → ℕ
missing size = (4 - size % 4) % 4

-- the head of a file of pcap: times in nanoseconds, version 2.4, frames up to 262,144 octets, and the link
-- type
abbrev pub pcap_head : ℕ → List ℕ
pcap_head link = quad 0xa1b23c4d ++ quad 0x00020004 ++ quad 0 ++ quad 0 ++ quad 262144 ++ quad link

-- before a frame in pcap: the second and its nanosecond, and the length twice
abbrev pub pcap_front : ℕ → ℕ → List ℕ
pcap_front nanos size = quad (nanos / 1000000000) ++ quad (nanos % 1000000000) ++ quad size ++ quad size

-- the head of a file of pcapng: a section of version 1.0 with no length, and an interface of this link type
-- with frames up to 262,144 octets and times in units of 10^-9 seconds
unfoldable pub section_head : List ℕ
section_head =
    quad 0x0a0d0d0a ++ quad 28 ++ quad 0x1a2b3c4d ++ quad 0x00010000
    ++ quad 0xffffffff ++ quad 0xffffffff ++ quad 28

unfoldable pub interface_head : ℕ → List ℕ
interface_head link =
    quad 1 ++ quad 32 ++ quad (link * 65536) ++ quad 262144
    ++ quad 0x00090001 ++ quad 0x09000000 ++ quad 0 ++ quad 32

abbrev pub pcapng_head : ℕ → List ℕ
pcapng_head link = section_head ++ interface_head link

-- an enhanced packet block of the first interface. Before the frame: its length, its time in two halves,
-- and the frame's length twice. Behind it: zeros up to a multiple of four, and the block's length again
abbrev pub block_length : ℕ → ℕ
block_length size = 32 + size + missing size

abbrev pub pcapng_front : ℕ → ℕ → List ℕ
pcapng_front nanos size =
    quad 6 ++ quad (block_length size) ++ quad 0 ++ quad (nanos / 4294967296) ++ quad (nanos % 4294967296)
    ++ quad size ++ quad size

abbrev pub pcapng_back : ℕ → List ℕ
pcapng_back size = take (missing size) (0 ∷ 0 ∷ 0 ∷ []) ++ quad (block_length size)

abbrev pub head_of : Format → ℕ → List ℕ
head_of Pcap link = pcap_head link
head_of Pcapng link = pcapng_head link

-- whether a capture can hold a time: pcap has 32 bits for the second
abbrev pub is_in_time : Format → ℕ → Bool
is_in_time Pcap nanos = nat_lt (nanos / 1000000000) (2 ^ 32)
is_in_time Pcapng nanos = true

-- a frame as it is written: what stands before it, the frame, and what stands behind it
abbrev pub before_frame : Format → ℕ → ℕ → List ℕ
before_frame Pcap nanos size = pcap_front nanos size
before_frame Pcapng nanos size = pcapng_front nanos size

abbrev pub after_frame : Format → ℕ → List ℕ
after_frame Pcap size = []
after_frame Pcapng size = pcapng_back size

abbrev pub frame_record : Format → ℕ → List ℕ → List ℕ
frame_record format nanos frame =
    before_frame format nanos (length frame) ++ frame ++ after_frame format (length frame)
