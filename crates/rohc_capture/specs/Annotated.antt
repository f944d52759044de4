-- A capture of pcapng with named interfaces, whose frames may have a comment (IETF draft-ietf-opsawg-pcapng).
-- Words: padded; option_of; named_interface; comment_of, frame_front, commented_frame.
use Rattle.std.specs.Prelude.{ℕ, ◌+◌, ◌*◌, ◌/◌, ◌%◌, List, [], ◌∷◌, ◌++◌, length, take, Option, Some, None}
use Rattle.rohc_capture.specs.Written.{quad, missing}

-- octets, and zeros up to a multiple of four
unfoldable pub padded : List ℕ → List ℕ
padded octets = octets ++ take (missing (length octets)) (0 ∷ 0 ∷ 0 ∷ [])

abbrev pub padded_size : ℕ → ℕ
padded_size size = size + missing size

-- an option of a block: its code, its length and its value
unfoldable pub option_of : ℕ → List ℕ → List ℕ
option_of code value = quad (code * 65536 + length value) ++ padded value

-- an interface: its block's length, its link type, frames up to 262,144 octets, its name, times in units of
-- 10^-9 seconds, the end of the options, and the length again
abbrev pub interface_size : ℕ → ℕ
interface_size size = 36 + padded_size size

unfoldable pub interface_front : ℕ → ℕ → List ℕ
interface_front link size = quad 1 ++ quad (interface_size size) ++ quad (link * 65536) ++ quad 262144

unfoldable pub interface_back : ℕ → List ℕ
interface_back size = quad 0x00090001 ++ quad 0x09000000 ++ quad 0 ++ quad (interface_size size)

abbrev pub named_interface : ℕ → List ℕ → List ℕ
named_interface link name =
    interface_front link (length name) ++ option_of 2 name ++ interface_back (length name)

-- the options of a frame: its comment and their end, if it has one
abbrev pub comment_of : Option (List ℕ) → List ℕ
comment_of None = []
comment_of (Some text) = option_of 1 text ++ quad 0

abbrev pub comment_size : Option (List ℕ) → ℕ
comment_size None = 0
comment_size (Some text) = 8 + padded_size (length text)

-- a frame of an interface: its block's length, its time in two halves, its length twice, the frame, its
-- options, and the block's length again
abbrev pub block_size : ℕ → ℕ → ℕ
block_size size options = 32 + padded_size size + options

unfoldable pub frame_front : ℕ → ℕ → ℕ → ℕ → List ℕ
frame_front interface nanos size block =
    quad 6 ++ quad block ++ quad interface ++ quad (nanos / 4294967296) ++ quad (nanos % 4294967296)
    ++ quad size ++ quad size

abbrev pub commented_frame : ℕ → ℕ → List ℕ → Option (List ℕ) → List ℕ
commented_frame interface nanos frame comment =
    frame_front interface nanos (length frame) (block_size (length frame) (comment_size comment))
    ++ padded frame ++ comment_of comment ++ quad (block_size (length frame) (comment_size comment))
