-- What is shown of a script's line. Words: shown_octet, shown; numbered_head.
use Rattle.std.specs.Prelude.{ℕ, List, [], ◌∷◌, ◌++◌, length, take, ◌&&◌, nat_le, nat_lt, if◌then◌else◌, codes}
use Rattle.std.specs.List.{flat_map}
use Rattle.std.specs.Fmt.{decimal}
use Rattle.hex.specs.Hex.{encode_lower}

-- a character of ASCII as it is, any other octet as `\x` and two digits
abbrev pub shown_octet : ℕ → List ℕ
shown_octet octet =
    if nat_le 32 octet && nat_lt octet 127 then octet ∷ [] else codes "\\x" ++ encode_lower (octet ∷ [])

-- the first 120 octets of a line, and `..` if there are more
abbrev pub shown : List ℕ → List ℕ
shown octets =
    if nat_lt 120 (length octets) then flat_map shown_octet (take 120 octets) ++ codes ".."
    else flat_map shown_octet octets

-- the number of a line, a space, what is shown of it, and a newline
abbrev pub numbered_head : ℕ → List ℕ → List ℕ
numbered_head number octets = decimal number ++ codes " " ++ shown octets ++ codes "\n"
