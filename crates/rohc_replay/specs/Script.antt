-- What a script is. Words: spelling, the line of an event; Line, IsLine; lines_of a text, IsScript.
use Rattle.std.specs.Prelude.{◌≡◌, ◌≢◌, ℕ, ◌^◌, ◌<◌, ◌≤◌, List, [], ◌∷◌, ◌++◌, length, All, ◌==◌, if◌then◌else◌, codes}
use Rattle.std.specs.Fmt.{decimal}
use Rattle.hex.specs.Hex.{encode_lower}
use Rattle.rohc_frame.specs.Laws.{IsOctet}
use Rattle.rohc_concentrator.specs.Events.{Event, Arrive, Reset}
use Rattle.rohc_links.specs.Limits.{longest_packet}

-- every number of the event fits its field, and a packet isn't longer than the longest
abbrev pub IsEvent : Event → Type 0
IsEvent (Arrive link moment octets) =
    (link < 2 ^ 16) × (moment < 2 ^ 64) × (length octets ≤ longest_packet) × All IsOctet octets
IsEvent (Reset link) = link < 2 ^ 16

-- octets as pairs of lower case digits, or `-` for none
abbrev pub hex_text : List ℕ → List ℕ
hex_text [] = codes "-"
hex_text (octet ∷ octets) = encode_lower (octet ∷ octets)

-- the one line of an event
abbrev pub spelling : Event → List ℕ
spelling (Arrive link moment octets) =
    codes "arrive " ++ decimal link ++ codes " " ++ decimal moment ++ codes " " ++ hex_text octets
spelling (Reset link) = codes "reset " ++ decimal link

-- the longest line, in octets: `arrive 65535 18446744073709551615 ` with 65,535 pairs is shorter
abbrev pub longest_line : ℕ
longest_line = 131200

-- the kinds of lines
pub data Line : Type 0 where
  Good : Event → Line
  Bad : Line
  Long : Line

-- A good line is the text of its event. A bad one is the text of none. A long one is longer than the longest
-- line.
abbrev pub IsLine : List ℕ → Line → Type 0
IsLine octets (Good e) = IsEvent e × (octets ≡ spelling e) × (length octets ≤ longest_line)
IsLine octets Bad = (length octets ≤ longest_line) × ((e : Event) → IsEvent e → octets ≢ spelling e)
IsLine octets Long = longest_line < length octets

-- an octet put before the first of these lines, or a line of its own if there are none
abbrev pub put_in_first : ℕ → List (List ℕ) → List (List ℕ)
put_in_first octet [] = (octet ∷ []) ∷ []
put_in_first octet (line ∷ lines) = (octet ∷ line) ∷ lines

-- the lines of a text: each ends with a newline, except a last one that isn't empty
abbrev pub lines_of : List ℕ → List (List ℕ)
lines_of [] = []
lines_of (octet ∷ octets) = if octet == 10 then [] ∷ lines_of octets else put_in_first octet (lines_of octets)

-- these are the kinds of these lines, one by one
abbrev pub AreLines : List (List ℕ) → List Line → Type 0
AreLines [] [] = Unit {0}
AreLines (octets ∷ texts) (line ∷ lines) = IsLine octets line × AreLines texts lines
AreLines [] (line ∷ lines) = ⊥
AreLines (octets ∷ texts) [] = ⊥

-- the script of a text
abbrev pub IsScript : List ℕ → List Line → Type 0
IsScript text lines = AreLines (lines_of text) lines
