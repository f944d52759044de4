-- The text of a line that waits to be offered. Words: text_in.
use Rattle.std.specs.Prelude.{ℕ, List, take}
use Rattle.rohc_replay.specs.declared.line_text.LineText.{LineText}

-- the octets that were put
abbrev pub text_in : LineText → List ℕ
text_in line = take line.len line.octets
