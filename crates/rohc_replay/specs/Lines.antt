-- A text as finished lines and a rest. Words: has_newline, Splits.
use Rattle.std.specs.Prelude.{◌≡◌, ℕ, List, ◌++◌, Bool, false, ◌==◌}
use Rattle.std.specs.List.{list_any, AllByRecursion}
use Rattle.rohc_replay.specs.AnswerLines.{text_of}

-- a newline stands among the octets
abbrev pub has_newline : List ℕ → Bool
has_newline octets = list_any (λ octet. octet == 10) octets

-- the text is these finished lines, each with its newline, and then a rest without one
pub record Splits (text : List ℕ) (finished : List (List ℕ)) (rest : List ℕ) : Type 0 where
  pub whole : text ≡ text_of finished ++ rest
  pub each : AllByRecursion (λ line. has_newline line ≡ false) finished
  pub unfinished : has_newline rest ≡ false
