-- One line's turn: it is run, and its answers are offered. Words: with_line; TakesTurn, TakesLongTurn.
use Rattle.std.specs.Prelude.{◌≡◌, ℕ, ◌∷◌, [], List, Option, Result}
use Rattle.rohc_replay.specs.declared.output.Stopped.{Stopped}
use Rattle.rohc_replay.specs.declared.tally.Tally.{Tally}
use Rattle.rohc_replay.specs.declared.counts.Counts.{Counts}
use Rattle.rohc_replay.specs.Script.{Line, Good, Bad, Long, IsLine}
use Rattle.rohc_replay.specs.AnswerLines.{text_of, long_line}
use Rattle.rohc_links.specs.Limits.{counted}
use Rattle.rohc_replay.specs.Offers.{OffersText}
use Rattle.rohc_replay.specs.Run.{RunsLine, ReplayChange}

-- the tally with one more line
abbrev pub with_line : Tally → Line → Tally
with_line t (Good e) = record t { events = counted t.events 1 }
with_line t Bad = record t { bad = counted t.bad 1 }
with_line t Long = record t { bad = counted t.bad 1 }

-- a line is run, and its answers are offered: the writer takes all of them, or a part
pub record TakesTurn (c : ReplayChange) (before after : Counts) (octets : List ℕ)
    (result : Result Unit Stopped) : Type 0 where
  pub line : Line
  pub answers : List (List ℕ)
  pub is_line : IsLine octets line
  pub turns : RunsLine c.before line answers c.after
  pub tally : after.tally ≡ with_line before.tally line
  pub offers : OffersText c.held c.holding before.answers.taken after.answers.taken (text_of answers) result

-- a long line is answered, and nothing is run
pub record TakesLongTurn (held holding : Option (List ℕ)) (before after : Counts)
    (result : Result Unit Stopped) : Type 0 where
  pub tally : after.tally ≡ with_line before.tally Long
  pub offers : OffersText held holding before.answers.taken after.answers.taken
      (text_of (long_line ∷ [])) result
