-- How much of a text a writer took. Words: TakesAll, TakesPart; OffersText.
use Rattle.std.specs.Prelude.{◌≡◌, ℕ, ◌<◌, List, ◌++◌, length, Option, Result, Ok, Err}
use Rattle.std.specs.Io.KnownBytes.{Appends}
use Rattle.rohc_links.specs.Limits.{counted}
use Rattle.rohc_replay.specs.declared.output.Stopped.{Stopped}

-- all of the text was taken
abbrev pub TakesAll : Option (List ℕ) → Option (List ℕ) → ℕ → ℕ → List ℕ → Type 0
TakesAll held holding before after text = Appends held holding text × (after ≡ counted before (length text))

-- a part of the text was taken, but not all of it
pub record TakesPart (held holding : Option (List ℕ)) (before after : ℕ) (text : List ℕ) : Type 0 where
  pub part : List ℕ
  pub rest : List ℕ
  pub parts : text ≡ part ++ rest
  pub some_left : 0 < length rest
  pub taken : TakesAll held holding before after part

-- a text is offered to a writer, with the number of octets that it took before and after
abbrev pub OffersText : Option (List ℕ) → Option (List ℕ) → ℕ → ℕ → List ℕ → Result Unit Stopped → Type 0
OffersText held holding before after text (Ok done) = TakesAll held holding before after text
OffersText held holding before after text (Err stopped) = TakesPart held holding before after text
