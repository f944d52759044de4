-- A window onto a reader. Words: ahead_of, what was read and not yet passed; text_in, that and what the
-- reader still has; StaysKnown; counted, which stays at the greatest u64.
use Rattle.std.specs.Prelude.{ℕ, ◌+◌, ◌-◌, ◌^◌, ◌≡◌, min, List, Option, true}
use Rattle.std.specs.Option.{is_some}
use Rattle.std.specs.List.{slice_range}
use Rattle.std.specs.Io.KnownBytes.{prepend_known}
use Rattle.rohc_capture.specs.declared.window.Window.{Window}

-- the octets that were read and not yet passed
abbrev pub ahead_of : {R : Type 0} → Window R → List ℕ
ahead_of w = slice_range w.octets.items w.start w.end

-- those, and then what the reader still has, if it is known
abbrev pub text_in : {R : Type 0} → (R → Option (List ℕ)) → Window R → Option (List ℕ)
text_in remaining w = prepend_known (ahead_of w) (remaining w.reader)

-- what is known of a reader's octets stays known
abbrev pub StaysKnown : Option (List ℕ) → Option (List ℕ) → Type 0
StaysKnown before after = is_some before ≡ true → is_some after ≡ true

-- a place that stays at the greatest `u64`
abbrev pub counted : ℕ → ℕ → ℕ
counted before more = min (before + more) (2 ^ 64 - 1)
