-- Counts and what a call keeps, with one line more. Words: count_in, tally; count_after, since_after,
-- refused_after, last_after.
use Rattle.std.specs.Prelude.{ℕ, ◌-◌, ◌^◌, Bool, ◌==◌, if◌then◌else◌, List, Option, Some, None, min, count_by, slice_index}
use Rattle.rohc_context.specs.declared.refusal.Refusal.{Refusal}
use Rattle.rohc_links.specs.Limits.{counted}
use Rattle.rohc_totals.specs.declared.kind.LineKind.{LineKind}
use Rattle.rohc_totals.specs.declared.counts.Counts.{Counts}
use Rattle.rohc_totals.specs.Kind.{kind_number, refusal_of}

-- the number of lines of the kind with this number
abbrev pub count_in : Counts → ℕ → ℕ
count_in c k = slice_index c.lines k

-- how many there are, up to the greatest `u64`
abbrev pub tally : {X : Type 0} → (X → Bool) → List X → ℕ
tally p xs = min (count_by p xs) (2 ^ 64 - 1)

-- a count of a kind's lines with a line of this kind
abbrev pub count_after : LineKind → ℕ → ℕ → ℕ
count_after kind k before = if kind_number kind == k then counted before 1 else before

-- the first of two line numbers
abbrev pub first_of : Option ℕ → ℕ → Option ℕ
first_of (Some first) number = Some first
first_of None number = Some number

-- where the refusals since the last delivery begin, with a refusal, or with another line
abbrev pub since_with : Option Refusal → ℕ → Option ℕ → Option ℕ
since_with None number since = since
since_with (Some refusal) number since = first_of since number

-- where they begin, with a line of this kind and number
abbrev pub since_after : LineKind → ℕ → Option ℕ → Option ℕ
since_after kind number since =
    if kind_number kind == 3 then None else since_with (refusal_of kind) number since

-- how many they are, with a refusal, or with another line
abbrev pub refused_with : Option Refusal → ℕ → ℕ
refused_with None refused = refused
refused_with (Some refusal) refused = counted refused 1

-- how many they are, with a line of this kind
abbrev pub refused_after : LineKind → ℕ → ℕ
refused_after kind refused = if kind_number kind == 3 then 0 else refused_with (refusal_of kind) refused

-- the later of two refusals
abbrev pub later_of : Option Refusal → Option Refusal → Option Refusal
later_of before None = before
later_of before (Some refusal) = Some refusal

-- the last refusal, with a line of this kind
abbrev pub last_after : LineKind → Option Refusal → Option Refusal
last_after kind last = later_of last (refusal_of kind)
