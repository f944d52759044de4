-- What became of a packet. Words: outcome_of; is_behind; later_count, repaired_count.
use Rattle.std.specs.Prelude.{ℕ, ◌+◌, ◌-◌, ◌%◌, Bool, nat_lt, Option, Some, None}
use Rattle.rohc_context.specs.Refusal.{number_of}
use Rattle.rohc_report.specs.declared.became.Became.{Became}
use Rattle.rohc_report.specs.declared.became.Became.TheVariants.{Delivered, Late, Repaired, Stored, Front, Refused}

-- the number of its outcome, as answers are counted: 0 for a packet that was delivered, 31 for a context
-- without one, else the refusal's; none for padding and feedback alone
abbrev pub outcome_of : Became → Option ℕ
outcome_of Delivered = Some 0
outcome_of Late = Some 0
outcome_of Repaired = Some 0
outcome_of Stored = Some 31
outcome_of Front = None
outcome_of (Refused refusal) = Some (number_of refusal)

-- a sequence number of 16 bits is this one, or less than half a turn behind it
abbrev pub is_behind : (before sn : ℕ) → Bool
is_behind before sn = nat_lt ((before + (65536 - sn)) % 65536) 32768

-- how many late packets it is
abbrev pub late_count : Became → ℕ
late_count Delivered = 0
late_count Late = 1
late_count Repaired = 0
late_count Stored = 0
late_count Front = 0
late_count (Refused refusal) = 0

-- how many repaired packets it is
abbrev pub repaired_count : Became → ℕ
repaired_count Delivered = 0
repaired_count Late = 0
repaired_count Repaired = 1
repaired_count Stored = 0
repaired_count Front = 0
repaired_count (Refused refusal) = 0
