-- What a link does in a second, and how much it may. Words: one_if; no_limits; second_of, in_second;
-- is_reached, limits_contexts, is_full, is_silent; packets_before; unlimited; with_work, with_turned_away,
-- with_limits.
use Rattle.std.specs.Prelude.{ℕ, ◌+◌, ◌/◌, ◌==◌, ◌&&◌, not, Bool, nat_lt, nat_le, if◌then◌else◌, None}
use Rattle.rohc_links.specs.Limits.{counted}
use Rattle.rohc_station.specs.declared.limits.LinkLimits.{LinkLimits}
use Rattle.rohc_station.specs.declared.limits.Second.{Second}
use Rattle.rohc_station.specs.declared.limits.Limiter.{Limiter}

abbrev pub one_if : Bool → ℕ
one_if holds = if holds then 1 else 0

abbrev pub no_limits : LinkLimits
no_limits = record { new_contexts = 0; feedback = 0; payload = None }

-- the second of a moment in milliseconds
abbrev pub second_of : ℕ → ℕ
second_of moment = moment / 1000

-- what a link did in a second: nothing, if it is another than that of its last packet
abbrev pub in_second : (number : ℕ) → Second → Second
in_second number s =
    if s.number == number then s else record { number = number; packets = 0; new_contexts = 0; feedback = 0 }

-- so many reach a limit; 0 is no limit
abbrev pub is_reached : (limit count : ℕ) → Bool
is_reached limit count = nat_lt 0 limit && nat_le limit count

-- a link may make only so many contexts in a second
abbrev pub limits_contexts : Limiter → Bool
limits_contexts x = nat_lt 0 x.limits.new_contexts

-- a link makes no more contexts in a second, and sends no more feedback
abbrev pub is_full : (number : ℕ) → Limiter → Bool
is_full number x = is_reached x.limits.new_contexts (in_second number x.second).new_contexts

abbrev pub is_silent : (number : ℕ) → Limiter → Bool
is_silent number x = is_reached x.limits.feedback (in_second number x.second).feedback

-- how many packets were taken in the second before this one
abbrev pub packets_before : (number : ℕ) → Limiter → ℕ
packets_before number x =
    if x.second.number == number then x.before
    else if x.second.number + 1 == number then x.second.packets
    else 0

-- nothing is limited, and nothing counted yet
abbrev pub unlimited : Limiter
unlimited = record {
  limits = no_limits;
  second = record { number = 0; packets = 0; new_contexts = 0; feedback = 0 };
  before = 0;
  contexts_limited = 0;
  feedback_limited = 0;
}

-- A packet made so many contexts, and may have feedback: that is sent and counts for the second, or withheld.
abbrev pub with_work : (number made : ℕ) → (has_feedback : Bool) → Limiter → Limiter
with_work number made has_feedback x = record {
  limits = x.limits;
  second = record {
    number = (in_second number x.second).number;
    packets = counted (in_second number x.second).packets 1;
    new_contexts = counted (in_second number x.second).new_contexts made;
    feedback = counted (in_second number x.second).feedback
        (one_if (has_feedback && not (is_silent number x)));
  };
  before = packets_before number x;
  contexts_limited = x.contexts_limited;
  feedback_limited = counted x.feedback_limited (one_if (has_feedback && is_silent number x));
}

-- one more packet was turned away
abbrev pub with_turned_away : Limiter → Limiter
with_turned_away x = record x { contexts_limited = counted x.contexts_limited 1 }

-- Other limits, for what was done and is done. Contexts that were made without a limit weren't counted.
abbrev pub with_limits : LinkLimits → Limiter → Limiter
with_limits limits x = record x { limits = limits }
