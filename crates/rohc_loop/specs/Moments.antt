-- The moments of a gateway. Words: absent, first_of, GoesOn; is_stale; last_of; IsBegun,
-- moment_after, PassesAsUptime; step_of.
use Rattle.std.specs.Prelude.{ℕ, ◌+◌, ◌-◌, ◌^◌, Bool, ◌&&◌, nat_lt, nat_le, if◌then◌else◌, Option, Some, None, Result, Ok, Err, MatchResult, ◌≡◌, ◌≤◌, ◌<◌, min, max}
use Rattle.rohc_world.specs.declared.trouble.Trouble.{Trouble}
use Rattle.rohc_loop.specs.declared.moments.Before.{Before}
use Rattle.rohc_loop.specs.declared.moments.Moments.{Moments}
use Rattle.rohc_loop.specs.declared.moments.Reading.{Reading}
use Rattle.rohc_loop.specs.declared.moments.Step.{Step}
use Rattle.rohc_loop.specs.declared.moments.Step.TheVariants.{Ahead, Back}

-- The time since a file was written, as far as the system's clock shows it. A longer absence changes no
-- answer, since every limit is below 2^32 ms.
abbrev pub absent : (date modified : Option ℕ) → ℕ
absent (Some date) (Some modified) = min (date - modified) (2 ^ 32 - 1)
absent (Some date) None = 0
absent None modified = 0

-- The first moment of a run: the date, or the saved moment and the absence since.
abbrev pub first_of : (date : Option ℕ) → Option Before → Option ℕ
first_of (Some date) None = Some date
first_of None None = Some 0
first_of date (Some before) =
    if nat_lt before.moment (2 ^ 63) then Some (before.moment + absent date before.modified) else None

-- A run continues from the saved moment, plus at most the longest absence, whatever the system's clock shows.
abbrev pub GoesOn : Type 0
GoesOn = (date : Option ℕ) (before : Before) (first : ℕ) → first_of date (Some before) ≡ Some first →
    (before.moment ≤ first) × (first ≤ before.moment + (2 ^ 32 - 1))

-- Saved contexts are stale from an age on, in milliseconds; with 0 they never are.
abbrev pub is_stale : (stale_ms age : ℕ) → Bool
is_stale stale_ms age = nat_lt 0 stale_ms && nat_le stale_ms age

-- the moment that was given last
abbrev pub last_of : Moments → ℕ
last_of moments = moments.last

-- moments begin with this one, if the monotonic clock answers this
abbrev pub IsBegun : (first : ℕ) → (uptime : Result ℕ Trouble) → Result Moments Trouble → Type 0
IsBegun first (Ok uptime) result =
    MatchResult result (λ m. (m.first ≡ first) × (m.start ≡ uptime) × (m.last ≡ first)) (λ trouble. ⊥)
IsBegun first (Err trouble) result = result ≡ Err trouble

-- The first moment and the time since then, if the monotonic clock answers this; never before the last.
abbrev pub moment_after : Moments → (uptime : Result ℕ Trouble) → ℕ
moment_after moments (Ok uptime) =
    max moments.last (min (moments.first + (uptime - moments.start)) (2 ^ 64 - 1))
moment_after moments (Err trouble) = moments.last

-- Between two readings as many milliseconds pass as on the monotonic clock.
abbrev pub PassesAsUptime : Type 0
PassesAsUptime = (moments : Moments) (one two : ℕ) → moments.start ≤ one → one ≤ two →
    moments.last ≤ moments.first + (one - moments.start) → moments.first + (two - moments.start) < 2 ^ 64 →
    moment_after (record moments { last = moment_after moments (Ok one) }) (Ok two) ≡
    moment_after moments (Ok one) + (two - one)

-- How the system's clock was set between two readings: the difference of what it shows and what it would
-- show if it had passed as the moments did.
abbrev pub step_of : (before now : Reading) → Option Step
step_of before now =
    if nat_lt (before.date + now.moment + 1000) (now.date + before.moment)
    then Some (Ahead (now.date + before.moment - (before.date + now.moment)))
    else if nat_lt (now.date + before.moment + 1000) (before.date + now.moment)
    then Some (Back (before.date + now.moment - (now.date + before.moment)))
    else None
