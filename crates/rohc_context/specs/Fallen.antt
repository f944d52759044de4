-- What a context comes back as whose reference is too old to be trusted with a 3-bit check.
-- Words: fallen_state, fallen; StaysGood, StaysInTime, FallsAsByChecks, TakesUor2Alone.
use Rattle.std.specs.Prelude.{◌≡◌, ◌<◌, ℕ, List, [], Bool, true, Option, Some}
use Rattle.rohc_frame.specs.declared.header.HeadKind.TheVariants.{Other}
use Rattle.rohc_header.specs.declared.fields.Static.{Static}
use Rattle.rohc_context.specs.declared.settings.Settings.{Settings}
use Rattle.rohc_context.specs.Settings.{Limits}
use Rattle.rohc_context.specs.Window.{and_outcome, is_filled}
use Rattle.rohc_context.specs.Record.{Reference, State, Plain, NoContext, StaticContext, FullContext, Record}
use Rattle.rohc_context.specs.Good.{IsGoodRecord}
use Rattle.rohc_context.specs.Failures.{after_check}
use Rattle.rohc_context.specs.Step.{TooLow, rule, counts}

-- Full Context falls to Static Context: its reference stays, its windows are empty, and it has no previous
-- reference. The other states stay.
abbrev pub fallen_state : State → State
fallen_state Plain = Plain
fallen_state (NoContext nacked) = NoContext nacked
fallen_state (StaticContext fixed reference first second) = StaticContext fixed reference first second
fallen_state (FullContext fixed reference previous window) = StaticContext fixed (Some reference) [] []

-- the time of the last accepted arrival stays
unfoldable pub fallen : Record → Record
fallen r = record { accepted = r.accepted; state = fallen_state r.state }

-- A good record falls to a good one.
abbrev pub StaysGood : Type 0
StaysGood = (r : Record) → IsGoodRecord r → IsGoodRecord (fallen r)

-- It counts as long as before.
abbrev pub StaysInTime : Type 0
StaysInTime = (s : Settings) (moment : ℕ) (r : Record) → counts s moment (fallen r) ≡ counts s moment r

-- Full Context falls to the state to which failed checks lead it (RFC 3095 5.3.2.2.3).
abbrev pub FallsAsByChecks : Type 0
FallsAsByChecks = (l : Limits) (moment accepted : ℕ) (fixed : Static) (reference : Reference)
    (previous : Option Reference) (window : List Bool) →
    is_filled l.k1 l.n1 (and_outcome true window) ≡ true →
    (fallen (record { accepted = accepted; state = FullContext fixed reference previous window })).state
    ≡ (after_check l moment (FullContext fixed reference previous window)).state

-- What fell from Full Context takes no packet of kind Other whose check has three bits: the first octets of
-- the UOR-2 formats alone are C0 or above (RFC 3095 5.7).
abbrev pub TakesUor2Alone : Type 0
TakesUor2Alone = (accepted first : ℕ) (fixed : Static) (reference : Reference) (previous : Option Reference)
    (window : List Bool) → first < 0xc0 →
    rule (fallen (record { accepted = accepted; state = FullContext fixed reference previous window })).state
    Other first ≡ TooLow
