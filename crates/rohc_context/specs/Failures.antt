-- What a packet that isn't accepted does to a state (RFC 3095 5.3.2.2). Words: after_check, after_low_state.
use Rattle.std.specs.Prelude.{ℕ, ◌-◌, [], true, nat_le, if◌then◌else◌, Option, Some, option_map}
use Rattle.rohc_context.specs.declared.due.Due.{Due}
use Rattle.rohc_context.specs.declared.due.Due.TheVariants.{Nothing, Nack, StaticNack}
use Rattle.rohc_context.specs.Settings.{Limits}
use Rattle.rohc_context.specs.Record.{Reference, State, NoContext, StaticContext, FullContext}
use Rattle.rohc_context.specs.Window.{and_outcome, is_filled}

-- the state after a packet, and the feedback that is due
pub record Consequence : Type 0 where
  pub state : State
  pub due : Due

abbrev pub leads_to : State → Due → Consequence
leads_to state due = record { state = state; due = due }

-- the SN of a reference, if there is one
abbrev pub sn_of : Option Reference → Option ℕ
sn_of = option_map (λ (r : Reference). r.moving.sn)

-- A packet whose check doesn't match. Full Context falls to Static Context if its window is filled. Static
-- Context falls to No Context if the second window is filled, which is judged first; otherwise, if the first
-- window is filled, a NACK is due and that window is emptied. Other states stay.
abbrev pub after_check : Limits → (moment : ℕ) → State → Consequence
after_check l moment (FullContext fixed reference previous window) =
    if is_filled l.k1 l.n1 (and_outcome true window)
    then leads_to (StaticContext fixed (Some reference) [] []) (Nack (Some reference.moving.sn))
    else leads_to (FullContext fixed reference previous (and_outcome true window)) Nothing
after_check l moment (StaticContext fixed reference first second) =
    if is_filled l.k2 l.n2 (and_outcome true second)
    then leads_to (NoContext moment) StaticNack
    else if is_filled l.k1 l.n1 (and_outcome true first)
    then leads_to (StaticContext fixed reference [] (and_outcome true second)) (Nack (sn_of reference))
    else leads_to (StaticContext fixed reference (and_outcome true first) (and_outcome true second)) Nothing
after_check l moment state = leads_to state Nothing

-- A packet that the state doesn't take. In Static Context it is a failure in the first window alone. In No
-- Context a STATIC-NACK is due if `static_nack_ms` or more have passed since the last one. An earlier arrival
-- time counts as no time passed.
abbrev pub after_low_state : Limits → (moment : ℕ) → State → Consequence
after_low_state l moment (NoContext nacked) =
    if nat_le l.static_nack_ms (moment - nacked)
    then leads_to (NoContext moment) StaticNack
    else leads_to (NoContext nacked) Nothing
after_low_state l moment (StaticContext fixed reference first second) =
    if is_filled l.k1 l.n1 (and_outcome true first)
    then leads_to (StaticContext fixed reference [] second) (Nack (sn_of reference))
    else leads_to (StaticContext fixed reference (and_outcome true first) second) Nothing
after_low_state l moment state = leads_to state Nothing
