-- A record that fell is good, in time, and what failed checks leave.
use Rattle.std.proofs.Common.{◌≡◌, ℕ, ◌<◌, false, if◌then◌else◌, refl, ap, arith}
use Rattle.std.specs.Prelude.{nat_le}
use Rattle.std.proofs.lemmas.Bool.Decides.{nat_tests}
use Rattle.rohc_context.specs.Record.{State, Plain, NoContext, StaticContext, FullContext}
use Rattle.rohc_context.specs.Good.{IsGoodState}
use Rattle.rohc_context.specs.Step.{Update, TooLow}
use Rattle.rohc_context.specs.Fallen.{fallen_state, fallen, StaysGood, StaysInTime, FallsAsByChecks, TakesUor2Alone}

pub stays_good : StaysGood
unfolding fallen
stays_good r good = record { accepted = good.accepted; state = go r.state good.state } where
  go : (state : State) → IsGoodState state → IsGoodState (fallen_state state)
  go Plain is = tt
  go (NoContext nacked) is = is
  go (StaticContext fixed reference first second) is = is
  go (FullContext fixed reference previous window) is = (is.0, is.1, omega arith, omega arith)

pub stays_in_time : StaysInTime
unfolding fallen
stays_in_time s moment r = refl

pub falls_as_by_checks : FallsAsByChecks
unfolding fallen
falls_as_by_checks l moment accepted fixed reference previous window filled = rw filled refl

pub takes_uor_2_alone : TakesUor2Alone
unfolding fallen
takes_uor_2_alone accepted first fixed reference previous window low = ap (λ b. if b then Update else TooLow) (above first low) where
  above : (first : ℕ) → first < 0xc0 → nat_le 0xc0 first ≡ false
  above first low = grind (arith, nat_tests)
