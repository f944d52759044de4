-- Records that are forgotten. Words: reset_call, forget_turn; Forgets.
use Rattle.std.specs.Prelude.{◌≡◌, ℕ, Option, Some, None}
use Rattle.rohc_concentrator.specs.Calls.{Call, Reset, Forget, CallAnswer}
use Rattle.rohc_concentrator.specs.RunsCall.{RunsCall, Turn}
use Rattle.rohc_station.specs.declared.station.Station.{Station}
use Rattle.rohc_station.specs.ByCall.{KeepsStanding}
use Rattle.rohc_station.specs.Taking.{by_call_at}

-- all records of a link, or that of one CID
abbrev pub reset_call : Option ℕ → Call
reset_call None = Reset
reset_call (Some cid) = Forget cid

abbrev pub forget_turn : ℕ → Call → CallAnswer → Turn
forget_turn link call answer = record { link = link; call = call; answer = answer }

-- the concentrator is called so, the calls whose contexts stand keep their counts, and nothing else changes
pub record Forgets (old new : Station) (link : ℕ) (call : Call) (answer : CallAnswer) : Type 0 where
  pub runs : RunsCall old.concentrator link call answer new.concentrator
  pub counters : new.counters ≡ old.counters
  pub by_call : KeepsStanding new.concentrator (by_call_at old) (by_call_at new)
  pub totals : new.totals ≡ old.totals
  pub unknown_links : new.unknown_links ≡ old.unknown_links
  pub links : new.links ≡ old.links
