-- The contexts of a link that are put into it. Words: PutsAll, PutsSome, StopsImport; ImportsInto,
-- KeepsCounted; Imports.
use Rattle.std.specs.Prelude.{◌≡◌, ◌⊎◌, ℕ, List, [], ◌∷◌, ◌++◌, Some, Result, Ok, Err}
use Rattle.rohc_concentrator.specs.declared.concentrator.Concentrator.{Concentrator}
use Rattle.rohc_concentrator.specs.declared.setting.LinkSetting.{LinkSetting}
use Rattle.rohc_concentrator.specs.declared.putting.PutFault.TheVariants as puts
use Rattle.rohc_concentrator.specs.Tables.{KeepsAll}
use Rattle.rohc_concentrator.specs.Calls.{Done, NotPut}
use Rattle.rohc_concentrator.specs.RunsCall.{Turn}
use Rattle.rohc_saved.specs.declared.fault.LinkFault.{LinkFault}
use Rattle.rohc_saved.specs.declared.fault.LinkFault.TheVariants.{NoMemory}
use Rattle.rohc_saved.specs.declared.restored.Restored.{Restored}
use Rattle.rohc_saved.specs.Restoring.{taken_of, put_turn, puts_of}
use Rattle.rohc_saved.specs.LinkRestoring.{RestoresLink, reset_turn, RunsOut, LinkFaultIn}
use Rattle.rohc_station.specs.declared.station.Station.{Station}

-- the calls put the contexts of a link into it, where none is
abbrev pub PutsAll : Concentrator → (link : ℕ) → List ℕ → Restored → List Turn → Concentrator → Type 0
PutsAll old link octets told calls new = (all : RestoresLink old link octets told new)
    × (calls ≡ puts_of link (taken_of (Some all.setting) all.saved))

-- they put some of them, one for which there is no memory, and then reset the link
abbrev pub PutsSome : Concentrator → (link : ℕ) → List ℕ → List Turn → Concentrator → Type 0
PutsSome old link octets calls new = (s : LinkSetting) × (out : RunsOut old link s octets new)
    × (calls ≡ puts_of link out.stops.done
    ++ put_turn (NotPut puts.NoMemory) link out.stops.one ∷ reset_turn Done link ∷ [])

-- the calls of an import that has this fault: none, unless memory runs out at a put
abbrev pub StopsImport : Concentrator → (link : ℕ) → List ℕ → LinkFault → List Turn → Concentrator → Type 0
StopsImport old link octets fault calls new =
    ((new ≡ old) × (calls ≡ [])) ⊎ ((fault ≡ NoMemory) × PutsSome old link octets calls new)

-- the contexts are put, or nothing changes
abbrev pub ImportsInto : Concentrator → (link : ℕ) → List ℕ → Result Restored LinkFault → List Turn
    → Concentrator → Type 0
ImportsInto old link octets (Ok told) calls new = PutsAll old link octets told calls new
ImportsInto old link octets (Err fault) calls new = KeepsAll old new
    × LinkFaultIn old link octets new fault × StopsImport old link octets fault calls new

-- nothing but the concentrator changes
pub record KeepsCounted (old new : Station) : Type 0 where
  pub counters : new.counters ≡ old.counters
  pub by_call : new.by_call ≡ old.by_call
  pub totals : new.totals ≡ old.totals
  pub unknown_links : new.unknown_links ≡ old.unknown_links
  pub links : new.links ≡ old.links

pub record Imports (old new : Station) (link : ℕ) (octets : List ℕ) (result : Result Restored LinkFault)
    (calls : List Turn) : Type 0 where
  pub puts : ImportsInto old.concentrator link octets result calls new.concentrator
  pub keeps : KeepsCounted old new
