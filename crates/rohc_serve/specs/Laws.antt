-- Laws of a server: its turns are calls of its concentrator, and numbered elements name their link.
-- Words: IsCall, AreCalls; ServedRuns, ServedIsRun; NumberedNamesLink.
use Rattle.std.specs.Prelude.{◌≡◌, ◌<◌, ◌^◌, ℕ, List, [], ◌∷◌, ◌++◌, Option, Some, None}
use Rattle.rohc_concentrator.specs.declared.concentrator.Concentrator.{Concentrator}
use Rattle.rohc_concentrator.specs.Report.{Report}
use Rattle.rohc_concentrator.specs.Calls.{Arrive, Reported}
use Rattle.rohc_concentrator.specs.RunsCall.{Turn, Runs}
use Rattle.rohc_concentrator.specs.OwnCalls.{IsIsolated}
use Rattle.rohc_links.specs.Links.{Lists}
use Rattle.rohc_serve.specs.Datagram.{named_link, datagram_packet}
use Rattle.rohc_serve.specs.Sending.{packet_octets, numbered}
use Rattle.rohc_serve.specs.Turns.{ServeTurn, Missed, Answered, ServesTurns}

-- a datagram that names a link is one call, the arrival of its packet; any other is none
abbrev pub IsCall : Option ℕ → ℕ → List ℕ → List Turn → Type 0
IsCall None moment packet calls = calls ≡ []
IsCall (Some link) moment packet calls =
    (report : Report)
    × (calls ≡ record { link = link; call = Arrive moment packet; answer = Reported report } ∷ [])

-- the calls of turns, in their order; a failed receive is none
abbrev pub AreCalls : List ServeTurn → List Turn → Type 0
AreCalls [] calls = calls ≡ []
AreCalls (Missed ∷ turns) calls = AreCalls turns calls
AreCalls (Answered moment octets outgoing attempts ∷ turns) calls =
    (first later : List Turn) × IsCall (named_link octets) moment (datagram_packet octets) first
    × AreCalls turns later × (calls ≡ first ++ later)

-- these turns are one run of calls, which isolates each CID of each link
pub record ServedRuns (old new : Concentrator) (turns : List ServeTurn) : Type 0 where
  pub calls : List Turn
  pub each : AreCalls turns calls
  pub run : Runs old calls new
  pub isolated : (l c : ℕ) → IsIsolated old new calls l c

-- Whatever a server receives, its turns are one run of calls of its concentrator.
abbrev pub ServedIsRun : Type 0
ServedIsRun = (links : Lists) (old new : Concentrator) (turns : List ServeTurn) →
    ServesTurns links old turns new → ServedRuns old new turns

-- An element behind the number of its link reads as a datagram of this link, with the element in place of a
-- packet.
abbrev pub NumberedNamesLink : Type 0
NumberedNamesLink = (link : ℕ) (element : List ℕ) → link < 2 ^ 16 →
    (named_link (packet_octets (numbered link element)) ≡ Some link)
    × (datagram_packet (packet_octets (numbered link element)) ≡ element)
