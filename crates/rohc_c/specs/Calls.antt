-- What the exported functions do to a gateway. Words: concentrator_in, Changes; HasRoom, HasArrived;
-- status_of, HasCalled; has_record.
use Rattle.std.specs.Prelude.{◌≡◌, ℕ, ◌+◌, ◌≤◌, List, length, Bool, false, is_some, Option, Some, None}
use Rattle.rohc_concentrator.specs.declared.concentrator.Concentrator.{Concentrator}
use Rattle.rohc_concentrator.specs.declared.links.AddFault.TheVariants as adds
use Rattle.rohc_concentrator.specs.declared.links.ChangeFault.TheVariants as changes
use Rattle.rohc_concentrator.specs.Report.{Report}
use Rattle.rohc_concentrator.specs.Tables.{record_at}
use Rattle.rohc_concentrator.specs.Calls.{Call, Arrive, CallAnswer, Reported, NoSuchLink, NotAdded, NotChanged}
use Rattle.rohc_concentrator.specs.RunsCall.{RunsCall}
use Rattle.rohc_c.specs.Written.{Buffers, IsAnswerWritten}
use Rattle.rohc_c.specs.declared.arrival.RohcArrival.{RohcArrival}
use Rattle.rohc_c.specs.declared.gateway.Gateway.{Gateway}

-- the concentrator that a gateway has, or none
abbrev pub concentrator_in : Gateway → Option Concentrator
concentrator_in g = g.handle.concentrator

-- there is a concentrator, before a call and after it, and this holds of the two
pub record Changes (old new : Option Concentrator) (P : Concentrator → Concentrator → Type 0) : Type 0 where
  pub before : Concentrator
  pub after : Concentrator
  pub was : old ≡ Some before
  pub is : new ≡ Some after
  pub holds : P before after

-- the buffers have room for any answer to a packet of these octets
pub record HasRoom (octets : List ℕ) (p : Buffers) : Type 0 where
  pub packet : length octets + 40 ≤ length p.packet
  pub feedback : 8 ≤ length p.feedback
  pub relayed : length octets ≤ length p.relayed

-- one arrival, whose whole answer stands in the struct and the buffers
abbrev pub HasArrived : (link moment : ℕ) → List ℕ → Buffers → RohcArrival → Concentrator → Concentrator →
    Type 0
HasArrived link moment octets p a k n =
    (report : Report) × RunsCall k link (Arrive moment octets) (Reported report) n
    × IsAnswerWritten report p a

-- the status of the answer to any other call
abbrev pub status_of : CallAnswer → ℕ
status_of NoSuchLink = 2
status_of (NotAdded adds.TooManyLinks) = 2
status_of (NotAdded adds.BadSetting) = 4
status_of (NotAdded adds.DuplicateLink) = 5
status_of (NotAdded adds.NoMemory) = 6
status_of (NotChanged changes.BadSetting) = 4
status_of (NotChanged changes.NoLink) = 7
status_of a = 0

-- one call, whose answer has this status
abbrev pub HasCalled : (link : ℕ) → Call → (status : ℕ) → Concentrator → Concentrator → Type 0
HasCalled link e status k n = (a : CallAnswer) × (status ≡ status_of a) × RunsCall k link e a n

-- there is a concentrator, and it has a record for the CID of the link
abbrev pub has_record : Option Concentrator → (link cid : ℕ) → Bool
has_record None link cid = false
has_record (Some k) link cid = is_some (record_at k link cid)
