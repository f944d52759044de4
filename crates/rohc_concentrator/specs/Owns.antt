-- What a call makes of what a CID sees. Words: Gives, Takes; Makes; WouldAdd; Owns; Steps.
use Rattle.std.specs.Prelude.{◌≡◌, ℕ, ◌≤◌, Bool, true, false, ◌&&◌, nat_le, Option, Some, None}
use Rattle.std.specs.Bool.{MatchBool}
use Rattle.rohc_frame.specs.Header.{Header}
use Rattle.rohc_context.specs.declared.settings.Settings.{Settings}
use Rattle.rohc_context.specs.Record.{Record}
use Rattle.rohc_context.specs.Response.{Response}
use Rattle.rohc_context.specs.Step.{LoneStep}
use Rattle.rohc_concentrator.specs.declared.links.AddFault.{AddFault}
use Rattle.rohc_concentrator.specs.declared.links.AddFault.TheVariants as adds
use Rattle.rohc_concentrator.specs.declared.links.ChangeFault.TheVariants as changes
use Rattle.rohc_concentrator.specs.declared.putting.PutFault.TheVariants as puts
use Rattle.rohc_concentrator.specs.Report.{IsPoor}
use Rattle.rohc_concentrator.specs.Leaving.{left_of, is_same_kind, counts_at}
use Rattle.rohc_concentrator.specs.Seen.{Seen}
use Rattle.rohc_concentrator.specs.Calls.{CallAnswer, Done, NoSuchLink, NotAdded, NotChanged, NotPut, is_poor, LoneCall, LoneArrival, LoneForget, LoneExpiry, LoneAdd, LoneRemove, LoneChange, LonePut, LoneAnswer, Replied, Told, lone_answer}

-- this is answered, and this is seen then
abbrev pub Gives : CallAnswer → Option Seen → LoneAnswer → Option Seen → Type 0
Gives says next a after = (a ≡ Told says) × (after ≡ next)

-- an arrival is the lone step of the record
abbrev pub Takes : (moment : ℕ) → Header → Seen → LoneAnswer → Option Seen → Type 0
Takes moment h v a after = (response : Response) × (held : Option Record)
    × LoneStep v.held v.settings moment h response held
    × (a ≡ Replied response) × (after ≡ Some (record v { held = held }))

-- a record is put where the CID is within the greatest and has none
abbrev pub GivesPut : (within : Bool) → (held : Option Record) → Seen → Record → LoneAnswer → Option Seen →
    Type 0
GivesPut false held v r a after = Gives (NotPut puts.CidRange) (Some v) a after
GivesPut true (Some old) v r a after = Gives (NotPut puts.HasRecord) (Some v) a after
GivesPut true None v r a after = Gives Done (Some (record v { held = Some r })) a after

-- a record survives new settings: the CID kind stays, and the CID is at most the new greatest
abbrev pub survives_as : (before after : Settings) → (cid : ℕ) → Record → Bool
survives_as before after cid r = is_same_kind before.size after.size && nat_le cid after.max_cid

-- What a call makes of what a CID sees: the call, what is seen, the answer, and what is seen then.
abbrev pub Makes : ℕ → LoneCall → Option Seen → LoneAnswer → Option Seen → Type 0
Makes cid (LoneArrival moment h) None a after = ⊥
Makes cid (LoneArrival moment h) (Some v) a after = Takes moment h v a after
Makes cid LoneForget None a after = Gives NoSuchLink None a after
Makes cid LoneForget (Some v) a after = Gives Done (Some (record v { held = None })) a after
Makes cid (LoneExpiry moment) None a after = Gives NoSuchLink None a after
Makes cid (LoneExpiry moment) (Some v) a after =
    Gives Done (Some (record v { held = left_of (counts_at v.settings.idle_ms moment) cid v.held })) a after
Makes cid (LoneAdd s) None a after = Gives Done (Some (record { settings = s; held = None })) a after
Makes cid (LoneAdd s) (Some v) a after = Gives (NotAdded adds.DuplicateLink) (Some v) a after
Makes cid LoneRemove None a after = Gives NoSuchLink None a after
Makes cid LoneRemove (Some v) a after = Gives Done None a after
Makes cid (LoneChange s) None a after = Gives (NotChanged changes.NoLink) None a after
Makes cid (LoneChange s) (Some v) a after =
    Gives Done (Some (record { settings = s; held = left_of (survives_as v.settings s) cid v.held })) a after
Makes cid (LonePut r) None a after = Gives (NotPut puts.NoLink) None a after
Makes cid (LonePut r) (Some v) a after = GivesPut (nat_le cid v.settings.max_cid) v.held v r a after

-- Where a call may be refused for what others hold: where it would add something. That an added link is one
-- too many may be found first.
abbrev pub WouldAdd : ℕ → LoneCall → Option Seen → CallAnswer → Type 0
WouldAdd cid (LoneArrival moment h) (Some v) a =
    (response : Response) × IsPoor v.settings moment h v.held response v.held
    × (lone_answer a ≡ Replied response)
WouldAdd cid (LoneAdd s) None a = (fault : AddFault) × (a ≡ NotAdded fault)
WouldAdd cid (LoneAdd s) (Some v) a = a ≡ NotAdded adds.TooManyLinks
WouldAdd cid (LonePut r) (Some v) a =
    (a ≡ NotPut puts.NoMemory) × (cid ≤ v.settings.max_cid) × (v.held ≡ None)
WouldAdd cid e before a = ⊥

-- a CID's own call: what it makes, or a refusal for what others hold, which changes nothing
abbrev pub Owns : ℕ → LoneCall → Option Seen → CallAnswer → Option Seen → Type 0
Owns cid e before a after =
    MatchBool (is_poor a) ((after ≡ before) × WouldAdd cid e before a)
    (Makes cid e before (lone_answer a) after)

-- a call that doesn't concern the CID changes nothing for it
abbrev pub Steps : ℕ → Option LoneCall → Option Seen → CallAnswer → Option Seen → Type 0
Steps cid None before a after = after ≡ before
Steps cid (Some e) before a after = Owns cid e before a after
