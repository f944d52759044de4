-- The calls that change a concentrator. Words: Call, CallAnswer; is_poor; LoneCall, lone_call, LoneAnswer,
-- lone_answer, which are a CID's own.
use Rattle.std.specs.Prelude.{ℕ, List, Bool, true, false, ◌==◌, Option, Some, None, Result, Ok, Err, if◌then◌else◌}
use Rattle.rohc_frame.specs.Header.{Header}
use Rattle.rohc_context.specs.declared.settings.Settings.{Settings}
use Rattle.rohc_context.specs.Record.{Record}
use Rattle.rohc_context.specs.Response.{Response}
use Rattle.rohc_concentrator.specs.declared.setting.LinkSetting.{LinkSetting}
use Rattle.rohc_concentrator.specs.declared.links.AddFault.{AddFault}
use Rattle.rohc_concentrator.specs.declared.links.AddFault.TheVariants as adds
use Rattle.rohc_concentrator.specs.declared.links.ChangeFault.{ChangeFault}
use Rattle.rohc_concentrator.specs.declared.links.ChangeFault.TheVariants as changes
use Rattle.rohc_concentrator.specs.declared.putting.PutFault.{PutFault}
use Rattle.rohc_concentrator.specs.declared.putting.PutFault.TheVariants as puts
use Rattle.rohc_concentrator.specs.Setting.{settings_of}
use Rattle.rohc_concentrator.specs.Bears.{header_on}
use Rattle.rohc_concentrator.specs.Report.{Report, Arrived, wants_memory}

-- every public call that changes a concentrator, apart from the link that it is for
pub data Call : Type 0 where
  Arrive : ℕ → List ℕ → Call
  Reset : Call
  Forget : ℕ → Call
  ForgetExpired : ℕ → Call
  AddLink : LinkSetting → Call
  RemoveLink : Call
  ChangeLink : LinkSetting → Call
  Put : ℕ → Record → Call

-- the answer to a call: the report on a packet, or that it was done, or why it wasn't
pub data CallAnswer : Type 0 where
  Reported : Report → CallAnswer
  Done : CallAnswer
  NoSuchLink : CallAnswer
  NotAdded : AddFault → CallAnswer
  NotChanged : ChangeFault → CallAnswer
  NotPut : PutFault → CallAnswer

-- the answers of the code
abbrev pub plain_answer : {A E : Type 0} → Result A E → CallAnswer
plain_answer (Ok x) = Done
plain_answer (Err e) = NoSuchLink

abbrev pub add_answer : {A : Type 0} → Result A AddFault → CallAnswer
add_answer (Ok x) = Done
add_answer (Err fault) = NotAdded fault

abbrev pub change_answer : {A : Type 0} → Result A ChangeFault → CallAnswer
change_answer (Ok x) = Done
change_answer (Err fault) = NotChanged fault

abbrev pub put_answer : {A : Type 0} → Result A PutFault → CallAnswer
put_answer (Ok x) = Done
put_answer (Err fault) = NotPut fault

-- a call is refused for what others hold: there is no memory, or there are too many links
abbrev pub is_poor : CallAnswer → Bool
is_poor (Reported report) = wants_memory report
is_poor (NotAdded adds.TooManyLinks) = true
is_poor (NotAdded adds.NoMemory) = true
is_poor (NotPut puts.NoMemory) = true
is_poor a = false

-- a call as one CID of its link sees it
pub data LoneCall : Type 0 where
  LoneArrival : ℕ → Header → LoneCall
  LoneForget : LoneCall
  LoneExpiry : ℕ → LoneCall
  LoneAdd : Settings → LoneCall
  LoneRemove : LoneCall
  LoneChange : Settings → LoneCall
  LonePut : Record → LoneCall

-- the header of a packet of a link, if the link is there and the packet has one
abbrev pub header_at : Option LinkSetting → List ℕ → Option Header
header_at None octets = None
header_at (Some s) octets = header_on s octets

-- an arrival at the CID that the header names
abbrev pub arrival_for : ℕ → ℕ → Option Header → Option LoneCall
arrival_for cid moment None = None
arrival_for cid moment (Some h) = if h.cid == cid then Some (LoneArrival moment h) else None

-- What a call for a link is to a CID of it, if it concerns the CID. A packet concerns the CID that it bears,
-- by the link's setting. A setting that isn't good concerns none.
abbrev pub lone_call : ℕ → Call → CallAnswer → Option LinkSetting → Option LoneCall
lone_call cid (Arrive moment octets) a set = arrival_for cid moment (header_at set octets)
lone_call cid Reset a set = Some LoneForget
lone_call cid (Forget other) a set = if other == cid then Some LoneForget else None
lone_call cid (ForgetExpired moment) a set = Some (LoneExpiry moment)
lone_call cid (AddLink s) (NotAdded adds.BadSetting) set = None
lone_call cid (AddLink s) a set = Some (LoneAdd (settings_of s cid))
lone_call cid RemoveLink a set = Some LoneRemove
lone_call cid (ChangeLink s) (NotChanged changes.BadSetting) set = None
lone_call cid (ChangeLink s) a set = Some (LoneChange (settings_of s cid))
lone_call cid (Put other r) a set = if other == cid then Some (LonePut r) else None

-- the answer as a CID sees it: of a report on its packet, the response of its context
pub data LoneAnswer : Type 0 where
  Replied : Response → LoneAnswer
  Told : CallAnswer → LoneAnswer

abbrev pub lone_answer : CallAnswer → LoneAnswer
lone_answer (Reported (Arrived cid response relayed)) = Replied response
lone_answer a = Told a
