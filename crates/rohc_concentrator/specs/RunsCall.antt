-- One call as one fact, and calls one after another. Words: IsFront; CidsOrdered, setting_made; LinkStep;
-- IsCrowd, LinksOrdered; RunsCall; Turn, Runs.
use Rattle.std.specs.Prelude.{◌≡◌, ◌≢◌, ℕ, ◌<◌, ◌≤◌, List, [], ◌∷◌, ◌++◌, length, filter, is_some, ◌==◌, Option, Some, None, Result, Ok, Err}
use Rattle.std.specs.Bool.{MatchBool}
use Rattle.rohc_frame.specs.Header.{Header}
use Rattle.rohc_frame.specs.Reading.{Reading}
use Rattle.rohc_frame.specs.Parts.{parts_of}
use Rattle.rohc_frame.specs.declared.refusal.FrameRefusal.{FrameRefusal}
use Rattle.rohc_context.specs.declared.refusal.Refusal.TheVariants as refusals
use Rattle.rohc_context.specs.Framing.{refusal_of_framing}
use Rattle.rohc_context.specs.Record.{Record}
use Rattle.rohc_context.specs.Response.{Response}
use Rattle.rohc_concentrator.specs.declared.concentrator.Concentrator.{Concentrator}
use Rattle.rohc_concentrator.specs.declared.setting.LinkSetting.{LinkSetting}
use Rattle.rohc_concentrator.specs.declared.links.AddFault.TheVariants as adds
use Rattle.rohc_concentrator.specs.declared.links.ChangeFault.TheVariants as changes
use Rattle.rohc_concentrator.specs.Setting.{IsGoodSetting}
use Rattle.rohc_concentrator.specs.Tables.{settings_in_order}
use Rattle.rohc_concentrator.specs.Bears.{borne}
use Rattle.rohc_concentrator.specs.Report.{Arrived, OnlyFront, Refused}
use Rattle.rohc_concentrator.specs.Seen.{Seen, held_of, View, view_at}
use Rattle.rohc_concentrator.specs.Calls.{Call, Arrive, AddLink, RemoveLink, ChangeLink, Put, CallAnswer, Reported, Done, NotAdded, NotChanged, lone_call}
use Rattle.rohc_concentrator.specs.Owns.{Steps}

-- the answer to a packet, apart from the response of the context of its CID
abbrev pub IsFrontOf : List (List ℕ) → Option Header → CallAnswer → Type 0
IsFrontOf relayed None a = a ≡ Reported (OnlyFront relayed)
IsFrontOf relayed (Some h) a = (response : Response) × (a ≡ Reported (Arrived h.cid response relayed))

abbrev pub IsFrontIn : Result Reading FrameRefusal → CallAnswer → Type 0
IsFrontIn (Err refusal) a = a ≡ Reported (Refused (refusal_of_framing refusal))
IsFrontIn (Ok reading) a = IsFrontOf reading.elements reading.header a

abbrev pub IsFrontOn : Option LinkSetting → List ℕ → CallAnswer → Type 0
IsFrontOn None octets a = a ≡ Reported (Refused refusals.NoLink)
IsFrontOn (Some s) octets a = IsFrontIn (parts_of s.settings.size s.settings.max_cid octets) a

-- The part of an answer that is no CID's: a packet's without the response, and whether a setting is good.
-- That is asked after whether there are too many links, and whether a link to be changed is there.
abbrev pub IsFront : Call → Option LinkSetting → CallAnswer → Type 0
IsFront (Arrive moment octets) set a = IsFrontOn set octets a
IsFront (AddLink s) set (NotAdded adds.TooManyLinks) = Unit {0}
IsFront (AddLink s) set (NotAdded adds.BadSetting) = ¬ IsGoodSetting s
IsFront (AddLink s) set a = IsGoodSetting s
IsFront (ChangeLink s) set (NotChanged changes.NoLink) = set ≡ None
IsFront (ChangeLink s) set (NotChanged changes.BadSetting) = (set ≢ None) × (¬ IsGoodSetting s)
IsFront (ChangeLink s) set a = IsGoodSetting s
IsFront e set a = Unit {0}

-- a CID's first record goes last, and any other keeps its place
abbrev pub GoesLast : (before after : Option Record) → ℕ → (old new : List ℕ) → Type 0
GoesLast None (Some r) cid old new = new ≡ old ++ cid ∷ []
GoesLast before after cid old new = new ≡ old

-- the same of a packet that bears a CID, or none
abbrev pub GoesLastOf : Option ℕ → (before after : ℕ → Option Seen) → (old new : List ℕ) → Type 0
GoesLastOf None before after old new = new ≡ old
GoesLastOf (Some cid) before after old new =
    GoesLast (held_of (before cid)) (held_of (after cid)) cid old new

-- the CIDs of a link that have a record: those that are left keep their order, and a first record goes last
abbrev pub CidsOrdered : Call → CallAnswer → View → View → Type 0
CidsOrdered (Arrive moment octets) a v w = GoesLastOf (borne v.setting octets) v.seen w.seen v.cids w.cids
CidsOrdered (Put cid r) a v w = GoesLast (held_of (v.seen cid)) (held_of (w.seen cid)) cid v.cids w.cids
CidsOrdered e Done v w = w.cids ≡ filter (λ cid. is_some (held_of (w.seen cid))) v.cids
CidsOrdered e a v w = w.cids ≡ v.cids

-- the setting of the link that a call is for
abbrev pub setting_made : Call → CallAnswer → Option LinkSetting → Option LinkSetting
setting_made (AddLink s) Done set = Some s
setting_made (ChangeLink s) Done set = Some s
setting_made RemoveLink Done set = None
setting_made e a set = set

-- one call of a link: each CID of it takes its own step, or stays
pub record LinkStep (v : View) (e : Call) (a : CallAnswer) (w : View) : Type 0 where
  pub each : (cid : ℕ) → Steps cid (lone_call cid e a v.setting) (v.seen cid) a (w.seen cid)
  pub setting : w.setting ≡ setting_made e a v.setting
  pub front : IsFront e v.setting a
  pub order : CidsOrdered e a v w

-- an added link is one too many exactly if there are 256 links, whatever it is
abbrev pub IsCrowd : Call → (links : ℕ) → CallAnswer → Type 0
IsCrowd (AddLink s) links (NotAdded adds.TooManyLinks) = 256 ≤ links
IsCrowd (AddLink s) links a = links < 256
IsCrowd e links a = Unit {0}

-- a link's setting gives way to these settings
abbrev pub GivesWay : Option LinkSetting → List LinkSetting → (old new : List LinkSetting) → Type 0
GivesWay set these old new = (front behind : List LinkSetting) × (s : LinkSetting) × (set ≡ Some s)
    × (old ≡ front ++ s ∷ behind) × (new ≡ front ++ (these ++ behind))

-- the links' settings: a new link goes last, and the others keep their order
abbrev pub LinksOrdered : Call → CallAnswer → Option LinkSetting → (old new : List LinkSetting) → Type 0
LinksOrdered (AddLink s) Done set old new = new ≡ old ++ s ∷ []
LinksOrdered RemoveLink Done set old new = GivesWay set [] old new
LinksOrdered (ChangeLink s) Done set old new = GivesWay set (s ∷ []) old new
LinksOrdered e a set old new = new ≡ old

-- One call for a link: the concentrator before it, the answer, and the concentrator after it. Every link at
-- once takes its own step, or stays.
pub record RunsCall (old : Concentrator) (link : ℕ) (e : Call) (a : CallAnswer) (new : Concentrator) : Type 0
  where
    pub each : (l : ℕ) → MatchBool (link == l)
        (LinkStep (view_at old l) e a (view_at new l)) (view_at new l ≡ view_at old l)
    pub crowd : IsCrowd e (length (settings_in_order old)) a
    pub links : LinksOrdered e a (view_at old link).setting (settings_in_order old) (settings_in_order new)

-- a call, the link that it is for, and its answer
pub record Turn : Type 0 where
  pub link : ℕ
  pub call : Call
  pub answer : CallAnswer

-- calls one after another, each with its answer
abbrev pub Runs : Concentrator → List Turn → Concentrator → Type 0
Runs old [] new = new ≡ old
Runs old (t ∷ turns) new =
    (mid : Concentrator) × RunsCall old t.link t.call t.answer mid × Runs mid turns new
