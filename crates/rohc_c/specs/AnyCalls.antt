-- The life of a gateway's concentrator: lists of the library's calls between an open and a close. Words: Use;
-- Uses, UseAll; Makes, MakeAll; IsLife, AnyCalls.
use Rattle.std.specs.Prelude.{◌≡◌, ℕ, List, [], ◌∷◌, ◌++◌, ◌⊎◌, Option, Some}
use Rattle.std.specs.List.{AllByRecursion}
use Rattle.rohc_context.specs.Record.{Record}
use Rattle.rohc_concentrator.specs.declared.concentrator.Concentrator.{Concentrator}
use Rattle.rohc_concentrator.specs.declared.setting.LinkSetting.{LinkSetting}
use Rattle.rohc_concentrator.specs.declared.putting.PutFault.TheVariants as puts
use Rattle.rohc_concentrator.specs.Report.{Report}
use Rattle.rohc_concentrator.specs.Seen.{view_at}
use Rattle.rohc_concentrator.specs.Calls.{Call, Arrive, CallAnswer, Reported, Done, NotPut}
use Rattle.rohc_concentrator.specs.RunsCall.{Turn, Runs}
use Rattle.rohc_concentrator.specs.OwnCalls.{IsIsolated}
use Rattle.rohc_concentrator.specs.LinkCalls.{calls_on, answers_on, LinkRun}
use Rattle.rohc_concentrator.specs.CallLaws.{IsFitTurn}
use Rattle.rohc_concentrator.specs.Sound.{IsInOrder}
use Rattle.rohc_saved.specs.Form.{Link, Form}
use Rattle.rohc_saved.specs.Restoring.{taken_of, put_turn, puts_of}
use Rattle.rohc_saved.specs.LinkRestoring.{SpellsLink, reset_turn}
use Rattle.rohc_c.specs.Written.{Buffers, IsAnswerWritten}
use Rattle.rohc_c.specs.Calls.{Changes, HasArrived, status_of, HasCalled}
use Rattle.rohc_c.specs.Many.{AreTold, HaveArrived}
use Rattle.rohc_c.specs.Saved.{IsLinkBack, IsNotLinkBack}
use Rattle.rohc_c.specs.declared.arrival.RohcArrival.{RohcArrival}
use Rattle.rohc_c.specs.declared.many.RohcPacket.{RohcPacket}
use Rattle.rohc_c.specs.declared.saved.RohcRestored.{RohcRestored}

-- a call of the library with what it writes and returns; `Looks` is one that changes nothing
pub data Use : Type 0 where
  Arrives : (link moment : ℕ) → List ℕ → Buffers → RohcArrival → Use
  ArriveMany : List RohcPacket → (octets room : List ℕ) → List RohcArrival → Use
  Calls : (link : ℕ) → Call → (status : ℕ) → Use
  Restores : (link : ℕ) → List ℕ → RohcRestored → Use
  Fails : (link : ℕ) → List ℕ → (status place : ℕ) → Use
  Looks : Use

-- what the clause of its function says
abbrev pub Uses : Use → Concentrator → Concentrator → Type 0
Uses (Arrives link moment octets p a) k n = HasArrived link moment octets p a k n
Uses (ArriveMany packets octets room answers) k n = HaveArrived packets octets room answers k n
Uses (Calls link e status) k n = HasCalled link e status k n
Uses (Restores link octets r) k n = IsLinkBack link octets r k n
Uses (Fails link octets status place) k n = IsNotLinkBack link octets status place k n
Uses Looks k n = n ≡ k

-- calls of the library one after another
abbrev pub UseAll : Option Concentrator → List Use → Option Concentrator → Type 0
UseAll old [] new = new ≡ old
UseAll old (u ∷ uses) new = (mid : Option Concentrator) × Changes old mid (Uses u) × UseAll mid uses new

-- a link is put into until memory runs out, and is then reset
pub record PutsInVain (link : ℕ) (octets : List ℕ) (turns : List Turn) : Type 0 where
  pub setting : LinkSetting
  pub form : Form
  pub saved : Link
  pub spells : SpellsLink octets link form saved
  pub done : List (ℕ × Record)
  pub one : ℕ × Record
  pub behind : List (ℕ × Record)
  pub parts : taken_of (Some setting) saved ≡ done ++ one ∷ behind
  pub are : turns ≡ puts_of link done ++ put_turn (NotPut puts.NoMemory) link one ∷ reset_turn Done link ∷ []

-- the calls that it makes of the concentrator, with their answers
abbrev pub Makes : Use → List Turn → Type 0
Makes (Arrives link moment octets p a) turns =
    (report : Report) × IsAnswerWritten report p a
    × (turns ≡ record { link = link; call = Arrive moment octets; answer = Reported report } ∷ [])
Makes (ArriveMany packets octets room answers) turns = AreTold packets octets room answers turns
Makes (Calls link e status) turns =
    (a : CallAnswer) × (status ≡ status_of a) × (turns ≡ record { link = link; call = e; answer = a } ∷ [])
Makes (Restores link octets r) turns =
    (s : LinkSetting) × (form : Form) × (saved : Link) × SpellsLink octets link form saved
    × (turns ≡ puts_of link (taken_of (Some s) saved))
Makes (Fails link octets status place) turns = (turns ≡ []) ⊎ PutsInVain link octets turns
Makes Looks turns = turns ≡ []

abbrev pub MakeAll : List Use → List Turn → Type 0
MakeAll [] turns = turns ≡ []
MakeAll (u ∷ uses) turns =
    (own rest : List Turn) × Makes u own × MakeAll uses rest × (turns ≡ own ++ rest)

-- The life of the concentrator is a run of these calls. So each CID of each link is isolated, and each link,
-- and the concentrator stays sound.
pub record IsLife (k n : Concentrator) (turns : List Turn) : Type 0 where
  pub runs : Runs k turns n
  pub cids : (l c : ℕ) → IsIsolated k n turns l c
  pub links : (l : ℕ) → LinkRun (view_at k l) (calls_on l turns) (answers_on l turns) (view_at n l)
  pub sound : AllByRecursion IsFitTurn turns → IsInOrder k → IsInOrder n

-- Whatever calls of the library come between an open and a close, they are one life of the concentrator.
abbrev pub AnyCalls : Type 0
AnyCalls = (k : Concentrator) (new : Option Concentrator) (uses : List Use) → UseAll (Some k) uses new →
    (n : Concentrator) × (turns : List Turn) × (new ≡ Some n) × MakeAll uses turns × IsLife k n turns
