-- A link that is moved to another gateway. Words: MoveIsLife; IsMoved, MovedGoesOn.
use Rattle.std.specs.Prelude.{◌≡◌, ℕ, ◌<◌, ◌^◌, List, ◌∷◌, Some, Result, Ok}
use Rattle.rohc_concentrator.specs.declared.setting.LinkSetting.{LinkSetting}
use Rattle.rohc_concentrator.specs.Tables.{setting_at}
use Rattle.rohc_concentrator.specs.Seen.{view_at}
use Rattle.rohc_concentrator.specs.RunsCall.{Turn}
use Rattle.rohc_concentrator.specs.LinkCalls.{calls_on, answers_on}
use Rattle.rohc_concentrator.specs.Sound.{IsInOrder}
use Rattle.rohc_saved.specs.declared.fault.LinkFault.{LinkFault}
use Rattle.rohc_saved.specs.declared.restored.Restored.{Restored}
use Rattle.rohc_saved.specs.Form.{saved_link}
use Rattle.rohc_station.specs.declared.station.Station.{Station}
use Rattle.rohc_station.specs.declared.duty.Duty.{Duty}
use Rattle.rohc_station.specs.Importing.{Imports}
use Rattle.rohc_station.specs.Life.{StationTurn, Import, Life, IsLife, IsFitLife, calls_in}
use Rattle.rohc_station.specs.Held.{HeldDatagram}
use Rattle.rohc_station.specs.Service.{View, AnswersEach, AreAnswers}

-- the turn of an import
abbrev pub import_turn : (link : ℕ) → List ℕ → Result Restored LinkFault → List Turn → StationTurn
import_turn link octets result calls = record { call = Import link octets result; calls = calls }

-- A station imports a link, and the datagrams that waited for it are answered: that is a life.
abbrev pub MoveIsLife : Type 0
MoveIsLife = (before : Station) (old new : View) (link : ℕ) (octets : List ℕ)
    (result : Result Restored LinkFault) (calls : List Turn) (duty : Duty) (held : List HeldDatagram) →
    Imports before old.station link octets result calls → AnswersEach duty old held new →
    (turns : List StationTurn) × AreAnswers duty held turns × IsLife (record {
      before = before;
      after = new.station;
      turns = import_turn link octets result calls ∷ turns;
    })

-- a station imported what another saved of a link that has the same setting in both
pub record IsMoved (here there : Station) (s : LinkSetting) : Type 0 where
  pub sound : IsInOrder here.concentrator
  pub set_here : setting_at here.concentrator s.link ≡ Some s
  pub moment : ℕ
  pub fits : moment < 2 ^ 64
  pub before : Station
  pub set_there : setting_at before.concentrator s.link ≡ Some s
  pub told : Restored
  pub calls : List Turn
  pub imports : Imports before there s.link (saved_link moment here.concentrator s) (Ok told) calls

-- From then on the link gets there the answers that it would have got here, whatever else comes there: two
-- lives with the same calls of the link, lack of memory and too many links aside, answer it alike and end
-- alike for it.
abbrev pub MovedGoesOn : Type 0
MovedGoesOn = (a b : Life) (s : LinkSetting) → IsMoved a.before b.before s →
    IsLife a → IsLife b → IsFitLife a →
    calls_on s.link (calls_in a) ≡ calls_on s.link (calls_in b) →
    (answers_on s.link (calls_in a) ≡ answers_on s.link (calls_in b))
    × (view_at a.after.concentrator s.link ≡ view_at b.after.concentrator s.link)
