-- Good values: each number is in the range of its field.
-- Words: IsGoodReference, IsGoodPrevious, IsGoodRecord, IsGoodHeader, AreGoodValues.
use Rattle.std.specs.Prelude.{◌≡◌, ℕ, ◌<◌, ◌≤◌, ◌^◌, List, length, Bool, false, Option, IfSome}
use Rattle.rohc_frame.specs.Header.{Header}
use Rattle.rohc_frame.specs.Laws.{IsGood}
use Rattle.rohc_chain.specs.Good.{IsGoodStatic, IsGoodDynamic}
use Rattle.rohc_context.specs.declared.settings.Settings.{Settings}
use Rattle.rohc_context.specs.Settings.{AreGood}
use Rattle.rohc_context.specs.Previous.{SharesNumbering}
use Rattle.rohc_context.specs.Record.{Reference, State, Plain, NoContext, StaticContext, FullContext, Record}

-- the fields of a header, without a marker
pub record IsGoodReference (r : Reference) : Type 0 where
  pub moving : IsGoodDynamic r.moving
  pub unmarked : r.moving.marker ≡ false

-- A previous reference has the RND, the NBO, the stride and the presence of a UDP checksum of the held one.
pub record IsGoodPrevious (held previous : Reference) : Type 0 where
  pub good : IsGoodReference previous
  pub numbering : SharesNumbering held.moving previous.moving
  pub sum : held.carries_sum ≡ previous.carries_sum

-- at most 64 outcomes
abbrev pub IsGoodWindow : List Bool → Type 0
IsGoodWindow window = length window ≤ 64

abbrev pub IsGoodState : State → Type 0
IsGoodState Plain = Unit {0}
IsGoodState (NoContext nacked) = nacked < 2 ^ 64
IsGoodState (StaticContext fixed reference first second) =
    IsGoodStatic fixed × IfSome reference IsGoodReference × IsGoodWindow first × IsGoodWindow second
IsGoodState (FullContext fixed reference previous window) =
    IsGoodStatic fixed × IsGoodReference reference × IfSome previous (IsGoodPrevious reference)
    × IsGoodWindow window

pub record IsGoodRecord (r : Record) : Type 0 where
  pub accepted : r.accepted < 2 ^ 64
  pub state : IsGoodState r.state

-- a header of the settings' CID kind, with a CID within their greatest, made of octets
abbrev pub IsGoodHeader : Settings → Header → Type 0
IsGoodHeader s h = IsGood s.size s.max_cid h

-- the values of a step are good: the record, if there is one, the settings, the arrival time and the header
pub record AreGoodValues (before : Option Record) (s : Settings) (moment : ℕ) (h : Header) : Type 0 where
  pub record_before : IfSome before IsGoodRecord
  pub settings : AreGood s
  pub moment_fits : moment < 2 ^ 64
  pub header : IsGoodHeader s h
