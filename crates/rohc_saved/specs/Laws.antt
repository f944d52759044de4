-- Laws of saved concentrators. Words: IsGoodLink, IsGoodForm; FormIsSpelled, IsReadBack, MomentIsInFront;
-- ComesBack, ComesBackFallen, LinkComesBack; IsMadeSound, IsKeptSound, IsRestoredSound, IsLinkRestoredSound;
-- GoesOnRestored, CutByRestart; IsRestoredFrom, CutCallsByRestart.
use Rattle.std.specs.Prelude.{◌≡◌, ◌++◌, ◌<◌, ◌≤◌, ◌^◌, ℕ, List, [], ◌∷◌, map, length, filter, nat_eq, All, Option, Some, None, option_map, Ok}
use Rattle.std.specs.List.{AllByRecursion, IsDistinct}
use Rattle.rohc_bits.specs.Bits.{IsOctet}
use Rattle.rohc_frame.specs.Header.{greatest_cid}
use Rattle.rohc_context.specs.Good.{IsGoodRecord}
use Rattle.rohc_context.specs.Record.{Record}
use Rattle.rohc_context.specs.Fallen.{fallen}
use Rattle.rohc_concentrator.specs.declared.concentrator.Concentrator.{Concentrator}
use Rattle.rohc_concentrator.specs.declared.setting.LinkSetting.{LinkSetting}
use Rattle.rohc_concentrator.specs.Tables.{record_at, identifiers_at, setting_at, settings_in_order, KeepsSettings, KeepsAll}
use Rattle.rohc_concentrator.specs.Setup.{entry_of, AreFine}
use Rattle.rohc_concentrator.specs.Report.{Report}
use Rattle.rohc_concentrator.specs.Events.{Event, RunsEvents}
use Rattle.rohc_concentrator.specs.LoneRun.{unmarked}
use Rattle.rohc_concentrator.specs.Isolation.{EventRun, own_events, own_replies, is_rich}
use Rattle.rohc_concentrator.specs.Laws.{IsFit}
use Rattle.rohc_concentrator.specs.Sound.{IsInOrder}
use Rattle.rohc_concentrator.specs.Seen.{seen_at}
use Rattle.rohc_concentrator.specs.RunsCall.{Turn, Runs}
use Rattle.rohc_concentrator.specs.OwnCalls.{calls_to, answers_to}
use Rattle.rohc_concentrator.specs.CallLaws.{IsFitTurn}
use Rattle.rohc_saved.specs.Form.{Link, Form, form_text, signed, saved_link_of, form_of, saved_form, saved_link}
use Rattle.rohc_saved.specs.Reading.{moment_at, restored}
use Rattle.rohc_saved.specs.Fallen.{fallen_form}
use Rattle.rohc_saved.specs.Restoring.{Restores}
use Rattle.rohc_saved.specs.LinkRestoring.{RestoresLink}
use Rattle.rohc_saved.specs.declared.restored.Restored.{Restored}

-- a CID within the greatest, and a good record
pub record IsGoodContext (greatest : ℕ) (c : ℕ × Record) : Type 0 where
  pub within : c.0 ≤ greatest
  pub good : IsGoodRecord c.1

-- numbers in their ranges, and CIDs that are apart
pub record IsGoodLink (l : ℕ × Link) : Type 0 where
  pub number : l.0 < 65536
  pub greatest : l.1.greatest ≤ greatest_cid l.1.size
  pub few : length l.1.contexts < 65536
  pub contexts : All (IsGoodContext l.1.greatest) l.1.contexts
  pub apart : IsDistinct nat_eq (map (λ (c : ℕ × Record). c.0) l.1.contexts)

-- good links that are apart
pub record IsGoodForm (form : Form) : Type 0 where
  pub moment : form.moment < 2 ^ 64
  pub few : length form.links < 65536
  pub links : All IsGoodLink form.links
  pub apart : IsDistinct nat_eq (map (λ (l : ℕ × Link). l.0) form.links)

-- Octets that are read as a form are those of that form.
abbrev pub FormIsSpelled : Type 0
FormIsSpelled = (text : List ℕ) (form : Form) → All IsOctet text → restored text ≡ Ok form →
    text ≡ signed (form_text form)

-- The octets of a good form are read as that form.
abbrev pub IsReadBack : Type 0
IsReadBack = (form : Form) → IsGoodForm form → restored (signed (form_text form)) ≡ Ok form

-- The moment of octets that are read as a form is the one that their first octets tell.
abbrev pub MomentIsInFront : Type 0
MomentIsInFront = (text : List ℕ) (form : Form) → restored text ≡ Ok form →
    (behind : List ℕ) × (moment_at (length text) text ≡ Ok (form.moment, behind))

-- What is saved of a sound concentrator is read. A concentrator that is restored from it under the same
-- settings keeps the same settings and the same records, in the same order.
abbrev pub ComesBack : Type 0
ComesBack = (k : Concentrator) (moment : ℕ) → IsInOrder k → moment < 2 ^ 64 →
    (restored (saved_form moment k) ≡ Ok (form_of moment k))
    × ((form : Form) (new : Concentrator) → restored (saved_form moment k) ≡ Ok form →
    Restores (settings_in_order k) form new → KeepsAll k new)

-- What is saved of one link of a sound concentrator is read. Once restored where the link has the same
-- setting, the link has the same records, in the same order.
abbrev pub LinkComesBack : Type 0
LinkComesBack = (k : Concentrator) (moment : ℕ) (s : LinkSetting) → IsInOrder k → moment < 2 ^ 64 →
    setting_at k s.link ≡ Some s →
    (restored (saved_link moment k s) ≡ Ok (record { moment = moment; links = saved_link_of k s ∷ [] }))
    × ((old new : Concentrator) (told : Restored) → setting_at old s.link ≡ Some s →
    RestoresLink old s.link (saved_link moment k s) told new →
    ((cid : ℕ) → record_at new s.link cid ≡ record_at k s.link cid)
    × (identifiers_at new s.link ≡ identifiers_at k s.link))

-- A concentrator that is restored from a form whose contexts fell keeps what one keeps that is restored from
-- the form, but for its records: each of them fell.
pub record FallsFrom (k new : Concentrator) : Type 0 where
  pub settings : KeepsSettings k new
  pub records : (link cid : ℕ) → record_at new link cid ≡ option_map fallen (record_at k link cid)
  pub order : (link : ℕ) → identifiers_at new link ≡ identifiers_at k link

abbrev pub ComesBackFallen : Type 0
ComesBackFallen = (settings : List LinkSetting) (form : Form) (k new : Concentrator) →
    Restores settings form k → Restores settings (fallen_form form) new → FallsFrom k new

-- A concentrator is sound if it was made from settings whose numbers have 16 bits, if it keeps all that a
-- sound one keeps, if it was restored, also under other settings or fallen, and if it was sound before one of
-- its links was restored. Calls keep it sound, by a law of rohc_concentrator.
abbrev pub IsMadeSound : Type 0
IsMadeSound = (settings : List LinkSetting) (k : Concentrator) → AreFine settings →
    All (λ (s : LinkSetting). s.link < 65536) settings → settings_in_order k ≡ settings →
    ((link : ℕ) → setting_at k link ≡ entry_of link settings) →
    ((link cid : ℕ) → record_at k link cid ≡ None) → IsInOrder k

abbrev pub IsKeptSound : Type 0
IsKeptSound = (old new : Concentrator) → KeepsAll old new → IsInOrder old → IsInOrder new

abbrev pub IsRestoredSound : Type 0
IsRestoredSound = (settings : List LinkSetting) (form : Form) (k : Concentrator) → AreFine settings →
    All (λ (s : LinkSetting). s.link < 65536) settings → Restores settings form k → IsInOrder k

abbrev pub IsLinkRestoredSound : Type 0
IsLinkRestoredSound = (old new : Concentrator) (link : ℕ) (text : List ℕ) (told : Restored) →
    RestoresLink old link text told new → IsInOrder old → IsInOrder new

-- A concentrator is saved at a cut of a run, and another, restored from it under the same settings, goes on.
-- Its events for a CID are those that came behind the cut.
pub record GoesOnRestored (cut : Concentrator) (behind : List (Event × Option Report)) (other : EventRun)
    (l c : ℕ) : Type 0 where
  pub moment : ℕ
  pub fits : moment < 2 ^ 64
  pub form : Form
  pub saved : restored (saved_form moment cut) ≡ Ok form
  pub back : Restores (settings_in_order cut) form other.before
  pub runs : RunsEvents other.before other.turns other.after
  pub here : LinkSetting
  pub set : setting_at cut l ≡ Some here
  pub same : unmarked (own_events here l c behind) ≡ unmarked (own_events here l c other.turns)

-- A run from a sound concentrator is cut anywhere, and a restored one goes on. Then the CID gets from both
-- together the replies of the whole run, lack of memory aside, and has the record that the whole run leaves.
abbrev pub CutByRestart : Type 0
CutByRestart = (whole : EventRun) (front behind : List (Event × Option Report)) →
    RunsEvents whole.before whole.turns whole.after → whole.turns ≡ front ++ behind →
    AllByRecursion (λ (turn : Event × Option Report). IsFit turn.0) front →
    AllByRecursion (λ (turn : Event × Option Report). IsFit turn.0) behind → IsInOrder whole.before →
    (cut : Concentrator) × RunsEvents whole.before front cut ×
    ((other : EventRun) (l c : ℕ) → GoesOnRestored cut behind other l c →
    (filter is_rich (own_replies l c whole.turns)
    ≡ filter is_rich (own_replies l c front ++ own_replies l c other.turns))
    × (record_at whole.after l c ≡ record_at other.after l c))

-- a concentrator was restored from what was saved of another, under the same settings
pub record IsRestoredFrom (cut other : Concentrator) : Type 0 where
  pub moment : ℕ
  pub fits : moment < 2 ^ 64
  pub form : Form
  pub saved : restored (saved_form moment cut) ≡ Ok form
  pub back : Restores (settings_in_order cut) form other

-- The same of any calls: what a CID gets from the run up to the cut and from the one that goes on are the
-- answers of the whole run, and it sees in the end what the whole run leaves.
abbrev pub CutCallsByRestart : Type 0
CutCallsByRestart = (k after : Concentrator) (front behind : List Turn) → Runs k (front ++ behind) after →
    AllByRecursion IsFitTurn front → AllByRecursion IsFitTurn behind → IsInOrder k →
    (cut : Concentrator) × Runs k front cut × ((b after_b : Concentrator) (ys : List Turn) (l c : ℕ) →
    IsRestoredFrom cut b → Runs b ys after_b → calls_to l c cut behind ≡ calls_to l c b ys →
    (answers_to l c k (front ++ behind) ≡ answers_to l c k front ++ answers_to l c b ys)
    × (seen_at after l c ≡ seen_at after_b l c))
