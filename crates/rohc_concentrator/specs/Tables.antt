-- What a concentrator keeps. Words: setting_at k l, record_at k l i, identifiers_at k l; AreTables;
-- IsPlaceOf; KeepsSettings, KeepsPlace, KeepsAll; TellAll.
use Rattle.std.specs.Prelude.{◌≡◌, ℕ, List, [], ◌∷◌, ◌++◌, ◌⊎◌, Option, Some, None, nat_eq, map, unwrap_or, ◌<◌, slice_get}
use Rattle.std.specs.HashMap.{HashMap}
use Rattle.std.specs.Option.{option_map, option_and_then}
use Rattle.indexmap.specs.IndexMap.{get, keys, index_map_len}
use Rattle.rohc_context.specs.Record.{Record, record_of}
use Rattle.rohc_concentrator.specs.declared.setting.LinkSetting.{LinkSetting}
use Rattle.rohc_concentrator.specs.declared.records.LinkRecords.{LinkRecords}
use Rattle.rohc_concentrator.specs.declared.concentrator.Concentrator.{Concentrator}

-- the setting of a link, if it is there
abbrev pub setting_at : Concentrator → ℕ → Option LinkSetting
setting_at k link = option_map (λ (r : LinkRecords). r.setting) (get nat_eq k.links link)

-- the record of a CID in a link's records, if there is one
abbrev pub record_in : LinkRecords → ℕ → Option Record
record_in r cid = option_map record_of (get nat_eq r.contexts cid)

-- the entry at this place of a map is this key's
pub record IsPlaceOf {V S : Type 0} (m : HashMap ℕ V S) (place key : ℕ) : Type 0 where
  pub value : V
  pub entry : slice_get m.entries place ≡ Some (key, value)
  pub found : get nat_eq m key ≡ Some value
  pub inside : place < index_map_len m

-- the record of a CID of a link, if the link is there and has one
abbrev pub record_at : Concentrator → ℕ → ℕ → Option Record
record_at k link cid = option_and_then (λ (r : LinkRecords). record_in r cid) (get nat_eq k.links link)

-- the CIDs of a link that have a record, in the order of their first IR
abbrev pub identifiers_at : Concentrator → ℕ → List ℕ
identifiers_at k link =
    unwrap_or (option_map (λ (r : LinkRecords). keys r.contexts) (get nat_eq k.links link)) []

-- the links' settings in their order
abbrev pub settings_in_order : Concentrator → List LinkSetting
settings_in_order k = map (λ (e : ℕ × LinkRecords). e.1.setting) k.links.entries

-- all that is kept for a link: its setting, its records, and the order of their CIDs
pub record IsLink (k : Concentrator) (link : ℕ) (r : LinkRecords) : Type 0 where
  pub setting : setting_at k link ≡ Some r.setting
  pub records : (cid : ℕ) → record_at k link cid ≡ record_in r cid
  pub identifiers : identifiers_at k link ≡ keys r.contexts

-- all that is kept, for each link that is there, in the order of their settings
pub record AreTables {S : Type 0} (k : Concentrator) (tables : HashMap ℕ LinkRecords S) : Type 0 where
  pub there : (link : ℕ) (r : LinkRecords) → get nat_eq tables link ≡ Some r → IsLink k link r
  pub absent : (link : ℕ) → get nat_eq tables link ≡ None → setting_at k link ≡ None
  pub in_order : map (λ (e : ℕ × LinkRecords). e.1.setting) tables.entries ≡ settings_in_order k

-- all settings stay, and their order
pub record KeepsSettings (old new : Concentrator) : Type 0 where
  pub each : (link : ℕ) → setting_at new link ≡ setting_at old link
  pub in_order : settings_in_order new ≡ settings_in_order old

-- a record that is replaced keeps its place, and a first one goes last
abbrev pub KeepsPlace : List ℕ → List ℕ → ℕ → Option Record → Type 0
KeepsPlace old new cid (Some r) = new ≡ old
KeepsPlace old new cid None = (new ≡ old) ⊎ (new ≡ old ++ cid ∷ [])

-- the CIDs of a link keep their places, after a packet that bears this CID, or none
abbrev pub KeepsPlaces : List ℕ → List ℕ → Option ℕ → (ℕ → Option Record) → Type 0
KeepsPlaces old new None before = new ≡ old
KeepsPlaces old new (Some cid) before = KeepsPlace old new cid (before cid)

-- all settings and all records stay, in their order
pub record KeepsAll (old new : Concentrator) : Type 0 where
  pub settings : KeepsSettings old new
  pub records : (l cid : ℕ) → record_at new l cid ≡ record_at old l cid
  pub order : (l : ℕ) → identifiers_at new l ≡ identifiers_at old l

-- the tables tell all: another concentrator with these tables keeps the same, in the same order
abbrev pub TellAll : {S : Type 0} → Concentrator → HashMap ℕ LinkRecords S → Type 0
TellAll k tables = (other : Concentrator) → AreTables other tables → KeepsAll k other
