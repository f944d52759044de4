-- Putting a record behind those of a link. Words: IsFree; PutFaultIn; PutsIn.
use Rattle.std.specs.Prelude.{◌≡◌, ◌≢◌, ℕ, ◌<◌, ◌≤◌, [], ◌∷◌, ◌++◌, Option, Some, None}
use Rattle.indexmap.specs.IndexMap.{keys}
use Rattle.rohc_context.specs.Record.{Record}
use Rattle.rohc_concentrator.specs.declared.records.LinkRecords.{LinkRecords}
use Rattle.rohc_concentrator.specs.declared.setting.LinkSetting.{LinkSetting}
use Rattle.rohc_concentrator.specs.declared.putting.PutFault.{PutFault}
use Rattle.rohc_concentrator.specs.declared.putting.PutFault.TheVariants.{NoLink, CidRange, HasRecord, NoMemory}
use Rattle.rohc_concentrator.specs.Tables.{record_in}

-- nothing is wrong with this CID: it is within the link's greatest, and has no record
pub record IsFree (s : LinkSetting) (held : Option Record) (cid : ℕ) : Type 0 where
  pub within : cid ≤ s.settings.max_cid
  pub none : held ≡ None

-- the first fault of a link that is there, by its setting and the record of the CID, if there is one
abbrev pub PutFaultIn : LinkSetting → (held : Option Record) → (cid : ℕ) → PutFault → Type 0
PutFaultIn s held cid NoLink = ⊥
PutFaultIn s held cid CidRange = s.settings.max_cid < cid
PutFaultIn s held cid HasRecord = (cid ≤ s.settings.max_cid) × (held ≢ None)
PutFaultIn s held cid NoMemory = IsFree s held cid

-- a record is put behind those of a link
pub record PutsIn (old : LinkRecords) (cid : ℕ) (r : Record) (new : LinkRecords) : Type 0 where
  pub free : IsFree old.setting (record_in old cid) cid
  pub put : record_in new cid ≡ Some r
  pub setting : new.setting ≡ old.setting
  pub others : (c : ℕ) → c ≢ cid → record_in new c ≡ record_in old c
  pub order : keys new.contexts ≡ keys old.contexts ++ cid ∷ []
