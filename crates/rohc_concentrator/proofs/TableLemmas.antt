-- The tables that a concentrator lends tell all that it keeps.
use Rattle.std.proofs.Common.{◌≡◌, ℕ, List, [], Option, refl, sym, ap, ◌∙◌}
use Rattle.std.specs.Prelude.{Some, None, nat_eq, unwrap_or}
use Rattle.std.specs.Option.{option_map, option_and_then}
use Rattle.indexmap.specs.IndexMap.{get, keys}
use Rattle.rohc_context.specs.Record.{Record}
use Rattle.rohc_concentrator.specs.declared.concentrator.Concentrator.{Concentrator}
use Rattle.rohc_concentrator.specs.declared.setting.LinkSetting.{LinkSetting}
use Rattle.rohc_concentrator.specs.declared.records.LinkRecords.{LinkRecords}
use Rattle.rohc_concentrator.specs.Tables.{setting_at, record_in, record_at, identifiers_at, AreTables, TellAll}

-- what is kept for a link, if it is there
abbrev setting_of : Option LinkRecords → Option LinkSetting
setting_of found = option_map (λ (r : LinkRecords). r.setting) found

abbrev record_of_cid : ℕ → Option LinkRecords → Option Record
record_of_cid cid found = option_and_then (λ (r : LinkRecords). record_in r cid) found

abbrev cids_of : Option LinkRecords → List ℕ
cids_of found = unwrap_or (option_map (λ (r : LinkRecords). keys r.contexts) found) []

-- a link without a setting has no records
no_record : (found : Option LinkRecords) (cid : ℕ) → setting_of found ≡ None → record_of_cid cid found ≡ None
no_record None cid e = refl
no_record (Some r) cid e = absurd (let f : ◌≡◌ {A = Option LinkSetting} (Some r.setting) None = e in cc)

no_cids : (found : Option LinkRecords) → setting_of found ≡ None → cids_of found ≡ []
no_cids None e = refl
no_cids (Some r) e = absurd (let f : ◌≡◌ {A = Option LinkSetting} (Some r.setting) None = e in cc)

module _ (k other : Concentrator) (are : AreTables other k.links) (link : ℕ) where
  same_setting : (found : Option LinkRecords) → get nat_eq k.links link ≡ found → setting_at other link ≡ setting_at k link
  same_setting (Some r) e = (are.there link r e).setting ∙ sym (ap setting_of e)
  same_setting None e = are.absent link e ∙ sym (ap setting_of e)

  same_record : (cid : ℕ) (found : Option LinkRecords) → get nat_eq k.links link ≡ found → record_at other link cid ≡ record_at k link cid
  same_record cid (Some r) e = (are.there link r e).records cid ∙ sym (ap (record_of_cid cid) e)
  same_record cid None e = no_record (get nat_eq other.links link) cid (are.absent link e) ∙ sym (ap (record_of_cid cid) e)

  same_cids : (found : Option LinkRecords) → get nat_eq k.links link ≡ found → identifiers_at other link ≡ identifiers_at k link
  same_cids (Some r) e = (are.there link r e).identifiers ∙ sym (ap cids_of e)
  same_cids None e = no_cids (get nat_eq other.links link) (are.absent link e) ∙ sym (ap cids_of e)

pub tell_all : (k : Concentrator) → TellAll k k.links
tell_all k other are = record {
  settings = record { each = λ link. same_setting k other are link (get nat_eq k.links link) refl; in_order = sym are.in_order };
  records = λ link cid. same_record k other are link cid (get nat_eq k.links link) refl;
  order = λ link. same_cids k other are link (get nat_eq k.links link) refl;
}
