-- What a write at a link's place does to a concentrator.
use Rattle.std.proofs.Common.{◌≡◌, ◌≢◌, ℕ, zero, suc, List, [], ◌∷◌, Bool, Option, Some, map, ap, sym, subst, refl, ◌∙◌, nat_eq, slice_get, unwrap_or}
use Rattle.std.specs.HashMap.{get, IsUnique}
use Rattle.std.specs.Option.{option_map, option_and_then}
use Rattle.std.specs.Prelude.{IfSome}
use Rattle.indexmap.specs.IndexMap.{with_value_at, set_value_at}
use Rattle.rohc_concentrator.specs.declared.records.LinkRecords.{LinkRecords}
use Rattle.rohc_concentrator.specs.declared.concentrator.Concentrator.{Concentrator}
use Rattle.rohc_concentrator.specs.Tables.{setting_at, record_in, record_at, identifiers_at, KeepsAll}
use Rattle.rohc_concentrator.specs.declared.place.Hints.{Hints}
use Rattle.rohc_concentrator.specs.Calls.{Arrive, Reported}
use Rattle.rohc_concentrator.specs.RunsCall.{RunsCall}
use Rattle.rohc_concentrator.specs.Taken.{TakesOnLink, Stays, MissedOn, MissedBy}
use Rattle.rohc_context.specs.Record.{Record}
use Rattle.rohc_context.specs.Step.{HasMissed}
use Rattle.rohc_concentrator.specs.declared.setting.LinkSetting.{LinkSetting}
use Rattle.rohc_concentrator.specs.Report.{Report, IsAnswered}
use Rattle.rohc_concentrator.specs.Repaired.{IsRepaired}
use Rattle.rohc_concentrator.proofs.PlaceLemmas.{own_written, others_kept}
use Rattle.rohc_concentrator.proofs.ArriveLemmas.{takes_step}
use Rattle.rohc_concentrator.proofs.ByNumber.{by_number}
use Rattle.rohc_concentrator.proofs.RunsLemmas.{runs_at}
use Rattle.rohc_concentrator.proofs.ViewLemmas.{set_of, record_of_cid, cids_of}

-- records of the same setting, written at the place of a link, keep the settings in their order
in_order_kept : (es : List (ℕ × LinkRecords)) (place link : ℕ) (before after : LinkRecords) → slice_get es place ≡ Some (link, before) → after.setting ≡ before.setting
    → map (λ (e : ℕ × LinkRecords). e.1.setting) (set_value_at es place after) ≡ map (λ (e : ℕ × LinkRecords). e.1.setting) es
in_order_kept [] place link before after at same = refl
in_order_kept (e ∷ es) zero link before after at same =
    let own : e ≡ (link, before) = ap (λ u. unwrap_or u e) at in
    ap (λ s. s ∷ map (λ (e : ℕ × LinkRecords). e.1.setting) es) (same ∙ sym (ap (λ (x : ℕ × LinkRecords). x.1.setting) own))
in_order_kept (e ∷ es) (suc place) link before after at same = ap (λ ss. e.1.setting ∷ ss) (in_order_kept es place link before after at same)

module _ (k : Concentrator) (hints : Hints) (place link : ℕ) (before after : LinkRecords) (unique : IsUnique nat_eq k.links)
    (at : (slice_get k.links.entries place ≡ Some (link, before)) × (get nat_eq k.links link ≡ Some before)) where
  abbrev written : Concentrator
  written = record k { links = with_value_at k.links place after; hints = hints }

  own : get nat_eq written.links link ≡ Some after
  own = own_written k.links place link before after unique at.0

  others : (l : ℕ) → l ≢ link → get nat_eq written.links l ≡ get nat_eq k.links l
  others = others_kept k.links place link before after unique at.0

  -- an answer by what was kept for the link is one by what the concentrator kept
  pub answered_by : (moment : ℕ) (octets : List ℕ) (report : Report) (next : ℕ → Option Record) → IsAnswered (Some before.setting) (record_in before) moment octets report next
      → IsAnswered (setting_at k link) (record_at k link) moment octets report next
  answered_by moment octets report next h =
      subst (λ (x : Option LinkRecords). IsAnswered (option_map (λ (r : LinkRecords). r.setting) x) (λ cid. option_and_then (λ (r : LinkRecords). record_in r cid) x) moment octets report next) (sym at.1) h

  -- and so is whether the packet was repaired
  pub repaired_by : (moment : ℕ) (octets : List ℕ) (report : Report) (repaired : Bool) → IsRepaired (Some before.setting) (record_in before) moment octets report repaired
      → IsRepaired (setting_at k link) (record_at k link) moment octets report repaired
  repaired_by moment octets report repaired h =
      subst (λ (x : Option LinkRecords). IsRepaired (option_map (λ (r : LinkRecords). r.setting) x) (λ cid. option_and_then (λ (r : LinkRecords). record_in r cid) x) moment octets report repaired) (sym at.1) h

  -- what arrives on the link arrives at the concentrator
  pub arrives_by : (moment : ℕ) (octets : List ℕ) (report : Report) → TakesOnLink before moment octets report after
      → RunsCall k link (Arrive moment octets) (Reported report) (record k { links = with_value_at k.links place after; hints = hints })
  arrives_by moment octets report taken =
      runs_at k written link (Some before) (Some after) at.1 own others (Arrive moment octets) (Reported report) (takes_step before after moment octets report taken) tt
      (in_order_kept k.links.entries place link before after at.0 taken.setting)

  -- if the link's records stay, all does
  pub all_stays : Stays before after → KeepsAll k (record k { links = with_value_at k.links place after; hints = hints })
  all_stays s = record {
    settings = record {
      each = by_number (λ l. setting_at written l ≡ setting_at k l) link (ap set_of own ∙ ap Some s.setting ∙ sym (ap set_of at.1)) (λ l is. ap set_of (others l is));
      in_order = in_order_kept k.links.entries place link before after at.0 s.setting;
    };
    records = λ l cid. by_number (λ n. record_at written n cid ≡ record_at k n cid) link
        (ap (record_of_cid cid) own ∙ s.records cid ∙ sym (ap (record_of_cid cid) at.1)) (λ n is. ap (record_of_cid cid) (others n is)) l;
    order = by_number (λ l. identifiers_at written l ≡ identifiers_at k l) link (ap cids_of own ∙ s.order ∙ sym (ap cids_of at.1)) (λ l is. ap cids_of (others l is));
  }

  -- what was missed by what the concentrator kept was missed by what was kept for the link
  pub missed_by : (moment : ℕ) (octets : List ℕ) → MissedBy k link moment octets → MissedOn before.setting (record_in before) moment octets
  missed_by moment octets missed =
      subst (λ (x : Option LinkRecords). IfSome (option_map (λ (r : LinkRecords). r.setting) x) (λ s. MissedOn s (λ cid. option_and_then (λ (r : LinkRecords). record_in r cid) x) moment octets)) at.1 missed

  -- and by what the concentrator keeps after records that stay were written back
  pub missed_after : (moment : ℕ) (octets : List ℕ) → Stays before after → MissedOn before.setting (record_in before) moment octets
      → MissedBy (record k { links = with_value_at k.links place after; hints = hints }) link moment octets
  missed_after moment octets stays missed =
      subst (λ (x : Option LinkRecords). IfSome (option_map (λ (r : LinkRecords). r.setting) x) (λ s. MissedOn s (λ cid. option_and_then (λ (r : LinkRecords). record_in r cid) x) moment octets)) (sym own)
      (subst (λ (s : LinkSetting). MissedOn s (record_in after) moment octets) (sym stays.setting)
      (λ h is kind. subst (λ (r : Option Record). IfSome r (λ r. HasMissed before.setting.settings.idle_ms moment r h)) (sym (stays.records h.cid)) (missed h is kind)))
