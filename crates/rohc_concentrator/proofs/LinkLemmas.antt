-- Links that come, go and change.
use Rattle.std.proofs.Common.{◌≡◌, ◌≢◌, ◌<◌, ℕ, List, [], ◌∷◌, ◌++◌, length, map, Bool, true, false, cond, Option, Some, None, nat_eq, refl, ap, ◌∙◌, arith, unwrap_or}
use Rattle.std.specs.Map.{lookup, set_value, remove_entry}
use Rattle.std.specs.HashMap.{get, keys, Updates}
use Rattle.std.proofs.lemmas.List.{map-append, length-map}
use Rattle.std.proofs.lemmas.Bool.Decides.{nat_tests}
use Rattle.indexmap.specs.IndexMap.{insert_entry}
use Rattle.indexmap.proofs.CallerLemmas.{insert_entry-new}
use Rattle.rohc_concentrator.specs.declared.concentrator.Concentrator.{Concentrator}
use Rattle.rohc_concentrator.specs.declared.records.LinkRecords.{LinkRecords}
use Rattle.rohc_concentrator.specs.declared.setting.LinkSetting.{LinkSetting}
use Rattle.rohc_concentrator.specs.Setting.{IsGoodSetting}
use Rattle.rohc_concentrator.specs.Tables.{record_in}
use Rattle.rohc_concentrator.specs.Leaving.{LeavesIn, survives}
use Rattle.rohc_concentrator.specs.Calls.{AddLink, RemoveLink, ChangeLink, Done}
use Rattle.rohc_concentrator.specs.RunsCall.{RunsCall}
use Rattle.rohc_concentrator.proofs.RunsLemmas.{runs_at, adds_step, removes_step, changes_step}

abbrev settings_of : List (ℕ × LinkRecords) → List LinkSetting
settings_of es = map (λ (e : ℕ × LinkRecords). e.1.setting) es

-- an entry that is found stands between others, in whose place another may come, or none
abbrev pub Splits : List (ℕ × LinkRecords) → LinkRecords → List (ℕ × LinkRecords) → (List LinkSetting → List LinkSetting) → Type 0
Splits es r changed then = (front behind : List LinkSetting)
    × (settings_of es ≡ front ++ r.setting ∷ behind) × (settings_of changed ≡ front ++ then behind)

further : (e : ℕ × LinkRecords) (es : List (ℕ × LinkRecords)) (r : LinkRecords) (changed : List (ℕ × LinkRecords)) (then : List LinkSetting → List LinkSetting)
    → Splits es r changed then → Splits (e ∷ es) r (e ∷ changed) then
further e es r changed then s = (e.1.setting ∷ s.0, s.1, ap (λ ts. e.1.setting ∷ ts) s.2, ap (λ ts. e.1.setting ∷ ts) s.3)

same_records : (a b : LinkRecords) → ◌≡◌ {A = Option LinkRecords} (Some a) (Some b) → a ≡ b
same_records a b e = ap (λ o. unwrap_or o a) e

pub splits_at_set : (test : ℕ → Bool) (es : List (ℕ × LinkRecords)) (r s : LinkRecords) → lookup test es ≡ Some r → Splits es r (set_value test es s) (λ ts. s.setting ∷ ts)
splits_at_set test [] r s found = absurd (let e : ◌≡◌ {A = Option LinkRecords} None (Some r) = found in cc)
splits_at_set test (e ∷ es) r s found = by (test e.0) found (splits_at_set test es r s)
  where
    by : (b : Bool) → cond b (Some e.1) (lookup test es) ≡ Some r → (lookup test es ≡ Some r → Splits es r (set_value test es s) (λ ts. s.setting ∷ ts))
        → Splits (e ∷ es) r (cond b ((e.0, s) ∷ es) (e ∷ set_value test es s)) (λ ts. s.setting ∷ ts)
    by true is later = ([], settings_of es, ap (λ (x : LinkRecords). x.setting ∷ settings_of es) (same_records e.1 r is), refl)
    by false is later = further e es r (set_value test es s) (λ ts. s.setting ∷ ts) (later is)

pub splits_at_removal : (test : ℕ → Bool) (es : List (ℕ × LinkRecords)) (r : LinkRecords) → lookup test es ≡ Some r → Splits es r (remove_entry test es) (λ ts. ts)
splits_at_removal test [] r found = absurd (let e : ◌≡◌ {A = Option LinkRecords} None (Some r) = found in cc)
splits_at_removal test (e ∷ es) r found = by (test e.0) found (splits_at_removal test es r)
  where
    by : (b : Bool) → cond b (Some e.1) (lookup test es) ≡ Some r → (lookup test es ≡ Some r → Splits es r (remove_entry test es) (λ ts. ts))
        → Splits (e ∷ es) r (cond b es (e ∷ remove_entry test es)) (λ ts. ts)
    by true is later = ([], settings_of es, ap (λ (x : LinkRecords). x.setting ∷ settings_of es) (same_records e.1 r is), refl)
    by false is later = further e es r (remove_entry test es) (λ ts. ts) (later is)

another : (link l : ℕ) → l ≢ link → nat_eq link l ≡ false
another link l is = grind (arith, nat_tests)

module _ (k new : Concentrator) (s : LinkSetting) (r : LinkRecords) (is : r.setting ≡ s) (updates : Updates nat_eq k.links new.links s.link (Some r))
    (entries : new.links.entries ≡ insert_entry nat_eq k.links.entries s.link r) where
  pub adds_runs : length k.links.entries < 256 → IsGoodSetting s → get nat_eq k.links s.link ≡ None → ((cid : ℕ) → record_in r cid ≡ None) → keys r.contexts ≡ []
      → RunsCall k s.link (AddLink s) Done new
  adds_runs few good absent empty bare =
      runs_at k new s.link None (Some r) absent updates.1 (λ l other. updates.2 l (another s.link l other)) (AddLink s) Done (adds_step s r is empty bare good)
      (omega (arith, length-map k.links.entries (λ (e : ℕ × LinkRecords). e.1.setting)))
      (ap settings_of (entries ∙ insert_entry-new nat_eq k.links s.link r absent) ∙ map-append (λ (e : ℕ × LinkRecords). e.1.setting) k.links.entries ((s.link, r) ∷ []) ∙ ap (λ t. settings_of k.links.entries ++ t ∷ []) is)

module _ (k new : Concentrator) (link : ℕ) (r : LinkRecords) (found : get nat_eq k.links link ≡ Some r) where
  pub removes_runs : Updates nat_eq k.links new.links link None → new.links.entries ≡ remove_entry (nat_eq link) k.links.entries → RunsCall k link RemoveLink Done new
  removes_runs updates entries =
      let split = splits_at_removal (nat_eq link) k.links.entries r found in
      runs_at k new link (Some r) None found updates.1 (λ l other. updates.2 l (another link l other)) RemoveLink Done (removes_step r) tt
      (split.0, split.1, r.setting, refl, split.2, ap settings_of entries ∙ split.3)

module _ (k new : Concentrator) (s : LinkSetting) (before after : LinkRecords) (found : get nat_eq k.links s.link ≡ Some before) (written : get nat_eq new.links s.link ≡ Some after)
    (others : (l : ℕ) → l ≢ s.link → get nat_eq new.links l ≡ get nat_eq k.links l) where
  pub changes_runs : IsGoodSetting s → after.setting ≡ s → new.links.entries ≡ set_value (nat_eq s.link) k.links.entries after
      → LeavesIn before (survives before.setting s) after → RunsCall k s.link (ChangeLink s) Done new
  changes_runs good is entries leaves =
      let split = splits_at_set (nat_eq s.link) k.links.entries before after found in
      runs_at k new s.link (Some before) (Some after) found written others (ChangeLink s) Done (changes_step before after s good leaves is) tt
      (split.0, split.1, before.setting, refl, split.2, ap settings_of entries ∙ split.3 ∙ ap (λ t. split.0 ++ t ∷ split.1) is)
