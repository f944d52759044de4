use Rattle.rohc_context.specs.Record.{record_of}
use Rattle.std.specs.Option.{option_map}
use Rattle.std.proofs.Common.{◌≡◌, ℕ, List, [], ◌∷◌, ◌++◌, Option, Some, None, Bool, true, false, cond, map, nat_eq, refl, sym, ◌∙◌, ap, inr}
use Rattle.std.specs.Map.{keys_of, lookup, set_value}
use Rattle.std.specs.HashMap.{HashMap, get, keys}
use Rattle.indexmap.specs.IndexMap.{insert_entry}
use Rattle.indexmap.proofs.CallerLemmas.{insert_entry-new}
use Rattle.rohc_context.specs.declared.record.Context.{Context}
use Rattle.rohc_concentrator.specs.declared.records.LinkRecords.{LinkRecords}
use Rattle.rohc_concentrator.specs.Tables.{KeepsPlace}

-- one more entry at the end has its key at the end
pub keys_of-append : {V : Type 0} (es : List (ℕ × V)) (k : ℕ) (v : V) → keys_of (es ++ (k, v) ∷ []) ≡ keys_of es ++ k ∷ []
keys_of-append [] k v = refl
keys_of-append (e ∷ es) k v = ap (λ ks. e.0 ∷ ks) (keys_of-append es k v)

-- a new key goes last
pub goes_last : {S : Type 0} (m n : HashMap ℕ Context S) (cid : ℕ) (first : Context) → get nat_eq m cid ≡ None → n.entries ≡ insert_entry nat_eq m.entries cid first → keys n ≡ keys m ++ cid ∷ []
goes_last m n cid first absent inserted = ap keys_of (inserted ∙ insert_entry-new nat_eq m cid first absent) ∙ keys_of-append m.entries cid first

-- a first record goes last
pub order_after_first : {S : Type 0} (m n : HashMap ℕ Context S) (cid : ℕ) (first : Context) → get nat_eq m cid ≡ None → n.entries ≡ insert_entry nat_eq m.entries cid first → KeepsPlace (keys m) (keys n) cid (option_map record_of (get nat_eq m cid))
order_after_first m n cid first absent inserted =
    rw absent (inr (goes_last m n cid first absent inserted))

absent_is : {A B : Type 0} (f : A → B) (x : Option A) → option_map f x ≡ None → x ≡ None
absent_is f None e = refl
absent_is f (Some a) e = cc

-- the same where its record is known to be absent
pub order_after_none : {S : Type 0} (m n : HashMap ℕ Context S) (cid : ℕ) (first : Context) → option_map record_of (get nat_eq m cid) ≡ None
    → n.entries ≡ insert_entry nat_eq m.entries cid first → KeepsPlace (keys m) (keys n) cid None
order_after_none m n cid first none inserted = rw none at (order_after_first m n cid first (absent_is record_of (get nat_eq m cid) none) inserted)

-- a link's records written back under the same setting keep all settings in their order
pub settings_kept : (test : ℕ → Bool) (es : List (ℕ × LinkRecords)) (r s : LinkRecords) → lookup test es ≡ Some r → s.setting ≡ r.setting → map (λ (e : ℕ × LinkRecords). e.1.setting) (set_value test es s) ≡ map (λ (e : ℕ × LinkRecords). e.1.setting) es
settings_kept test [] r s found same = refl
settings_kept test (e ∷ es) r s found same =
    elim (test e.0) as (λ b. cond b (Some e.1) (lookup test es) ≡ Some r →
    map (λ (f : ℕ × LinkRecords). f.1.setting) (cond b ((e.0, s) ∷ es) (e ∷ set_value test es s)) ≡ e.1.setting ∷ map (λ (f : ℕ × LinkRecords). f.1.setting) es) [
      | true ↦ λ is_here. let own : e.1 ≡ r = cc in ap (λ t. t ∷ map (λ (f : ℕ × LinkRecords). f.1.setting) es) (same ∙ sym (ap (λ (x : LinkRecords). x.setting) own))
      | false ↦ λ behind. ap (λ ts. e.1.setting ∷ ts) (settings_kept test es r s behind same)
    ] found

-- so do the settings of a map that is written through one look-up
pub settings_after : (test : ℕ → Bool) (es fs : List (ℕ × LinkRecords)) (r s : LinkRecords) → fs ≡ set_value test es s → lookup test es ≡ Some r → s.setting ≡ r.setting → map (λ (e : ℕ × LinkRecords). e.1.setting) fs ≡ map (λ (e : ℕ × LinkRecords). e.1.setting) es
settings_after test es fs r s written found same = ap (map (λ (e : ℕ × LinkRecords). e.1.setting)) written ∙ settings_kept test es r s found same
