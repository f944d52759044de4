-- What was read, kept in maps.
use Rattle.std.proofs.Common.{◌≡◌, ℕ, List, [], ◌∷◌, ◌++◌, map, Bool, true, false, cond, Some, None, refl, ap, ◌∙◌, nat_eq, is_some}
use Rattle.std.specs.Prelude.{◌||◌}
use Rattle.std.specs.Map.{lookup}
use Rattle.std.specs.HashMap.{HashMap, get}
use Rattle.std.proofs.lemmas.List.{map-append}
use Rattle.indexmap.specs.IndexMap.{insert_entry}
use Rattle.indexmap.proofs.CallerLemmas.{insert_entry-new}
use Rattle.rohc_context.specs.declared.record.Context.{Context}
use Rattle.rohc_context.specs.Record.{record_of}
use Rattle.rohc_saved.specs.declared.form.SavedLink.{SavedLink}
use Rattle.rohc_saved.specs.Form.{contexts_in}
use Rattle.rohc_saved.specs.Read.{link_in, links_in}
use Rattle.rohc_saved.specs.Reading.{has}

-- a key is in a map exactly if its list has it
has_in : {V A : Type 0} (view : V → A) (es : List (ℕ × V)) (n : ℕ) → has n (map (λ (e : ℕ × V). (e.0, view e.1)) es) ≡ is_some (lookup (nat_eq n) es)
has_in view [] n = refl
has_in {V} {A} view (e ∷ es) n = by (has_in view es n) (nat_eq n e.0) refl
  where
    by : has n (map (λ (e : ℕ × V). (e.0, view e.1)) es) ≡ is_some (lookup (nat_eq n) es) → (b : Bool) → nat_eq n e.0 ≡ b
        → (nat_eq n e.0 || has n (map (λ (e : ℕ × V). (e.0, view e.1)) es)) ≡ is_some (cond (nat_eq n e.0) (Some e.1) (lookup (nat_eq n) es))
    by rest true f = rw f refl
    by rest false f = rw f rest

pub has_context : {S : Type 0} (m : HashMap ℕ Context S) (n : ℕ) → has n (contexts_in m) ≡ is_some (get nat_eq m n)
has_context m n = has_in record_of m.entries n

pub has_link : {S : Type 0} (m : HashMap ℕ SavedLink S) (n : ℕ) → has n (links_in m) ≡ is_some (get nat_eq m n)
has_link m n = has_in link_in m.entries n

-- a new entry goes last
inserted : {V A S : Type 0} (view : V → A) (m n : HashMap ℕ V S) (k : ℕ) (v : V) → get nat_eq m k ≡ None → n.entries ≡ insert_entry nat_eq m.entries k v
    → map {B = ℕ × A} (λ (e : ℕ × V). (e.0, view e.1)) n.entries ≡ map {B = ℕ × A} (λ (e : ℕ × V). (e.0, view e.1)) m.entries ++ (k, view v) ∷ []
inserted {V} {A} view m n k v absent is =
    let seen : ℕ × V → ℕ × A = λ e. (e.0, view e.1) in
    ap (map seen) (is ∙ insert_entry-new nat_eq m k v absent) ∙ map-append seen m.entries ((k, v) ∷ [])

pub context_last : {S : Type 0} (m n : HashMap ℕ Context S) (k : ℕ) (v : Context) → get nat_eq m k ≡ None → n.entries ≡ insert_entry nat_eq m.entries k v → contexts_in n ≡ contexts_in m ++ (k, record_of v) ∷ []
context_last m n k v absent is = inserted record_of m n k v absent is

pub link_last : {S : Type 0} (m n : HashMap ℕ SavedLink S) (k : ℕ) (v : SavedLink) → get nat_eq m k ≡ None → n.entries ≡ insert_entry nat_eq m.entries k v → links_in n ≡ links_in m ++ (k, link_in v) ∷ []
link_last m n k v absent is = inserted link_in m n k v absent is
