use Rattle.std.proofs.Common.{◌≡◌, ◌≢◌, ℕ, zero, suc, ◌<◌, List, [], ◌∷◌, get_or, position, Option, Some, None, ap, sym, subst, refl, ◌∙◌, false, nat_eq, slice_get, unwrap_or, is_some, IfSome, true≢false, arith}
use Rattle.std.proofs.lemmas.Option.{slice_get-get_or, slice_get-map}
use Rattle.std.specs.Option.{option_map}
use Rattle.std.proofs.lemmas.List.Quantifiers.{position-Some}
use Rattle.std.specs.Map.{keys_of, values_of}
use Rattle.std.proofs.lemmas.Bool.Decides.{nat_tests}
use Rattle.std.specs.Cmp.{nat_eq_equiv}
use Rattle.std.specs.HashMap.{HashMap, get, keys, values, IsUnique}
use Rattle.indexmap.specs.IndexMap.{with_value_at, index_map_len}
use Rattle.indexmap.proofs.CallerLemmas.{updates-with_value_at}
use Rattle.rohc_concentrator.specs.Tables.{IsPlaceOf}

-- where this map is that one, and this place the one that was found
pub at_place : {V S : Type 0} {m n : HashMap ℕ V S} {place found key : ℕ} → m ≡ n → place ≡ found → IsPlaceOf n found key → IsPlaceOf m place key
at_place {V} {S} {m} {n} {place} {found} {key} same e is = subst (λ p. IsPlaceOf m p key) (sym e) (subst (λ (x : HashMap ℕ V S). IsPlaceOf x found key) (sym same) is)

-- an entry has one value
pub same_value : {V : Type 0} (found : Option (ℕ × V)) (cid key : ℕ) (a b : V) → found ≡ Some (cid, a) → found ≡ Some (key, b) → a ≡ b
same_value {V} found cid key a b first second =
    let split : ◌≡◌ {A = ℕ × V} (cid, a) (key, b) = cc in
    ap (λ (x : ℕ × V). x.1) split

-- What a write at a place does, where this identifier's record stands there.

module _ {V S : Type 0} (m : HashMap ℕ V S) (place cid : ℕ) (before after : V) (unique : IsUnique nat_eq m)
    (at : slice_get m.entries place ≡ Some (cid, before)) where
  pub own_written : get nat_eq (with_value_at m place after) cid ≡ Some after
  own_written = (updates-with_value_at m place after nat_eq_equiv unique cid before at).1

  pub others_kept : (other : ℕ) → other ≢ cid → get nat_eq (with_value_at m place after) other ≡ get nat_eq m other
  others_kept other is =
      let another : nat_eq cid other ≡ false = grind (arith, nat_tests) in
      (updates-with_value_at m place after nat_eq_equiv unique cid before at).2 other another

-- a key and a value at one place are an entry there
entry_at : {V : Type 0} (es : List (ℕ × V)) (place key : ℕ) (value : V) → slice_get (keys_of es) place ≡ Some key → slice_get (values_of es) place ≡ Some value → slice_get es place ≡ Some (key, value)
entry_at [] place key value k v = cc
entry_at (e ∷ es) zero key value k v =
    let first : e.0 ≡ key = ap (λ u. unwrap_or u key) k in
    let second : e.1 ≡ value = ap (λ u. unwrap_or u value) v in
    rw (← first, ← second) refl
entry_at (e ∷ es) (suc place) key value k v = entry_at es place key value k v

-- where the first key that is the identifier stands, its record stands
stands_first : {V S : Type 0} (m : HashMap ℕ V S) (place cid : ℕ) (context : V) → position (nat_eq cid) (keys m) ≡ Some place → place < index_map_len m
    → slice_get (values m) place ≡ Some context → get nat_eq m cid ≡ Some context → IsPlaceOf m place cid
stands_first m place cid context first inside value found =
    let passes = position-Some (nat_eq cid) (keys m) place 0 first in
    let is : get_or (keys m) place 0 ≡ cid = let test = passes.1 in grind (arith, nat_tests) in
    let key : slice_get (keys m) place ≡ Some cid = slice_get-get_or (keys m) place 0 passes.0 ∙ ap Some is in
    record { value = context; entry = entry_at m.entries place cid context key value; found = found; inside = inside }

-- so its record stands where its key is looked up
pub found_by_key : {V S : Type 0} (m : HashMap ℕ V S) (cid : ℕ) (found : Option ℕ) → found ≡ position (nat_eq cid) (keys m) → IfSome found (λ place. place < index_map_len m)
    → IfSome found (λ place. slice_get (values m) place ≡ get nat_eq m cid) → is_some found ≡ is_some (get nat_eq m cid) → IfSome found (λ place. IsPlaceOf m place cid)
found_by_key m cid None index inside value some = tt
found_by_key {V} m cid (Some place) index inside value some = by (get nat_eq m cid) refl
  where
    by : (r : Option V) → get nat_eq m cid ≡ r → IsPlaceOf m place cid
    by None e = absurd (true≢false (some ∙ ap is_some e))
    by (Some context) e = stands_first m place cid context (sym index) inside (value ∙ e) e

-- an entry that is lent at the place of a key is that key's
pub lent_at : {V S : Type 0} (m : HashMap ℕ V S) (place key : ℕ) → IsPlaceOf m place key → (other : ℕ) (value : V) → slice_get m.entries place ≡ Some (other, value)
    → (slice_get m.entries place ≡ Some (key, value)) × (get nat_eq m key ≡ Some value)
lent_at m place key is other value lent =
    let same = same_value (slice_get m.entries place) key other is.value value is.entry lent in
    (is.entry ∙ ap (λ v. Some (key, v)) same, is.found ∙ ap Some same)

-- where the entry of a key stands among the entries, the key stands among the keys
pub key_stands : {V S : Type 0} (m : HashMap ℕ V S) (place key : ℕ) → IsPlaceOf m place key → slice_get (keys m) place ≡ Some key
key_stands {V} m place key is = slice_get-map (λ (e : ℕ × V). e.0) m.entries place ∙ ap (option_map (λ (e : ℕ × V). e.0)) is.entry
