-- What a link sees, from its setting, its records and the order of their CIDs.
use Rattle.std.proofs.Common.{◌≡◌, ◌≢◌, ℕ, List, [], ◌∷◌, ◌++◌, length, ◌==◌, inl, inr, Bool, true, false, nat_eq, is_some, Option, Some, None, refl, sym, ap, ◌∙◌, subst, arith, unwrap_or, filter, cond, eq-eqb, ne_eqb}
use Rattle.std.specs.Prelude.{◌||◌}
use Rattle.std.specs.Bool.{MatchBool}
use Rattle.std.specs.Option.{option_map, option_and_then}
use Rattle.std.specs.List.{list_any}
use Rattle.std.specs.Map.{keys_of, lookup}
use Rattle.std.specs.HashMap.{get, keys}
use Rattle.std.proofs.lemmas.Bool.Decides.{nat_tests}
use Rattle.rohc_context.specs.declared.record.Context.{Context}
use Rattle.rohc_context.specs.Record.{Record, record_of}
use Rattle.rohc_concentrator.specs.declared.concentrator.Concentrator.{Concentrator}
use Rattle.rohc_concentrator.specs.declared.records.LinkRecords.{LinkRecords}
use Rattle.rohc_concentrator.specs.declared.setting.LinkSetting.{LinkSetting}
use Rattle.rohc_concentrator.specs.Setting.{settings_of}
use Rattle.rohc_concentrator.specs.Tables.{setting_at, record_in, record_at, identifiers_at, settings_in_order, KeepsPlace, KeepsAll}
use Rattle.rohc_concentrator.specs.Seen.{seen_in, seen_at, held_of, View, view_at}
use Rattle.rohc_concentrator.specs.Calls.{Call, CallAnswer}
use Rattle.rohc_concentrator.specs.RunsCall.{GoesLast, LinkStep, IsCrowd, LinksOrdered, RunsCall}
use Rattle.rohc_concentrator.proofs.ByNumber.{by_number}

abbrev pub set_of : Option LinkRecords → Option LinkSetting
set_of o = option_map (λ (r : LinkRecords). r.setting) o

abbrev pub record_of_cid : ℕ → Option LinkRecords → Option Record
record_of_cid c o = option_and_then (λ (r : LinkRecords). record_in r c) o

abbrev pub cids_of : Option LinkRecords → List ℕ
cids_of o = unwrap_or (option_map (λ (r : LinkRecords). keys r.contexts) o) []

-- a view from its parts
abbrev pub view_from : Option LinkSetting → (ℕ → Option Record) → List ℕ → View
view_from set held cids = record {
  setting = set;
  seen = λ c. option_map (λ (s : LinkSetting). record { settings = settings_of s c; held = held c }) set;
  cids = cids;
}

-- a view from what is kept for the link
abbrev pub view_of : Option LinkRecords → View
view_of o = record { setting = set_of o; seen = λ c. option_map (λ (r : LinkRecords). seen_in r c) o; cids = cids_of o }

view_of_is : (o : Option LinkRecords) → view_of o ≡ view_from (set_of o) (λ c. record_of_cid c o) (cids_of o)
view_of_is None = refl
view_of_is (Some r) = refl

-- a view of what is kept for a link, from what that is
pub view_in_is : (r : LinkRecords) (s : LinkSetting) (held : ℕ → Option Record) (cids : List ℕ)
    → r.setting ≡ s → ((c : ℕ) → record_in r c ≡ held c) → keys r.contexts ≡ cids → view_of (Some r) ≡ view_from (Some s) held cids
view_in_is r s held cids p q o = (λ i. view_from (Some (p i)) (λ c. q c i) (o i))

pub view_is : (k : Concentrator) (l : ℕ) (set : Option LinkSetting) (held : ℕ → Option Record) (cids : List ℕ)
    → setting_at k l ≡ set → ((c : ℕ) → record_at k l c ≡ held c) → identifiers_at k l ≡ cids → view_at k l ≡ view_from set held cids
view_is k l set held cids p q r = view_of_is (get nat_eq k.links l) ∙ (λ i. view_from (p i) (λ c. q c i) (r i))

-- where these stay, a link sees the same
pub view_stays : (old new : Concentrator) (l : ℕ) → setting_at new l ≡ setting_at old l → ((c : ℕ) → record_at new l c ≡ record_at old l c) → identifiers_at new l ≡ identifiers_at old l
    → view_at new l ≡ view_at old l
view_stays old new l p q r =
    view_is new l (setting_at old l) (record_at old l) (identifiers_at old l) p q r
    ∙ sym (view_is old l (setting_at old l) (record_at old l) (identifiers_at old l) refl (λ c. refl) refl)

pub keeps_view : (old new : Concentrator) (l : ℕ) → KeepsAll old new → view_at new l ≡ view_at old l
keeps_view old new l k = view_stays old new l (k.settings.each l) (k.records l) (k.order l)

-- a link that isn't there holds nothing
none_of : (c : ℕ) (o : Option LinkRecords) → set_of o ≡ None → (record_of_cid c o ≡ None) × (cids_of o ≡ [])
none_of c None is = (refl, refl)
none_of c (Some r) is = absurd (let f : ◌≡◌ {A = Option LinkSetting} (Some r.setting) None = is in cc)

pub held_none : (k : Concentrator) (l c : ℕ) → setting_at k l ≡ None → record_at k l c ≡ None
held_none k l c is = (none_of c (get nat_eq k.links l) is).0

pub cids_none : (k : Concentrator) (l : ℕ) → setting_at k l ≡ None → identifiers_at k l ≡ []
cids_none k l is = (none_of 0 (get nat_eq k.links l) is).1

-- the view of a link that isn't there
pub view_none : (k : Concentrator) (l : ℕ) → setting_at k l ≡ None → view_at k l ≡ view_from None (λ c. None) []
view_none k l is = view_is k l None (λ c. None) [] is (λ c. held_none k l c is) (cids_none k l is)

-- the view of a link that is there
pub view_some : (k : Concentrator) (l : ℕ) (s : LinkSetting) → setting_at k l ≡ Some s → view_at k l ≡ view_from (Some s) (record_at k l) (identifiers_at k l)
view_some k l s is = view_is k l (Some s) (record_at k l) (identifiers_at k l) is (λ c. refl) refl

-- where no record is left, no CID is
pub none_left : (cids : List ℕ) → [] ≡ filter (λ (c : ℕ). false) cids
none_left [] = refl
none_left (c ∷ cids) = none_left cids

-- the record that is seen is the record
held_in : (c : ℕ) (o : Option LinkRecords) → held_of (option_map (λ (r : LinkRecords). seen_in r c) o) ≡ record_of_cid c o
held_in c None = refl
held_in c (Some r) = refl

pub held_at : (k : Concentrator) (l c : ℕ) → held_of (seen_at k l c) ≡ record_at k l c
held_at k l c = held_in c (get nat_eq k.links l)

-- the CIDs that are listed are those that have a record

listed : (c : ℕ) (es : List (ℕ × Context)) → list_any (nat_eq c) (keys_of es) ≡ is_some (option_map record_of (lookup (nat_eq c) es))
listed c [] = refl
listed c (e ∷ es) = by (nat_eq c e.0) (listed c es)
  where
    by : (b : Bool) → list_any (nat_eq c) (keys_of es) ≡ is_some (option_map record_of (lookup (nat_eq c) es))
        → (b || list_any (nat_eq c) (keys_of es)) ≡ is_some (option_map record_of (cond b (Some e.1) (lookup (nat_eq c) es)))
    by true later = refl
    by false later = later

pub listed_in : (c : ℕ) (o : Option LinkRecords) → list_any (nat_eq c) (cids_of o) ≡ is_some (record_of_cid c o)
listed_in c None = refl
listed_in c (Some r) = listed c r.contexts.entries

pub listed_at : (k : Concentrator) (l c : ℕ) → list_any (nat_eq c) (identifiers_at k l) ≡ is_some (record_at k l c)
listed_at k l c = listed_in c (get nat_eq k.links l)

lists_last : (c : ℕ) (cids : List ℕ) → list_any (nat_eq c) (cids ++ c ∷ []) ≡ true
lists_last c [] = let same : nat_eq c c ≡ true = grind (arith, nat_tests) in rw same refl
lists_last c (d ∷ cids) = by (nat_eq c d) (lists_last c cids)
  where
    by : (b : Bool) → list_any (nat_eq c) (cids ++ c ∷ []) ≡ true → (b || list_any (nat_eq c) (cids ++ c ∷ [])) ≡ true
    by true later = refl
    by false later = later

-- so a first record goes last
pub goes_last : (before after : Option Record) (c : ℕ) (old new : List ℕ) → KeepsPlace old new c before → list_any (nat_eq c) old ≡ is_some before → list_any (nat_eq c) new ≡ is_some after → GoesLast before after c old new
goes_last (Some r) after c old new keeps had has = keeps
goes_last None None c old new (inl same) had has = same
goes_last None None c old new (inr more) had has = absurd (let f : true ≡ false = sym (ap (list_any (nat_eq c)) more ∙ lists_last c old) ∙ has in cc)
goes_last None (Some r) c old new (inr more) had has = more
goes_last None (Some r) c old new (inl same) had has = absurd (let f : false ≡ true = sym had ∙ sym (ap (list_any (nat_eq c)) same) ∙ has in cc)

-- a call, from what its link sees
pub call_runs : (old new : Concentrator) (link : ℕ) (e : Call) (a : CallAnswer) (v w : View) → view_at old link ≡ v → view_at new link ≡ w → LinkStep v e a w
    → ((l : ℕ) → l ≢ link → view_at new l ≡ view_at old l) → IsCrowd e (length (settings_in_order old)) a → LinksOrdered e a (setting_at old link) (settings_in_order old) (settings_in_order new) → RunsCall old link e a new
call_runs old new link e a v w before after step others crowd links = record {
  each = by_number (λ l. MatchBool (link == l) (LinkStep (view_at old l) e a (view_at new l)) (view_at new l ≡ view_at old l)) link
      (rw (eq-eqb link link refl) (subst (λ z. LinkStep z e a (view_at new link)) (sym before) (subst (LinkStep v e a) (sym after) step)))
      (λ l other. rw (ne_eqb link l (λ is. other (sym is))) (others l other));
  crowd = crowd;
  links = links;
}
