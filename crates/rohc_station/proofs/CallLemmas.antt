-- Calls of a concentrator, one after another, and what single calls say.
use Rattle.std.proofs.Common.{◌≡◌, ◌≢◌, ℕ, zero, suc, ◌+◌, ◌<◌, ◌≤◌, ◌^◌, List, [], ◌∷◌, ◌++◌, length, map, filter, cond, take, drop, get_or, Bool, true, false, ◌||◌, ◌==◌, is_some, nat_eq, Option, Some, None, Result, Ok, Err, arith, refl, sym, ap, ◌∙◌, subst, eq-eqb, ne_eqb}
use Rattle.std.specs.Prelude.{sum_by, OnErr}
use Rattle.std.specs.List.{AllByRecursion, list_any}
use Rattle.std.specs.Option.{option_map}
use Rattle.indexmap.specs.IndexMap.{get}
use Rattle.std.proofs.lemmas.List.{append-nil, length-take, length_push, map_push, drop_more, take-append-drop}
use Rattle.std.proofs.lemmas.List.Elements.{filter_agree, filter_more, filter-append}
use Rattle.std.proofs.lemmas.List.Sums.{sum_by-cons, length-filter, count_by-le-length}
use Rattle.rohc_concentrator.specs.declared.concentrator.Concentrator.{Concentrator}
use Rattle.rohc_concentrator.specs.declared.records.LinkRecords.{LinkRecords}
use Rattle.rohc_concentrator.specs.declared.setting.LinkSetting.{LinkSetting}
use Rattle.rohc_concentrator.specs.declared.links.AddFault.{AddFault}
use Rattle.rohc_concentrator.specs.declared.links.AddFault.TheVariants as adds
use Rattle.rohc_concentrator.specs.declared.links.ChangeFault.{ChangeFault}
use Rattle.rohc_concentrator.specs.declared.links.ChangeFault.TheVariants as faults
use Rattle.rohc_concentrator.specs.Setting.{IsGoodSetting, settings_of}
use Rattle.rohc_concentrator.specs.Tables.{setting_at, identifiers_at, settings_in_order}
use Rattle.rohc_concentrator.specs.Seen.{Seen, seen_in, seen_at, held_of, view_at}
use Rattle.rohc_concentrator.specs.Calls.{Call, Reset, AddLink, RemoveLink, ChangeLink, CallAnswer, Done, NoSuchLink, NotAdded, NotChanged, LoneAnswer, Told, LoneForget, LoneRemove, LoneAdd}
use Rattle.rohc_concentrator.specs.Owns.{Makes}
use Rattle.rohc_concentrator.specs.RunsCall.{LinkStep, RunsCall, Turn, Runs}
use Rattle.rohc_concentrator.proofs.ViewLemmas.{none_left}
use Rattle.rohc_saved.proofs.PutLemmas.{runs_append}
use Rattle.rohc_links.specs.Limits.{counted}

pub or_false : (a b : Bool) → (a || b) ≡ false → (a ≡ false) × (b ≡ false)
or_false false false e = (refl, refl)
or_false false true e = absurd (let bad : true ≡ false = e in cc)
or_false true b e = absurd (let bad : true ≡ false = e in cc)

-- at an error
pub on_err : {T E : Type 0} {P : Type 0} (r : Result T E) → P → OnErr r P
on_err (Ok x) p = tt
on_err (Err e) p = p

-- ---- Calls one after another

-- one of the calls is for this link
abbrev pub concerns : ℕ → List Turn → Bool
concerns l turns = list_any (λ (t : Turn). t.link == l) turns

-- what no call is for stays
pub others_stay : (l : ℕ) (turns : List Turn) (old new : Concentrator) → Runs old turns new → concerns l turns ≡ false → view_at new l ≡ view_at old l
others_stay l [] old new run none = ap (λ k. view_at k l) run
others_stay l (t ∷ turns) old new (mid, event, rest) none =
    let parts = or_false (t.link == l) (concerns l turns) none in
    others_stay l turns mid new rest parts.1 ∙ (let other : (t.link == l) ≡ false = parts.0 in rw other at (event.each l))

-- the calls of what passes are for no link of which nothing passes
pub unconcerned : {X : Type 0} (turn : X → Turn) (p : X → Bool) (l : ℕ) (xs : List X) → AllByRecursion (λ (x : X). (turn x).link ≡ l → p x ≡ false) xs → concerns l (map turn (filter p xs)) ≡ false
unconcerned turn p l [] none = refl
unconcerned turn p l (x ∷ xs) none = by (p x) refl (unconcerned turn p l xs none.1)
  where
    by : (b : Bool) → p x ≡ b → concerns l (map turn (filter p xs)) ≡ false → concerns l (map turn (cond b (x ∷ filter p xs) (filter p xs))) ≡ false
    by false is later = later
    by true is later = let other : ((turn x).link == l) ≡ false = ne_eqb (turn x).link l (λ e. let bad : true ≡ false = sym is ∙ none.0 e in cc) in rw other later

pub all_if : {X : Type 0} (P : X → Type 0) (xs : List X) → ((x : X) → P x) → AllByRecursion P xs
all_if P [] each = tt
all_if P (x ∷ xs) each = (each x, all_if P xs each)

-- what is before an element is of other links, where no two are of one
pub earlier : {X : Type 0} (link : X → ℕ) (P : X → Type 0) (xs : List X) (i : ℕ) (d : X) → i < length xs → ((j : ℕ) → j < i → link (get_or xs j d) ≢ link (get_or xs i d))
    → AllByRecursion (λ (x : X). link x ≡ link (get_or xs i d) → P x) (take i xs)
earlier link P [] i d within apart = absurd (omega arith)
earlier link P (x ∷ xs) zero d within apart = tt
earlier link P (x ∷ xs) (suc i) d within apart = (λ e. absurd (apart 0 (omega arith) e), earlier link P xs i d (omega arith) (λ j below. apart (suc j) (omega arith)))

-- ---- One call

module _ (old new : Concentrator) (link : ℕ) (e : Call) (a : CallAnswer) (call : RunsCall old link e a new) where
  pub own_step : LinkStep (view_at old link) e a (view_at new link)
  own_step = let mine : (link == link) ≡ true = eq-eqb link link refl in rw mine at (call.each link)

  pub other_view : (l : ℕ) → link ≢ l → view_at new l ≡ view_at old l
  other_view l other = let apart : (link == l) ≡ false = ne_eqb link l other in rw apart at (call.each l)

module _ (old new : Concentrator) (link : ℕ) where
  refused_remove : (o : Option LinkRecords) (after : Option Seen) → Makes 0 LoneRemove (option_map (λ (r : LinkRecords). seen_in r 0) o) (Told NoSuchLink) after → option_map (λ (r : LinkRecords). r.setting) o ≡ None
  refused_remove None after makes = refl
  refused_remove (Some r) after makes = absurd (let bad : ◌≡◌ {A = LoneAnswer} (Told NoSuchLink) (Told Done) = makes.0 in cc)

  -- a link that isn't removed isn't there
  pub not_removed : RunsCall old link RemoveLink NoSuchLink new → setting_at old link ≡ None
  not_removed call = refused_remove (get nat_eq old.links link) (seen_at new link 0) ((own_step old new link RemoveLink NoSuchLink call).each 0)

  -- where a good setting isn't changed, the link isn't there
  pub not_changed : (s : LinkSetting) (fault : ChangeFault) → RunsCall old link (ChangeLink s) (NotChanged fault) new → IsGoodSetting s → setting_at old link ≡ None
  not_changed s faults.NoLink call good = (own_step old new link (ChangeLink s) (NotChanged faults.NoLink) call).front
  not_changed s faults.BadSetting call good = absurd ((own_step old new link (ChangeLink s) (NotChanged faults.BadSetting) call).front.1 good)

  refused_double : (s : LinkSetting) (o : Option LinkRecords) (after : Option Seen) → Makes 0 (LoneAdd (settings_of s 0)) (option_map (λ (r : LinkRecords). seen_in r 0) o) (Told (NotAdded adds.DuplicateLink)) after
      → option_map (λ (r : LinkRecords). r.setting) o ≢ None
  refused_double s None after makes is = (let bad : ◌≡◌ {A = LoneAnswer} (Told (NotAdded adds.DuplicateLink)) (Told Done) = makes.0 in cc)
  refused_double s (Some r) after makes is = (let bad : ◌≡◌ {A = Option LinkSetting} (Some r.setting) None = is in cc)

  -- a good setting of a link that isn't there is refused only for want of memory, where there are fewer than 256 links
  pub not_added : (s : LinkSetting) (fault : AddFault) → RunsCall old link (AddLink s) (NotAdded fault) new → IsGoodSetting s → length (settings_in_order old) < 256 → setting_at old link ≡ None
      → RunsCall old link (AddLink s) (NotAdded adds.NoMemory) new
  not_added s adds.TooManyLinks call good few absent = absurd (let many = call.crowd in omega (arith, many, few))
  not_added s adds.BadSetting call good few absent = absurd ((own_step old new link (AddLink s) (NotAdded adds.BadSetting) call).front good)
  not_added s adds.DuplicateLink call good few absent =
      absurd (refused_double s (get nat_eq old.links link) (seen_at new link 0) ((own_step old new link (AddLink s) (NotAdded adds.DuplicateLink) call).each 0) absent)
  not_added s adds.NoMemory call good few absent = call

  forgot : (c : ℕ) (before after : Option Seen) → Makes c LoneForget before (Told Done) after → held_of after ≡ None
  forgot c None after makes = absurd (let bad : ◌≡◌ {A = LoneAnswer} (Told Done) (Told NoSuchLink) = makes.0 in cc)
  forgot c (Some v) after makes = ap held_of makes.1

  -- after a reset a link has no contexts
  pub reset_empties : RunsCall old link Reset Done new → identifiers_at new link ≡ []
  reset_empties call =
      let step = own_step old new link Reset Done call in
      step.order
      ∙ filter_agree (λ (c : ℕ). is_some (held_of (seen_at new link c))) (λ c. false) (λ c. ap is_some (forgot c (seen_at old link c) (seen_at new link c) (step.each c))) (identifiers_at old link)
      ∙ sym (none_left (identifiers_at old link))

-- ---- Sums

pub sum_same : {X : Type 0} (f g : X → ℕ) (xs : List X) → AllByRecursion (λ (x : X). f x ≡ g x) xs → sum_by f xs ≡ sum_by g xs
sum_same f g [] same = refl
sum_same f g (x ∷ xs) same = sum_by-cons f x xs ∙ (λ i. same.0 i + sum_same f g xs same.1 i) ∙ sym (sum_by-cons g x xs)

-- ---- Lists of which some pass

pub all_weaker : {X : Type 0} (P Q : X → Type 0) → ((x : X) → P x → Q x) → (xs : List X) → AllByRecursion P xs → AllByRecursion Q xs
all_weaker P Q from [] all = tt
all_weaker P Q from (x ∷ xs) all = (from x all.0, all_weaker P Q from xs all.1)

-- what passes does what all do, and passes
pub all_passed : {X : Type 0} (P : X → Type 0) (p : X → Bool) (xs : List X) → AllByRecursion P xs → AllByRecursion (λ (x : X). P x × (p x ≡ true)) (filter p xs)
all_passed P p [] all = tt
all_passed {X = X} P p (x ∷ xs) all = by (p x) refl (all_passed P p xs all.1)
  where
    by : (b : Bool) → p x ≡ b → AllByRecursion (λ (y : X). P y × (p y ≡ true)) (filter p xs) → AllByRecursion (λ (y : X). P y × (p y ≡ true)) (cond b (x ∷ filter p xs) (filter p xs))
    by false is later = later
    by true is later = ((all.0, is), later)

module _ {X : Type 0} (p : X → Bool) (xs : List X) (i : ℕ) (d x : X) (within : i < length xs) (is : x ≡ get_or xs i d) where
  pub filter_skip : p x ≡ false → filter p (take (i + 1) xs) ≡ filter p (take i xs)
  filter_skip fails = filter_more p xs i d within ∙ (let no : p (get_or xs i d) ≡ false = subst (λ y. p y ≡ false) is fails in rw no (append-nil (filter p (take i xs))))

  pub filter_push : p x ≡ true → filter p (take (i + 1) xs) ≡ filter p (take i xs) ++ x ∷ []
  filter_push passes = filter_more p xs i d within
      ∙ (let yes : p (get_or xs i d) ≡ true = subst (λ y. p y ≡ true) is passes in rw yes (ap (λ y. filter p (take i xs) ++ y ∷ []) (sym is)))

  pub filter_next : p x ≡ true → filter p (drop i xs) ≡ x ∷ filter p (drop (i + 1) xs)
  filter_next passes = ap (filter p) (drop_more xs i d within ∙ ap (λ y. y ∷ drop (i + 1) xs) (sym is)) ∙ (rw passes refl)

  pub filter_past : p x ≡ false → filter p (drop i xs) ≡ filter p (drop (i + 1) xs)
  filter_past fails = ap (filter p) (drop_more xs i d within ∙ ap (λ y. y ∷ drop (i + 1) xs) (sym is)) ∙ (rw fails refl)

pub filter_split : {X : Type 0} (p : X → Bool) (xs : List X) (i : ℕ) → filter p xs ≡ filter p (take i xs) ++ filter p (drop i xs)
filter_split p xs i = ap (filter p) (sym (take-append-drop i xs)) ∙ filter-append p (take i xs) (drop i xs)

pub filter_short : {X : Type 0} (p : X → Bool) (xs : List X) (i : ℕ) → length (filter p (take i xs)) ≤ i
filter_short p xs i = omega (arith, length-filter p (take i xs), count_by-le-length p (take i xs), length-take i xs)

-- one more call
pub run_push : {X : Type 0} (turn : X → Turn) (xs : List X) (x : X) (a b c : Concentrator) → Runs a (map turn xs) b → RunsCall b (turn x).link (turn x).call (turn x).answer c → Runs a (map turn (xs ++ x ∷ [])) c
run_push turn xs x a b c run call = subst (λ ts. Runs a ts c) (sym (map_push turn xs x)) (runs_append (map turn xs) (turn x ∷ []) a b c run (c, call, refl))

-- one more link, and one more summand
pub counted_push : {X : Type 0} (n i : ℕ) (xs : List X) (x : X) → n ≡ length xs → length xs ≤ i → i < 2 ^ 63 → counted n 1 ≡ length (xs ++ x ∷ [])
counted_push n i xs x is short low = omega (arith, length_push xs x, is, short, low)

pub counted_sum : (n gone a b : ℕ) → n ≡ counted 0 a → b ≡ a + gone → counted n gone ≡ counted 0 b
counted_sum n gone a b is more = omega arith
