-- Links that a file leaves out are removed, one after the other.
use Rattle.std.proofs.Common.{◌≡◌, ◌≢◌, ℕ, ◌+◌, ◌<◌, ◌^◌, List, [], ◌∷◌, ◌++◌, length, map, take, get_or, Bool, true, false, not, nat_eq, Option, Some, None, refl, sym, ap, ◌∙◌, subst, eq-eqb}
use Rattle.std.specs.Prelude.{sum_by}
use Rattle.std.specs.List.{AllByRecursion}
use Rattle.std.proofs.lemmas.List.Sums.{sum_by_push}
use Rattle.std.proofs.lemmas.Map.Keys.{apart_from_distinct}
use Rattle.rohc_concentrator.specs.declared.concentrator.Concentrator.{Concentrator}
use Rattle.rohc_concentrator.specs.declared.setting.LinkSetting.{LinkSetting}
use Rattle.rohc_concentrator.specs.Setup.{names_link}
use Rattle.rohc_concentrator.specs.Tables.{setting_at, settings_in_order}
use Rattle.rohc_concentrator.specs.Seen.{View, view_at}
use Rattle.rohc_concentrator.specs.Calls.{RemoveLink, Done}
use Rattle.rohc_concentrator.specs.RunsCall.{RunsCall, Runs}
use Rattle.rohc_concentrator.proofs.WayLemmas.{all_of}
use Rattle.rohc_links.specs.Limits.{counted}
use Rattle.rohc_station.specs.Reload.{AreLinks, removed, removing, contexts_on}
use Rattle.rohc_station.proofs.CallLemmas.{others_stay, unconcerned, earlier, filter_skip, filter_push, filter_short, run_push, counted_push, counted_sum}

-- each of the numbers is of a link that is there
pub all_there : (f : ℕ → Option LinkSetting) (xs : List ℕ) (ss : List LinkSetting) → map f xs ≡ map (λ s. Some s) ss → AllByRecursion (λ (x : ℕ). f x ≢ None) xs
all_there f [] ss e = tt
all_there f (x ∷ xs) [] e = absurd (let bad : ◌≡◌ {A = List (Option LinkSetting)} (f x ∷ map f xs) [] = e in cc)
all_there f (x ∷ xs) (s ∷ ss) e =
    let first : f x ≡ Some s = (let same : f x ∷ map f xs ≡ Some s ∷ map (λ t. Some t) ss = e in cc) in
    let rest : map f xs ≡ map (λ t. Some t) ss = (let same : f x ∷ map f xs ≡ Some s ∷ map (λ t. Some t) ss = e in cc) in
    (λ none. absurd (let bad : ◌≡◌ {A = Option LinkSetting} (Some s) None = sym first ∙ none in cc), all_there f xs ss rest)

-- these were removed, and so many contexts went
pub record Removed (old : Concentrator) (these : List ℕ) (links contexts : ℕ) (new : Concentrator) : Type 0 where
  pub runs : Runs old (map removing these) new
  pub so_many_links : links ≡ length these
  pub so_many_contexts : contexts ≡ counted 0 (sum_by (contexts_on old) these)

module _ (old k : Concentrator) (file : List LinkSetting) (numbers : List ℕ) (links : AreLinks old numbers) (i : ℕ) (within : i < length numbers) (n m : ℕ) (so_far : Removed old (removed file (take i numbers)) n m k) where
  abbrev here : ℕ
  here = get_or numbers i 0

  abbrev goes : ℕ → Bool
  goes l = not (names_link l file)

  apart : (j : ℕ) → j < i → get_or numbers j 0 ≢ here
  apart j below e =
      let other : nat_eq (get_or numbers j 0) here ≡ false = apart_from_distinct nat_eq numbers j i 0 links.apart below within in
      let same : nat_eq (get_or numbers j 0) here ≡ true = eq-eqb (get_or numbers j 0) here e in
      (let bad : true ≡ false = sym same ∙ other in cc)

  same_view : view_at k here ≡ view_at old here
  same_view = others_stay here (map removing (removed file (take i numbers))) old k so_far.runs
      (unconcerned removing goes here (take i numbers) (earlier (λ (l : ℕ). l) (λ l. goes l ≡ false) numbers i 0 within apart))

  pub is_there : setting_at k here ≢ None
  is_there none =
      all_of (λ (l : ℕ). setting_at old l ≢ None) numbers (all_there (setting_at old) numbers (settings_in_order old) links.in_order) i 0 within
      (sym (ap (λ (v : View). v.setting) same_view) ∙ none)

  pub named_stays : names_link here file ≡ true → Removed old (removed file (take (i + 1) numbers)) n m k
  named_stays named = subst (λ ls. Removed old ls n m k) (sym (filter_skip goes numbers i 0 here within refl (ap not named))) so_far

  pub one_removed : (gone n1 m1 : ℕ) (next : Concentrator) → names_link here file ≡ false → RunsCall k here RemoveLink Done next → gone ≡ contexts_on k here
      → n1 ≡ counted n 1 → m1 ≡ counted m gone → i < 2 ^ 63 → Removed old (removed file (take (i + 1) numbers)) n1 m1 next
  one_removed gone n1 m1 next unnamed call went one_more more low =
      let these : List ℕ = removed file (take i numbers) in
      subst (λ ls. Removed old ls n1 m1 next) (sym (filter_push goes numbers i 0 here within refl (ap not unnamed))) (record {
        runs = run_push removing these here old k next so_far.runs call;
        so_many_links = one_more ∙ counted_push n i these here so_far.so_many_links (filter_short goes numbers i) low;
        so_many_contexts = more ∙ counted_sum m gone (sum_by (contexts_on old) these) (sum_by (contexts_on old) (these ++ here ∷ [])) so_far.so_many_contexts
            (sum_by_push (contexts_on old) these here ∙ ap (λ c. sum_by (contexts_on old) these + c) (sym (went ∙ ap (λ (v : View). length v.cids) same_view)));
      })
