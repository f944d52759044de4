-- Settings that differ are changed, one after the other.
use Rattle.std.proofs.Common.{◌≡◌, ◌≢◌, ℕ, ◌+◌, ◌-◌, ◌<◌, ◌^◌, List, [], ◌∷◌, ◌++◌, length, map, take, drop, get_or, Bool, true, false, Option, Some, None, arith, sym, ap, ◌∙◌, subst}
use Rattle.std.specs.Prelude.{sum_by}
use Rattle.std.specs.List.{AllByRecursion}
use Rattle.std.proofs.lemmas.List.Sums.{sum_by_push}
use Rattle.rohc_concentrator.specs.declared.concentrator.Concentrator.{Concentrator}
use Rattle.rohc_concentrator.specs.declared.setting.LinkSetting.{LinkSetting}
use Rattle.rohc_concentrator.specs.Setting.{IsGoodSetting}
use Rattle.rohc_concentrator.specs.Setup.{AreFine}
use Rattle.rohc_concentrator.specs.Tables.{setting_at, identifiers_at}
use Rattle.rohc_concentrator.specs.Leaving.{HaveGone}
use Rattle.rohc_concentrator.specs.Seen.{View, view_at}
use Rattle.rohc_concentrator.specs.Calls.{ChangeLink, Done}
use Rattle.rohc_concentrator.specs.RunsCall.{RunsCall, Runs}
use Rattle.rohc_links.specs.Limits.{counted}
use Rattle.rohc_station.specs.Reload.{differs, changed, changing, contexts_on, gone_on}
use Rattle.rohc_station.proofs.CallLemmas.{others_stay, unconcerned, earlier, other_view, all_weaker, all_passed, sum_same, filter_skip, filter_push, filter_split, filter_short, run_push, counted_push, counted_sum}

-- these were changed, and so many contexts went
pub record Changed (old : Concentrator) (these : List LinkSetting) (links contexts : ℕ) (new : Concentrator) : Type 0 where
  pub runs : Runs old (map changing these) new
  pub so_many_links : links ≡ length these
  pub so_many_contexts : contexts ≡ counted 0 (sum_by (gone_on old new) these)

not_there : (set : Option LinkSetting) (s : LinkSetting) → differs set s ≡ true → set ≢ None
not_there None s is e = (let bad : false ≡ true = is in cc)
not_there (Some t) s is e = (let bad : ◌≡◌ {A = Option LinkSetting} (Some t) None = e in cc)

module _ (old k : Concentrator) (file : List LinkSetting) (fine : AreFine file) (i : ℕ) (s : LinkSetting) (within : i < length file) (is : s ≡ get_or file i s) (n m : ℕ) (so_far : Changed old (changed old (take i file)) n m k) where
  abbrev other_than : LinkSetting → Bool
  other_than t = differs (setting_at old t.link) t

  abbrev these : List LinkSetting
  these = changed old (take i file)

  link_is : s.link ≡ (get_or file i s).link
  link_is = ap (λ (t : LinkSetting). t.link) is

  before : (P : LinkSetting → Type 0) → AllByRecursion (λ (t : LinkSetting). t.link ≡ s.link → P t) (take i file)
  before P = subst (λ l. AllByRecursion (λ (t : LinkSetting). t.link ≡ l → P t) (take i file)) (sym link_is)
      (earlier (λ (t : LinkSetting). t.link) P file i s within (λ j below. fine.sound.apart j i s below within))

  same_view : view_at k s.link ≡ view_at old s.link
  same_view = others_stay s.link (map changing these) old k so_far.runs (unconcerned changing other_than s.link (take i file) (before (λ t. other_than t ≡ false)))

  same_test : differs (setting_at k s.link) s ≡ other_than s
  same_test = ap (λ (v : View). differs v.setting s) same_view

  pub is_changed_there : differs (setting_at k s.link) s ≡ true → setting_at k s.link ≢ None
  is_changed_there = not_there (setting_at k s.link) s

  pub is_good_here : IsGoodSetting s
  is_good_here = subst IsGoodSetting (sym is) (fine.sound.good i s within)

  pub same_stays : differs (setting_at k s.link) s ≡ false → Changed old (changed old (take (i + 1) file)) n m k
  same_stays same = subst (λ ss. Changed old ss n m k) (sym (filter_skip other_than file i s s within is (sym same_test ∙ same))) so_far

  module _ (gone : ℕ) (next : Concentrator) (call : RunsCall k s.link (ChangeLink s) Done next) (went : HaveGone gone k next s.link) where
    still_gone : (t : LinkSetting) → t.link ≢ s.link → gone_on old k t ≡ gone_on old next t
    still_gone t other = ap (λ (v : View). contexts_on old t.link - length v.cids) (sym (other_view k next s.link (ChangeLink s) Done call t.link (λ e. other (sym e))))

    sum_more : sum_by (gone_on old next) (these ++ s ∷ []) ≡ sum_by (gone_on old k) these + gone
    sum_more =
        let same : sum_by (gone_on old k) these ≡ sum_by (gone_on old next) these = sum_same (gone_on old k) (gone_on old next) these
        (all_weaker (λ (t : LinkSetting). (t.link ≡ s.link → ⊥) × (other_than t ≡ true)) (λ t. gone_on old k t ≡ gone_on old next t) (λ t other. still_gone t other.0) these
        (all_passed (λ (t : LinkSetting). t.link ≡ s.link → ⊥) other_than (take i file) (before (λ t. ⊥)))) in
        let had : length (identifiers_at k s.link) ≡ length (identifiers_at old s.link) = ap (λ (v : View). length v.cids) same_view in
        let here : gone_on old next s ≡ gone = omega (arith, had, went) in
        let back : sum_by (gone_on old next) these ≡ sum_by (gone_on old k) these = sym same in
        sum_by_push (gone_on old next) these s ∙ (λ i. back i + here i)

    pub one_changed : (n1 m1 : ℕ) → differs (setting_at k s.link) s ≡ true → n1 ≡ counted n 1 → m1 ≡ counted m gone → i < 2 ^ 63 → Changed old (changed old (take (i + 1) file)) n1 m1 next
    one_changed n1 m1 other one_more more low = subst (λ ss. Changed old ss n1 m1 next) (sym (filter_push other_than file i s s within is (sym same_test ∙ other))) (record {
      runs = run_push changing these s old k next so_far.runs call;
      so_many_links = one_more ∙ counted_push n i these s so_far.so_many_links (filter_short other_than file i) low;
      so_many_contexts = more ∙ counted_sum m gone (sum_by (gone_on old k) these) (sum_by (gone_on old next) (these ++ s ∷ [])) so_far.so_many_contexts sum_more;
    })

-- those that were changed are the first of all
pub changed_part : (old : Concentrator) (file : List LinkSetting) (i : ℕ) → changed old file ≡ changed old (take i file) ++ changed old (drop i file)
changed_part old file i = filter_split (λ (t : LinkSetting). differs (setting_at old t.link) t) file i
