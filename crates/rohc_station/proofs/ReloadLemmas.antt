-- The calls of a reload: removes, then changes, and then adds.
use Rattle.std.proofs.Common.{◌≡◌, ℕ, suc, ◌+◌, ◌-◌, ◌≤◌, List, [], ◌∷◌, ◌++◌, length, map, filter, cond, get_or, ◌⊎◌, inl, inr, Bool, true, false, not, ◌==◌, ◌||◌, nat_eq, Option, Some, None, arith, refl, sym, ap, ◌∙◌, subst, eq-eqb, eqb-true}
use Rattle.std.specs.Prelude.{sum_by}
use Rattle.std.specs.Cmp.{nat_eq_equiv}
use Rattle.std.specs.List.{AllByRecursion, IsDistinct}
use Rattle.std.proofs.lemmas.List.{append_assoc, length-append, length-map, map-append}
use Rattle.std.proofs.lemmas.List.Filters.{length-filter_both}
use Rattle.std.proofs.lemmas.List.Folds.{list_any_at}
use Rattle.std.proofs.lemmas.Map.Made.{length-le_from_is_member}
use Rattle.rohc_concentrator.specs.declared.concentrator.Concentrator.{Concentrator}
use Rattle.rohc_concentrator.specs.declared.setting.LinkSetting.{LinkSetting}
use Rattle.rohc_concentrator.specs.Setup.{names_link, AreFine}
use Rattle.rohc_concentrator.specs.Tables.{setting_at, settings_in_order}
use Rattle.rohc_concentrator.specs.Seen.{View, view_at}
use Rattle.rohc_concentrator.specs.RunsCall.{GivesWay, Turn, Runs}
use Rattle.rohc_concentrator.proofs.WayLemmas.{each_of}
use Rattle.rohc_links.specs.Limits.{counted}
use Rattle.rohc_station.specs.Reload.{is_among, AreLinks, removed, differs, changed, added, removing, changing, adding, refused_add, reload_turns, contexts_on, gone_on, StopsIn}
use Rattle.rohc_saved.proofs.PutLemmas.{runs_append}
use Rattle.rohc_station.proofs.CallLemmas.{or_false, others_stay, unconcerned, all_if, all_weaker, all_passed, sum_same}

-- ---- How many links there are

way_length : (set : Option LinkSetting) (these olds news : List LinkSetting) → GivesWay set these olds news → suc (length news) ≡ length olds + length these
way_length set these olds news (front, behind, s, is, old, new) =
    omega (arith, ap (λ (ss : List LinkSetting). length ss) old, ap (λ (ss : List LinkSetting). length ss) new, length-append front (s ∷ behind), length-append front (these ++ behind), length-append these behind)

fewer : (ls : List ℕ) (a b : Concentrator) → Runs a (map removing ls) b → length (settings_in_order b) + length ls ≡ length (settings_in_order a)
fewer [] a b run = omega (arith, ap (λ k. length (settings_in_order k)) run)
fewer (l ∷ ls) a b (mid, call, rest) = omega (arith, way_length (setting_at a l) [] (settings_in_order a) (settings_in_order mid) call.links, fewer ls mid b rest)

as_many : (ss : List LinkSetting) (a b : Concentrator) → Runs a (map changing ss) b → length (settings_in_order b) ≡ length (settings_in_order a)
as_many [] a b run = ap (λ k. length (settings_in_order k)) run
as_many (s ∷ ss) a b (mid, call, rest) = omega (arith, way_length (setting_at a s.link) (s ∷ []) (settings_in_order a) (settings_in_order mid) call.links, as_many ss mid b rest)

-- ---- Numbers that are left, and settings that are known

pub distinct_filter : (p : ℕ → Bool) (xs : List ℕ) → IsDistinct nat_eq xs → IsDistinct nat_eq (filter p xs)
unfolding IsDistinct
distinct_filter p [] h = tt
distinct_filter p (x ∷ xs) h = by (p x) (distinct_filter p xs h.1)
  where
    by : (b : Bool) → IsDistinct nat_eq (filter p xs) → IsDistinct nat_eq (cond b (x ∷ filter p xs) (filter p xs))
    by true later = (all_weaker (λ (y : ℕ). (nat_eq x y ≡ false) × (p y ≡ true)) (λ y. nat_eq x y ≡ false) (λ y both. both.0) (filter p xs) (all_passed (λ (y : ℕ). nat_eq x y ≡ false) p xs h.0), later)
    by false later = later

passes_in : (p : ℕ → Bool) (q : ℕ) (xs : List ℕ) → is_among q (filter p xs) ≡ true → (p q ≡ true) × (is_among q xs ≡ true)
passes_in p q [] among = absurd (let bad : false ≡ true = among in cc)
passes_in p q (x ∷ xs) among = by (p x) (nat_eq q x) refl refl (passes_in p q xs) among
  where
    by : (b same : Bool) → p x ≡ b → nat_eq q x ≡ same → (is_among q (filter p xs) ≡ true → (p q ≡ true) × (is_among q xs ≡ true))
        → is_among q (cond b (x ∷ filter p xs) (filter p xs)) ≡ true → (p q ≡ true) × ((same || is_among q xs) ≡ true)
    by true true is here further found = (ap p (eqb-true q x here) ∙ is, refl)
    by true false is here further found = further (rw here at found)
    by false true is here further found = ((further found).0, refl)
    by false false is here further found = further found

pub or_true : (a b : Bool) → b ≡ true → (a || b) ≡ true
or_true true b e = refl
or_true false b e = e

known_in : (numbers : List ℕ) (q : ℕ) (file : List LinkSetting) → is_among q numbers ≡ true → names_link q file ≡ true → is_among q (map (λ (s : LinkSetting). s.link) (filter (λ (s : LinkSetting). is_among s.link numbers) file)) ≡ true
known_in numbers q [] among named = named
known_in numbers q (s ∷ file) among named = by (is_among s.link numbers) (s.link == q) refl refl (known_in numbers q file among) named
  where
    links : List LinkSetting → List ℕ
    links ss = map (λ (t : LinkSetting). t.link) ss

    known : List LinkSetting
    known = filter (λ (t : LinkSetting). is_among t.link numbers) file

    by : (b same : Bool) → is_among s.link numbers ≡ b → (s.link == q) ≡ same → (names_link q file ≡ true → is_among q (links known) ≡ true)
        → (same || names_link q file) ≡ true → is_among q (links (cond b (s ∷ known) known)) ≡ true
    by false true is here further found = absurd (let bad : false ≡ true = sym is ∙ ap (λ l. is_among l numbers) (eqb-true s.link q here) ∙ among in cc)
    by false false is here further found = further found
    by true true is here further found = let mine : nat_eq q s.link ≡ true = eq-eqb q s.link (sym (eqb-true s.link q here)) in rw mine refl
    by true false is here further found = or_true (nat_eq q s.link) (is_among q (links known)) (further found)

-- there is room for all
pub few_enough : (numbers : List ℕ) (file : List LinkSetting) → IsDistinct nat_eq numbers → length numbers + length (added numbers file) ≤ length (removed file numbers) + length file
few_enough numbers file distinct =
    let left : List ℕ = filter (λ l. names_link l file) numbers in
    let known : List LinkSetting = filter (λ (s : LinkSetting). is_among s.link numbers) file in
    let apart = distinct_filter (λ l. names_link l file) numbers distinct in
    let short : length left ≤ length (map (λ (s : LinkSetting). s.link) known) = length-le_from_is_member nat_eq_equiv left (map (λ (s : LinkSetting). s.link) known) apart
    (λ q among. let both = passes_in (λ l. names_link l file) q numbers among in known_in numbers q file both.1 both.0) in
    omega (
      arith,
      short,
      length-map known (λ (s : LinkSetting). s.link),
      length-filter_both (λ l. names_link l file) (λ l. not (names_link l file)) (λ l. refl) numbers,
      length-filter_both (λ (s : LinkSetting). is_among s.link numbers) (λ (s : LinkSetting). not (is_among s.link numbers)) (λ s. refl) file,
    )

pub agree_on : {X : Type 0} (p q : X → Bool) (xs : List X) → AllByRecursion (λ (x : X). p x ≡ q x) xs → filter p xs ≡ filter q xs
agree_on p q [] same = refl
agree_on p q (x ∷ xs) same = (λ i. cond (same.0 i) (x ∷ agree_on p q xs same.1 i) (agree_on p q xs same.1 i))

-- ---- Removes, changes and adds together

-- the first of these calls, and then none or an add that is refused
abbrev pub IsStopped : Concentrator → List Turn → Concentrator → Type 0
IsStopped old turns new = (calls : List Turn) × StopsIn turns calls × Runs old calls new

stopped_after : (a b c : Concentrator) (xs ys : List Turn) → Runs a xs b → IsStopped b ys c → IsStopped a (xs ++ ys) c
stopped_after a b c xs ys first (calls, (front, behind, split, stops), run) =
    (xs ++ calls, (xs ++ front, behind, ap (λ ts. xs ++ ts) split ∙ sym (append_assoc xs front behind), by stops), runs_append xs calls a b c first run)
  where
    by : (calls ≡ front) ⊎ ((s : LinkSetting) × (rest : List Turn) × (behind ≡ adding s ∷ rest) × (calls ≡ front ++ refused_add s ∷ []))
        → (xs ++ calls ≡ xs ++ front) ⊎ ((s : LinkSetting) × (rest : List Turn) × (behind ≡ adding s ∷ rest) × (xs ++ calls ≡ (xs ++ front) ++ refused_add s ∷ []))
    by (inl is) = inl (ap (λ ts. xs ++ ts) is)
    by (inr (s, rest, next, is)) = inr (s, rest, next, ap (λ ts. xs ++ ts) is ∙ sym (append_assoc xs front (refused_add s ∷ [])))

module _ (a b c : Concentrator) (numbers : List ℕ) (file : List LinkSetting) (links : AreLinks a numbers) (fine : AreFine file)
    (removes : Runs a (map removing (removed file numbers)) b) where
  -- a link of the file isn't removed
  pub named_stays : (l : ℕ) → names_link l file ≡ true → view_at b l ≡ view_at a l
  named_stays l named = others_stay l (map removing (removed file numbers)) a b removes
      (unconcerned removing (λ n. not (names_link n file)) l numbers (all_if (λ (n : ℕ). n ≡ l → not (names_link n file) ≡ false) numbers (λ n e. ap (λ m. not (names_link m file)) e ∙ ap not named)))

  pub named : AllByRecursion (λ (s : LinkSetting). names_link s.link file ≡ true) file
  named = each_of (λ (s : LinkSetting). names_link s.link file ≡ true) file (λ j d within.
      let s : LinkSetting = get_or file j d in list_any_at (λ (t : LinkSetting). t.link == s.link) file j d within (eq-eqb s.link s.link refl))

  pub same_changed : changed b file ≡ changed a file
  same_changed = agree_on (λ (s : LinkSetting). differs (setting_at b s.link) s) (λ (s : LinkSetting). differs (setting_at a s.link) s) file
      (all_weaker (λ (s : LinkSetting). names_link s.link file ≡ true) (λ s. differs (setting_at b s.link) s ≡ differs (setting_at a s.link) s) (λ s is. ap (λ (v : View). differs v.setting s) (named_stays s.link is)) file named)

  abbrev Stopped : Concentrator → Type 0
  Stopped new = IsStopped a (reload_turns a numbers file) new

  -- where no memory is left for a change
  pub stops_changing : (front behind : List LinkSetting) → changed b file ≡ front ++ behind → Runs b (map changing front) c → Stopped c
  stops_changing front behind split part = stopped_after a b c (map removing (removed file numbers)) (map changing (changed a file) ++ map adding (added numbers file)) removes (
    map changing front,
    (map changing front, map changing behind ++ map adding (added numbers file), all, inl refl),
    part,
  )
    where
      all : map changing (changed a file) ++ map adding (added numbers file) ≡ map changing front ++ (map changing behind ++ map adding (added numbers file))
      all = ap (λ ss. map changing ss ++ map adding (added numbers file)) (sym same_changed ∙ split) ∙ ap (λ ts. ts ++ map adding (added numbers file)) (map-append changing front behind)
          ∙ append_assoc (map changing front) (map changing behind) (map adding (added numbers file))

  module _ (changes : Runs b (map changing (changed b file)) c) where
    -- a link that wasn't there isn't removed and isn't changed
    pub still_absent : (l : ℕ) → is_among l numbers ≡ false → setting_at c l ≡ None
    still_absent l none =
        let gone : setting_at b l ≡ None = ap (λ (v : View). v.setting) (others_stay l (map removing (removed file numbers)) a b removes
        (unconcerned removing (λ n. not (names_link n file)) l numbers (none_of l numbers none))) ∙ links.whole l none in
        ap (λ (v : View). v.setting) (others_stay l (map changing (changed b file)) b c changes
        (unconcerned changing (λ (s : LinkSetting). differs (setting_at b s.link) s) l file
        (all_if (λ (s : LinkSetting). s.link ≡ l → differs (setting_at b s.link) s ≡ false) file (λ s e. ap (λ set. differs set s) (ap (setting_at b) e ∙ gone)))))
        ∙ gone
      where
        none_of : (l : ℕ) (ns : List ℕ) → is_among l ns ≡ false → AllByRecursion (λ (n : ℕ). n ≡ l → not (names_link n file) ≡ false) ns
        none_of l [] e = tt
        none_of l (n ∷ ns) e =
            let parts = or_false (nat_eq l n) (is_among l ns) e in
            (λ same. absurd (let mine : nat_eq l n ≡ true = eq-eqb l n (sym same) in let bad : true ≡ false = sym mine ∙ parts.0 in cc), none_of l ns parts.1)

    pub few_then : length (settings_in_order c) + length (added numbers file) ≤ 256
    few_then =
        let all : length (settings_in_order a) ≡ length numbers = sym (length-map (settings_in_order a) (λ (s : LinkSetting). Some s)) ∙ ap (λ (os : List (Option LinkSetting)). length os) (sym links.in_order) ∙ length-map numbers (setting_at a) in
        let few = fine.few in
        omega (arith, all, few, fewer (removed file numbers) a b removes, as_many (changed b file) b c changes, few_enough numbers file links.apart)

    module _ (d : Concentrator) where
      -- where no memory is left for an add
      pub stops_adding : IsStopped c (map adding (added numbers file)) d → Stopped d
      stops_adding stops = stopped_after a b d (map removing (removed file numbers)) (map changing (changed a file) ++ map adding (added numbers file)) removes
          (stopped_after b c d (map changing (changed a file)) (map adding (added numbers file)) (subst (λ ss. Runs b (map changing ss) c) same_changed changes) stops)

      module _ (adds : Runs c (map adding (added numbers file)) d) where
        pub all_run : Runs a (reload_turns a numbers file) d
        all_run = runs_append (map removing (removed file numbers)) (map changing (changed a file) ++ map adding (added numbers file)) a b d removes
            (runs_append (map changing (changed a file)) (map adding (added numbers file)) b c d (subst (λ ss. Runs b (map changing ss) c) same_changed changes) adds)

        -- a link that was changed isn't added
        pub last_stays : (s : LinkSetting) → names_link s.link file ≡ true → differs (setting_at b s.link) s ≡ true → view_at d s.link ≡ view_at c s.link
        last_stays s is other = others_stay s.link (map adding (added numbers file)) c d adds
            (unconcerned adding (λ (t : LinkSetting). not (is_among t.link numbers)) s.link file
            (all_if (λ (t : LinkSetting). t.link ≡ s.link → not (is_among t.link numbers) ≡ false) file (λ t e. ap (λ l. not (is_among l numbers)) e ∙ ap not (known (is_among s.link numbers) refl))))
          where
            known : (among : Bool) → is_among s.link numbers ≡ among → is_among s.link numbers ≡ true
            known true e = e
            known false e = absurd (let bad : false ≡ true = sym (ap (λ set. differs set s) (ap (λ (v : View). v.setting) (named_stays s.link is) ∙ links.whole s.link e)) ∙ other in cc)

        still_gone : (s : LinkSetting) → names_link s.link file ≡ true → differs (setting_at b s.link) s ≡ true → gone_on b c s ≡ gone_on a d s
        still_gone s is other =
            let kept : view_at b s.link ≡ view_at a s.link = named_stays s.link is in
            let first : view_at c s.link ≡ view_at d s.link = sym (last_stays s is other) in
            (λ i. length (kept i).cids - length (first i).cids)

        same_gone : sum_by (gone_on b c) (changed b file) ≡ sum_by (gone_on a d) (changed a file)
        same_gone =
            sum_same (gone_on b c) (gone_on a d) (changed b file)
            (all_weaker (λ (s : LinkSetting). (names_link s.link file ≡ true) × (differs (setting_at b s.link) s ≡ true)) (λ s. gone_on b c s ≡ gone_on a d s) (λ s both. still_gone s both.0 both.1) (changed b file)
            (all_passed (λ (s : LinkSetting). names_link s.link file ≡ true) (λ (s : LinkSetting). differs (setting_at b s.link) s) file named))
            ∙ ap (sum_by (gone_on a d)) same_changed

        -- the contexts that went with removed links and with changed ones
        pub all_gone : (x y n : ℕ) → x ≡ counted 0 (sum_by (contexts_on a) (removed file numbers)) → y ≡ counted 0 (sum_by (gone_on b c) (changed b file)) → n ≡ counted x y
            → n ≡ counted 0 (sum_by (contexts_on a) (removed file numbers) + sum_by (gone_on a d) (changed a file))
        all_gone x y n first second is = omega (arith, first, second, is, same_gone)
