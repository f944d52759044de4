-- A reload does what its preview foresaw.
use Rattle.std.proofs.Common.{◌≡◌, ◌≢◌, ℕ, ◌+◌, ◌≤◌, List, [], ◌∷◌, ◌++◌, length, map, filter, cond, Bool, true, false, not, ◌&&◌, ◌||◌, nat_eq, nat_le, is_some, Option, Some, None, arith, refl, sym, ap, ◌∙◌, subst, eq-eqb, eqb-true, ne_eqb, if◌then◌else◌}
use Rattle.std.specs.Prelude.{sum_by}
use Rattle.std.specs.Cmp.{nat_eq_equiv}
use Rattle.std.specs.List.{AllByRecursion, IsDistinct}
use Rattle.std.proofs.lemmas.List.{length-map}
use Rattle.std.proofs.lemmas.List.Filters.{length-filter_both}
use Rattle.std.proofs.lemmas.List.Sums.{sum_by-cons, sum_by-append}
use Rattle.std.proofs.lemmas.Map.Made.{length-le_from_is_member, is_member-filter, All-is_member}
use Rattle.rohc_context.specs.declared.settings.Settings.{Settings}
use Rattle.rohc_context.specs.Record.{Record}
use Rattle.rohc_concentrator.specs.declared.concentrator.Concentrator.{Concentrator}
use Rattle.rohc_concentrator.specs.declared.setting.LinkSetting.{LinkSetting}
use Rattle.rohc_concentrator.specs.Setting.{settings_of}
use Rattle.rohc_concentrator.specs.Setup.{names_link, AreFine}
use Rattle.rohc_concentrator.specs.Tables.{setting_at, record_at, identifiers_at, settings_in_order}
use Rattle.rohc_concentrator.specs.Leaving.{left_of, is_same_kind}
use Rattle.rohc_concentrator.specs.Seen.{seen_at, held_of, View, view_at}
use Rattle.rohc_concentrator.specs.Calls.{ChangeLink, Done, LoneChange, Told}
use Rattle.rohc_concentrator.specs.Owns.{survives_as, Makes}
use Rattle.rohc_concentrator.specs.RunsCall.{LinkStep, Runs}
use Rattle.rohc_concentrator.proofs.OwnLemmas.{run_split}
use Rattle.rohc_concentrator.proofs.ViewLemmas.{view_some, listed_at}
use Rattle.rohc_concentrator.proofs.WayLemmas.{each_of, Apart, apart_of}
use Rattle.rohc_links.specs.Limits.{counted}
use Rattle.rohc_station.specs.declared.preview.Loss.{Loss}
use Rattle.rohc_station.specs.Reload.{is_among, AreLinks, removed, differs, changed, added, removing, changing, adding, reload_turns, contexts_on, gone_on}
use Rattle.rohc_station.specs.Preview.{link_of, stays, lost_of, lost_on, loss_of_removed, loss_of_changed, contexts_of, PreviewIsReload}
use Rattle.rohc_station.proofs.CallLemmas.{concerns, others_stay, own_step, other_view, all_weaker, all_passed}
use Rattle.rohc_station.proofs.RemoveLemmas.{all_there}
use Rattle.rohc_station.proofs.ReloadLemmas.{distinct_filter, agree_on, or_true, named_stays, named, same_changed, last_stays}

-- ---- The same numbers in another order

-- what all numbers do, one among them does
all_among : (P : ℕ → Type 0) (q : ℕ) (xs : List ℕ) → AllByRecursion P xs → is_among q xs ≡ true → P q
all_among P q [] all among = absurd (let bad : false ≡ true = among in cc)
all_among P q (x ∷ xs) all among = by (nat_eq q x) refl among (all_among P q xs all.1)
  where
    by : (b : Bool) → nat_eq q x ≡ b → (b || is_among q xs) ≡ true → (is_among q xs ≡ true → P q) → P q
    by true is among further = subst P (sym (eqb-true q x is)) all.0
    by false is among further = further among

-- what is before and behind a number that is among others
parts_at : (q : ℕ) (xs : List ℕ) → is_among q xs ≡ true → (front behind : List ℕ) × (xs ≡ front ++ q ∷ behind)
parts_at q [] among = absurd (let bad : false ≡ true = among in cc)
parts_at q (x ∷ xs) among = by (nat_eq q x) refl among (parts_at q xs)
  where
    by : (b : Bool) → nat_eq q x ≡ b → (b || is_among q xs) ≡ true → (is_among q xs ≡ true → (front behind : List ℕ) × (xs ≡ front ++ q ∷ behind))
        → (front behind : List ℕ) × (x ∷ xs ≡ front ++ q ∷ behind)
    by true is among further = ([], xs, ap (λ y. y ∷ xs) (sym (eqb-true q x is)))
    by false is among further = let (front, behind, split) = further among in (x ∷ front, behind, ap (λ ys. x ∷ ys) split)

among_parts : (p q : ℕ) (front behind : List ℕ) → nat_eq p q ≡ false → is_among p (front ++ q ∷ behind) ≡ true → is_among p (front ++ behind) ≡ true
among_parts p q [] behind other among = by (nat_eq p q) other among
  where
    by : (b : Bool) → b ≡ false → (b || is_among p behind) ≡ true → is_among p behind ≡ true
    by false other among = among
    by true other among = absurd (let bad : true ≡ false = other in cc)
among_parts p q (x ∷ front) behind other among = by (nat_eq p x) among (among_parts p q front behind other)
  where
    by : (b : Bool) → (b || is_among p (front ++ q ∷ behind)) ≡ true → (is_among p (front ++ q ∷ behind) ≡ true → is_among p (front ++ behind) ≡ true) → (b || is_among p (front ++ behind)) ≡ true
    by true among further = refl
    by false among further = further among

-- a number that differs from all is none of them
other_among : (x q : ℕ) (xs : List ℕ) → AllByRecursion (λ (y : ℕ). nat_eq x y ≡ false) xs → is_among q xs ≡ true → nat_eq q x ≡ false
other_among x q xs all among =
    let apart : nat_eq x q ≡ false = all_among (λ y. nat_eq x y ≡ false) q xs all among in
    ne_eqb q x (λ e. let same : nat_eq x q ≡ true = eq-eqb x q (sym e) in let bad : true ≡ false = sym same ∙ apart in cc)

-- numbers that differ, each among others, have at most their sum
sum_within : (f : ℕ → ℕ) (xs ys : List ℕ) → IsDistinct nat_eq xs → ((q : ℕ) → is_among q xs ≡ true → is_among q ys ≡ true) → sum_by f xs ≤ sum_by f ys
unfolding IsDistinct
sum_within f [] ys apart within = omega arith
sum_within f (x ∷ xs) ys apart within =
    let mine : nat_eq x x ≡ true = eq-eqb x x refl in
    let here : is_among x (x ∷ xs) ≡ true = rw mine refl in
    let (front, behind, split) = parts_at x ys (within x here) in
    let rest : sum_by f xs ≤ sum_by f (front ++ behind) = sum_within f xs (front ++ behind) apart.1 (λ q among.
    among_parts q x front behind (other_among x q xs apart.0 among) (subst (λ zs. is_among q zs ≡ true) split (within q (or_true (nat_eq q x) (is_among q xs) among)))) in
    omega (arith, rest, sum_by-cons f x xs, sum_by-append f front behind, sum_by-append f front (x ∷ behind), sum_by-cons f x behind, ap (sum_by f) split)

both_ways : (a b : Bool) → (a ≡ true → b ≡ true) → (b ≡ true → a ≡ true) → a ≡ b
both_ways true b f g = sym (f refl)
both_ways false true f g = g refl
both_ways false false f g = refl

module _ (k : Concentrator) where
  -- the number of a link that is there is among all numbers
  is_listed : (q : ℕ) (xs ys : List ℕ) → AreLinks k xs → AreLinks k ys → is_among q xs ≡ true → is_among q ys ≡ true
  is_listed q xs ys here there among = by (is_among q ys) refl
    where
      by : (b : Bool) → is_among q ys ≡ b → is_among q ys ≡ true
      by true is = is
      by false is = absurd (all_among (λ x. setting_at k x ≢ None) q xs (all_there (setting_at k) xs (settings_in_order k) here.in_order) among (there.whole q is))

  module _ (file : List LinkSetting) (xs ys : List ℕ) (here : AreLinks k xs) (there : AreLinks k ys) where
    same_among : (q : ℕ) → is_among q xs ≡ is_among q ys
    same_among q = both_ways (is_among q xs) (is_among q ys) (is_listed q xs ys here there) (is_listed q ys xs there here)

    same_added : added xs file ≡ added ys file
    same_added = (λ i. filter (λ (s : LinkSetting). not (same_among s.link i)) file)

    abbrev goes : ℕ → Bool
    goes l = not (names_link l file)

    among_removed : (q : ℕ) (zs : List ℕ) → is_among q (removed file zs) ≡ (is_among q zs && goes q)
    among_removed q zs = is_member-filter nat_eq_equiv goes q (λ x same. ap goes (eqb-true q x same)) zs

    same_removed : (q : ℕ) → is_among q (removed file xs) ≡ is_among q (removed file ys)
    same_removed q = among_removed q xs ∙ ap (λ b. b && goes q) (same_among q) ∙ sym (among_removed q ys)

    there_too : (q : ℕ) → is_among q (removed file xs) ≡ true → is_among q (removed file ys) ≡ true
    there_too q among = sym (same_removed q) ∙ among

    here_too : (q : ℕ) → is_among q (removed file ys) ≡ true → is_among q (removed file xs) ≡ true
    here_too q among = same_removed q ∙ among

    same_number : length (removed file xs) ≡ length (removed file ys)
    same_number = omega (
      arith,
      length-le_from_is_member nat_eq_equiv (removed file xs) (removed file ys) (distinct_filter goes xs here.apart) there_too,
      length-le_from_is_member nat_eq_equiv (removed file ys) (removed file xs) (distinct_filter goes ys there.apart) here_too,
    )

    same_sum : (f : ℕ → ℕ) → sum_by f (removed file xs) ≡ sum_by f (removed file ys)
    same_sum f = omega (
      arith,
      sum_within f (removed file xs) (removed file ys) (distinct_filter goes xs here.apart) there_too,
      sum_within f (removed file ys) (removed file xs) (distinct_filter goes ys there.apart) here_too,
    )

-- ---- What survives a change

left_is : (before after : Settings) (c : ℕ) (o : Option Record) → is_some o ≡ true → is_some (left_of (survives_as before after) c o) ≡ (is_same_kind before.size after.size && nat_le c after.max_cid)
left_is before after c None is = absurd (let bad : false ≡ true = is in cc)
left_is before after c (Some r) is = by (is_same_kind before.size after.size && nat_le c after.max_cid)
  where
    by : (b : Bool) → is_some (if b then Some r else None) ≡ b
    by true = refl
    by false = refl

module _ (a d : Concentrator) (s : LinkSetting) (step : LinkStep (view_at a s.link) (ChangeLink s) Done (view_at d s.link)) where
  abbrev cids : List ℕ
  cids = identifiers_at a s.link

  have_records : AllByRecursion (λ (c : ℕ). is_some (record_at a s.link c) ≡ true) cids
  have_records = all_weaker (λ (c : ℕ). is_among c cids ≡ true) (λ c. is_some (record_at a s.link c) ≡ true) (λ c among. sym (listed_at a s.link c) ∙ among) cids
      (each_of (λ (c : ℕ). is_among c cids ≡ true) cids (All-is_member nat_eq_equiv cids))

  module _ (before : LinkSetting) (is : setting_at a s.link ≡ Some before) where
    seen_before : (c : ℕ) → seen_at a s.link c ≡ Some (record { settings = settings_of before c; held = record_at a s.link c })
    seen_before c = ap (λ (v : View). v.seen c) (view_some a s.link before is)

    seen_after : (c : ℕ) → held_of (seen_at d s.link c) ≡ left_of (survives_as (settings_of before c) (settings_of s c)) c (record_at a s.link c)
    seen_after c = ap held_of (subst (λ v. Makes c (LoneChange (settings_of s c)) v (Told Done) (seen_at d s.link c)) (seen_before c) (step.each c)).1

    left_cids : identifiers_at d s.link ≡ filter (stays before s) cids
    left_cids = step.order ∙ agree_on (λ c. is_some (held_of (seen_at d s.link c))) (stays before s) cids
        (all_weaker (λ (c : ℕ). is_some (record_at a s.link c) ≡ true) (λ c. is_some (held_of (seen_at d s.link c)) ≡ stays before s c)
        (λ c has. ap is_some (seen_after c) ∙ left_is (settings_of before c) (settings_of s c) c (record_at a s.link c) has) cids have_records)

    lost_before : lost_on a s ≡ counted 0 (gone_on a d s)
    lost_before =
        let left : length (identifiers_at d s.link) ≡ length (filter (stays before s) cids) = ap (λ (cs : List ℕ). length cs) left_cids in
        let all = length-filter_both (stays before s) (λ c. not (stays before s c)) (λ c. refl) cids in
        let gone : length (filter (λ c. not (stays before s c)) cids) ≡ gone_on a d s = omega (arith, left, all) in
        ap (λ set. lost_of set cids s) is ∙ ap (counted 0) gone

  lost_is : differs (setting_at a s.link) s ≡ true → lost_on a s ≡ counted 0 (gone_on a d s)
  lost_is other = by (setting_at a s.link) refl
    where
      by : (set : Option LinkSetting) → setting_at a s.link ≡ set → lost_on a s ≡ counted 0 (gone_on a d s)
      by (Some before) is = lost_before before is
      by None is = absurd (let bad : false ≡ true = sym (ap (λ set. differs set s) is) ∙ other in cc)

-- ---- Changes, each of another link

all_with : {X : Type 0} (P Q R : X → Type 0) → ((x : X) → P x → Q x → R x) → (xs : List X) → AllByRecursion P xs → AllByRecursion Q xs → AllByRecursion R xs
all_with P Q R from [] ps qs = tt
all_with P Q R from (x ∷ xs) ps qs = (from x ps.0 qs.0, all_with P Q R from xs ps.1 qs.1)

apart_filter : (p : LinkSetting → Bool) (ss : List LinkSetting) → Apart ss → Apart (filter p ss)
apart_filter p [] apart = tt
apart_filter p (s ∷ ss) apart = by (p s) (apart_filter p ss apart.1)
  where
    by : (b : Bool) → Apart (filter p ss) → Apart (cond b (s ∷ filter p ss) (filter p ss))
    by true rest = (all_weaker (λ (t : LinkSetting). (s.link ≢ t.link) × (p t ≡ true)) (λ t. s.link ≢ t.link) (λ t both. both.0) (filter p ss) (all_passed (λ (t : LinkSetting). s.link ≢ t.link) p ss apart.0), rest)
    by false rest = rest

none_concerned : (l : ℕ) (ss : List LinkSetting) → AllByRecursion (λ (t : LinkSetting). l ≢ t.link) ss → concerns l (map changing ss) ≡ false
none_concerned l [] apart = refl
none_concerned l (t ∷ ss) apart = let other : nat_eq t.link l ≡ false = ne_eqb t.link l (λ e. apart.0 (sym e)) in rw other (none_concerned l ss apart.1)

abbrev IsChange : Concentrator → Concentrator → LinkSetting → Type 0
IsChange a d s = LinkStep (view_at a s.link) (ChangeLink s) Done (view_at d s.link)

each_changed : (ss : List LinkSetting) (b c : Concentrator) → Apart ss → Runs b (map changing ss) c → AllByRecursion (IsChange b c) ss
each_changed [] b c apart run = tt
each_changed (s ∷ ss) b c apart (mid, call, rest) =
    let last : view_at c s.link ≡ view_at mid s.link = others_stay s.link (map changing ss) mid c rest (none_concerned s.link ss apart.0) in (
      subst (λ (w : View). LinkStep (view_at b s.link) (ChangeLink s) Done w) (sym last) (own_step b mid s.link (ChangeLink s) Done call),
      all_with (λ (t : LinkSetting). s.link ≢ t.link) (IsChange mid c) (IsChange b c)
          (λ t other step. subst (λ (v : View). LinkStep v (ChangeLink t) Done (view_at c t.link)) (other_view b mid s.link (ChangeLink s) Done call t.link other) step) ss apart.0 (each_changed ss mid c apart.1 rest),
    )

module _ (a d : Concentrator) (numbers : List ℕ) (file : List LinkSetting) (links : AreLinks a numbers) (fine : AreFine file) where
  losses : Runs a (reload_turns a numbers file) d → AllByRecursion (λ (s : LinkSetting). lost_on a s ≡ counted 0 (gone_on a d s)) (changed a file)
  losses run =
      let (b, removes, rest) = run_split (map removing (removed file numbers)) (map changing (changed a file) ++ map adding (added numbers file)) a d run in
      let (c, changes, adds) = run_split (map changing (changed a file)) (map adding (added numbers file)) b d rest in
      losses_of b c removes changes adds
    where
      losses_of : (b c : Concentrator) → Runs a (map removing (removed file numbers)) b → Runs b (map changing (changed a file)) c → Runs c (map adding (added numbers file)) d
          → AllByRecursion (λ (s : LinkSetting). lost_on a s ≡ counted 0 (gone_on a d s)) (changed a file)
      losses_of b c removes changes adds =
          let same : changed b file ≡ changed a file = same_changed a b c numbers file links fine removes in
          let there : Runs b (map changing (changed b file)) c = subst (λ ss. Runs b (map changing ss) c) (sym same) changes in
          let of_file : AllByRecursion (λ (s : LinkSetting). (names_link s.link file ≡ true) × (differs (setting_at b s.link) s ≡ true)) (changed b file) =
          all_passed (λ (s : LinkSetting). names_link s.link file ≡ true) (λ (s : LinkSetting). differs (setting_at b s.link) s) file (named a b c numbers file links fine removes) in
          let steps = each_changed (changed b file) b c (apart_filter (λ (s : LinkSetting). differs (setting_at b s.link) s) file (apart_of file fine.sound.apart)) there in
          subst (λ ss. AllByRecursion (λ (s : LinkSetting). lost_on a s ≡ counted 0 (gone_on a d s)) ss) same
          (all_with (λ (s : LinkSetting). (names_link s.link file ≡ true) × (differs (setting_at b s.link) s ≡ true)) (IsChange b c) (λ s. lost_on a s ≡ counted 0 (gone_on a d s))
          (λ s is step.
          let kept : view_at b s.link ≡ view_at a s.link = named_stays a b c numbers file links fine removes s.link is.0 in
          let last : view_at c s.link ≡ view_at d s.link = sym (last_stays a b c numbers file links fine removes there d adds s is.0 is.1) in
          lost_is a d s (subst (λ (w : View). LinkStep (view_at a s.link) (ChangeLink s) Done w) last (subst (λ (v : View). LinkStep v (ChangeLink s) Done (view_at c s.link)) kept step)) (sym (ap (λ (v : View). differs v.setting s) kept) ∙ is.1))
          (changed b file) of_file steps)

-- ---- Sums

sum_map : {X Y : Type 0} (g : Y → ℕ) (f : X → Y) (xs : List X) → sum_by g (map f xs) ≡ sum_by (λ x. g (f x)) xs
sum_map g f [] = refl
sum_map g f (x ∷ xs) = omega (arith, sum_by-cons g (f x) (map f xs), sum_by-cons (λ y. g (f y)) x xs, sum_map g f xs)

-- a sum that stops at the bound is that of summands that stop there
counted_parts : {X : Type 0} (n : ℕ) (f g : X → ℕ) (xs : List X) → AllByRecursion (λ (x : X). f x ≡ counted 0 (g x)) xs → counted 0 (n + sum_by f xs) ≡ counted 0 (n + sum_by g xs)
counted_parts n f g [] all = refl
counted_parts n f g (x ∷ xs) all = omega (arith, all.0, counted_parts n f g xs all.1, sum_by-cons f x xs, sum_by-cons g x xs)

pub preview_is_reload : PreviewIsReload
preview_is_reload old new file p report calls fine sees did = record {
  so_many_added = did.tells.so_many_added ∙ ap (λ (ss : List LinkSetting). length ss) (same_added k settings did.numbers sees.numbers did.are_links sees.are_links) ∙ sym (length-map (added sees.numbers settings) link_of) ∙ ap (λ (ls : List ℕ). length ls) (sym sees.adds);
  so_many_changed = did.tells.so_many_changed ∙ sym (length-map (changed k settings) (loss_of_changed k)) ∙ ap (λ (ls : List Loss). length ls) (sym sees.changes);
  so_many_removed = did.tells.so_many_removed ∙ same_number k settings did.numbers sees.numbers did.are_links sees.are_links ∙ sym (length-map (removed settings sees.numbers) (loss_of_removed k)) ∙ ap (λ (ls : List Loss). length ls) (sym sees.removes);
  so_many_gone =
      let gone = same_sum k settings did.numbers sees.numbers did.are_links sees.are_links (contexts_on k) in
      let removes : sum_by contexts_of p.removed.items ≡ sum_by (contexts_on k) (removed settings sees.numbers) = ap (sum_by contexts_of) sees.removes ∙ sum_map contexts_of (loss_of_removed k) (removed settings sees.numbers) in
      let changes : sum_by contexts_of p.changed.items ≡ sum_by (lost_on k) (changed k settings) = ap (sum_by contexts_of) sees.changes ∙ sum_map contexts_of (loss_of_changed k) (changed k settings) in
      let parts = counted_parts (sum_by (contexts_on k) (removed settings did.numbers)) (lost_on k) (gone_on k new.concentrator) (changed k settings)
      (losses k new.concentrator did.numbers settings did.are_links fine (subst (λ ts. Runs k ts new.concentrator) did.these did.runs)) in
      did.tells.so_many_gone ∙ sym parts ∙ ap (counted 0) (omega (arith, gone, removes, changes));
} where
  k : Concentrator
  k = old.concentrator

  settings : List LinkSetting
  settings = file.settings
