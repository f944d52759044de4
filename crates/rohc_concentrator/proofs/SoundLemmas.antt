-- Each call keeps a concentrator sound.
use Rattle.std.proofs.Common.{◌≡◌, ◌≢◌, ℕ, ◌+◌, ◌<◌, ◌≤◌, List, [], ◌∷◌, ◌++◌, length, filter, cond, Bool, true, false, nat_le, ◌==◌, ◌&&◌, nat_eq, is_some, IfSome, Option, Some, None, refl, sym, ap, ◌∙◌, subst, arith, eq-eqb, ne_eqb, if◌then◌else◌}
use Rattle.std.specs.Prelude.{All, ◌||◌}
use Rattle.std.specs.Bool.{MatchBool}
use Rattle.std.specs.Cmp.{nat_eq_equiv}
use Rattle.std.specs.List.{AllByRecursion, IsDistinct, list_any}
use Rattle.std.specs.HashMap.{get, keys}
use Rattle.std.proofs.lemmas.Bool.Decides.{nat_tests}
use Rattle.std.proofs.lemmas.Map.Keys.{IsDistinct-push}
use Rattle.rohc_context.specs.Record.{Record}
use Rattle.rohc_concentrator.specs.declared.concentrator.Concentrator.{Concentrator}
use Rattle.rohc_concentrator.specs.declared.records.LinkRecords.{LinkRecords}
use Rattle.rohc_concentrator.specs.declared.setting.LinkSetting.{LinkSetting}
use Rattle.rohc_concentrator.specs.declared.links.AddFault.TheVariants as adds
use Rattle.rohc_concentrator.specs.Setting.{IsGoodSetting}
use Rattle.rohc_concentrator.specs.Setup.{entry_of}
use Rattle.rohc_concentrator.specs.Tables.{setting_at, record_in, identifiers_at, settings_in_order}
use Rattle.rohc_concentrator.specs.Leaving.{left_of, is_same_kind, counts_at}
use Rattle.rohc_concentrator.specs.Bears.{borne}
use Rattle.rohc_concentrator.specs.Seen.{Seen, seen_at, held_of, View, view_at}
use Rattle.rohc_concentrator.specs.Calls.{Call, Arrive, AddLink, RemoveLink, ChangeLink, Put, CallAnswer, Done, NotAdded, is_poor, LoneCall, LoneArrival, LoneForget, LoneExpiry, LoneAdd, LoneRemove, LoneChange, LonePut, lone_call, LoneAnswer, Told, lone_answer}
use Rattle.rohc_concentrator.specs.Owns.{GivesPut, Makes, WouldAdd, Steps, survives_as}
use Rattle.rohc_concentrator.specs.RunsCall.{GoesLast, GoesLastOf, CidsOrdered, LinkStep, IsCrowd, GivesWay, LinksOrdered, RunsCall, Turn}
use Rattle.rohc_concentrator.specs.CallLaws.{IsFitCall, IsFitTurn}
use Rattle.rohc_concentrator.specs.Sound.{IsInOrder, CallsKeepSound}
use Rattle.rohc_concentrator.proofs.ByNumber.{by_number}
use Rattle.rohc_concentrator.proofs.OwnLemmas.{OfOwn, IsGoodCall, good_call}
use Rattle.rohc_concentrator.proofs.ViewLemmas.{set_of, cids_of, view_of, listed_in, listed_at, held_at}
use Rattle.rohc_concentrator.proofs.WayLemmas.{each_of, all_of, Apart, apart_of, pairs_of, none_of_link, found_is, IsWay, first_of_way, all_way, apart_way, entry_other, entry_here, few_way, all_last, apart_last, entry_last, entry_added}

-- ---- A CID that has a record is within its link's greatest

abbrev IsWithin : ℕ → Option Seen → Type 0
IsWithin c seen = IfSome seen (λ v. IfSome v.held (λ r. c ≤ v.settings.max_cid))

if_held : {P : Type 0} → P → (held : Option Record) → IfSome held (λ r. P)
if_held p None = tt
if_held p (Some r) = p

left_held : {P : Type 0} (passes : ℕ → Record → Bool) (c : ℕ) (held : Option Record) → ((r : Record) → held ≡ Some r → passes c r ≡ true → P) → IfSome (left_of passes c held) (λ r. P)
left_held passes c None p = tt
left_held {P = P} passes c (Some r) p = by (passes c r) refl
  where
    by : (b : Bool) → passes c r ≡ b → IfSome (if b then Some r else None) (λ r. P)
    by true e = p r refl e
    by false e = tt

put_within : (c : ℕ) (v : Seen) (r : Record) (y : LoneAnswer) (after : Option Seen) → IfSome v.held (λ x. c ≤ v.settings.max_cid) → GivesPut (nat_le c v.settings.max_cid) v.held v r y after → IsWithin c after
put_within c v r y after kept = by (nat_le c v.settings.max_cid) v.held refl
  where
    by : (b : Bool) (held : Option Record) → nat_le c v.settings.max_cid ≡ b → GivesPut b held v r y after → IsWithin c after
    by false held is p = subst (IsWithin c) (sym p.1) kept
    by true (Some old) is p = subst (IsWithin c) (sym p.1) kept
    by true None is p = subst (IsWithin c) (sym p.1) (let f : c ≤ v.settings.max_cid = grind (arith, nat_tests) in f)

makes_within : (c : ℕ) (e : LoneCall) (before : Option Seen) (y : LoneAnswer) (after : Option Seen) → IsGoodCall c e before → Makes c e before y after → IsWithin c before → IsWithin c after
makes_within c (LoneArrival m h) None y after good p kept = absurd p
makes_within c (LoneArrival m h) (Some v) y after good p kept = subst (IsWithin c) (sym p.4) (if_held (subst (λ n. n ≤ v.settings.max_cid) good.1 good.0.header.within) p.1)
makes_within c LoneForget (Some v) y after good p kept = subst (IsWithin c) (sym p.1) tt
makes_within c (LoneExpiry m) (Some v) y after good p kept =
    subst (IsWithin c) (sym p.1) (left_held (counts_at v.settings.idle_ms m) c v.held (λ r e passes. subst (λ h. IfSome h (λ r. c ≤ v.settings.max_cid)) e kept))
makes_within c (LoneAdd s) None y after good p kept = subst (IsWithin c) (sym p.1) tt
makes_within c (LoneAdd s) (Some v) y after good p kept = subst (IsWithin c) (sym p.1) kept
makes_within c LoneRemove (Some v) y after good p kept = subst (IsWithin c) (sym p.1) tt
makes_within c (LoneChange s) (Some v) y after good p kept =
    subst (IsWithin c) (sym p.1) (left_held (survives_as v.settings s) c v.held (λ r e passes. by (is_same_kind v.settings.size s.size) passes))
  where
    by : (b : Bool) → (b && nat_le c s.max_cid) ≡ true → c ≤ s.max_cid
    by true e = grind (arith, nat_tests)
    by false e = absurd (let f : false ≡ true = e in cc)
makes_within c (LonePut r) (Some v) y after good p kept = put_within c v r y after kept p
makes_within c e None y after good p kept = subst (IsWithin c) (sym p.1) tt

steps_within : (c : ℕ) (o : Option LoneCall) (before : Option Seen) (a : CallAnswer) (after : Option Seen) → OfOwn (IsGoodCall c) o before → Steps c o before a after → IsWithin c before → IsWithin c after
steps_within c None before a after good step kept = subst (IsWithin c) (sym step) kept
steps_within c (Some e) before a after good step kept = by (is_poor a) step
  where
    by : (poor : Bool) → MatchBool poor ((after ≡ before) × WouldAdd c e before a) (Makes c e before (lone_answer a) after) → IsWithin c after
    by true stays = subst (IsWithin c) (sym stays.0) kept
    by false makes = makes_within c e before (lone_answer a) after good makes kept

-- ---- So are those that are listed

listed_holds : (P : ℕ → Type 0) (c : ℕ) (xs : List ℕ) → AllByRecursion P xs → list_any (nat_eq c) xs ≡ true → P c
listed_holds P c [] h is = absurd (let f : false ≡ true = is in cc)
listed_holds P c (x ∷ xs) h is = by (nat_eq c x) refl is (listed_holds P c xs h.1)
  where
    by : (b : Bool) → nat_eq c x ≡ b → (b || list_any (nat_eq c) xs) ≡ true → (list_any (nat_eq c) xs ≡ true → P c) → P c
    by true e found further = let same : x ≡ c = grind (arith, nat_tests) in subst P same h.0
    by false e later further = further later

or_true : (b c : Bool) → c ≡ true → (b || c) ≡ true
or_true true c e = refl
or_true false c e = e

all_listed : (P : ℕ → Type 0) (xs : List ℕ) → ((c : ℕ) → list_any (nat_eq c) xs ≡ true → P c) → AllByRecursion P xs
all_listed P [] f = tt
all_listed P (x ∷ xs) f =
    let here : nat_eq x x ≡ true = grind (arith, nat_tests) in
    (f x (rw here refl), all_listed P xs (λ c later. f c (or_true (nat_eq c x) (list_any (nat_eq c) xs) later)))

within_in : (c : ℕ) (o : Option LinkRecords) → ((s : LinkSetting) → set_of o ≡ Some s → All (λ cid. cid ≤ s.settings.max_cid) (cids_of o)) → IsWithin c ((view_of o).seen c)
within_in c None w = tt
within_in c (Some r) w = by (record_in r c) (listed_in c (Some r))
  where
    by : (held : Option Record) → list_any (nat_eq c) (keys r.contexts) ≡ is_some held → IfSome held (λ x. c ≤ r.setting.settings.max_cid)
    by None e = tt
    by (Some x) e = listed_holds (λ cid. cid ≤ r.setting.settings.max_cid) c (keys r.contexts) (each_of (λ cid. cid ≤ r.setting.settings.max_cid) (keys r.contexts) (w r.setting refl)) e

all_within : (o : Option LinkRecords) (s : LinkSetting) → set_of o ≡ Some s → ((c : ℕ) → IsWithin c ((view_of o).seen c)) → All (λ cid. cid ≤ s.settings.max_cid) (cids_of o)
all_within None s is w = absurd (let f : ◌≡◌ {A = Option LinkSetting} None (Some s) = is in cc)
all_within (Some r) s is w =
    let same : r.setting ≡ s = (let f : ◌≡◌ {A = Option LinkSetting} (Some r.setting) (Some s) = is in cc) in
    subst (λ (t : LinkSetting). All (λ cid. cid ≤ t.settings.max_cid) (keys r.contexts)) same
    (all_of (λ cid. cid ≤ r.setting.settings.max_cid) (keys r.contexts) (all_listed (λ cid. cid ≤ r.setting.settings.max_cid) (keys r.contexts) (λ c found. by c (record_in r c) (w c) (sym found ∙ listed_in c (Some r)))))
  where
    by : (c : ℕ) (held : Option Record) → IfSome held (λ x. c ≤ r.setting.settings.max_cid) → true ≡ is_some held → c ≤ r.setting.settings.max_cid
    by c None h e = absurd (let f : true ≡ false = e in cc)
    by c (Some x) h e = h

-- ---- The CIDs of a link stay apart

all_filter : {X : Type 0} (P : X → Type 0) (test : X → Bool) (xs : List X) → AllByRecursion P xs → AllByRecursion P (filter test xs)
all_filter P test [] h = tt
all_filter P test (x ∷ xs) h = by (test x) (all_filter P test xs h.1)
  where
    by : (b : Bool) → AllByRecursion P (filter test xs) → AllByRecursion P (cond b (x ∷ filter test xs) (filter test xs))
    by true later = (h.0, later)
    by false later = later

distinct_filter : (test : ℕ → Bool) (xs : List ℕ) → IsDistinct nat_eq xs → IsDistinct nat_eq (filter test xs)
unfolding IsDistinct
distinct_filter test [] h = tt
distinct_filter test (x ∷ xs) h = by (test x) (distinct_filter test xs h.1)
  where
    by : (b : Bool) → IsDistinct nat_eq (filter test xs) → IsDistinct nat_eq (cond b (x ∷ filter test xs) (filter test xs))
    by true later = (all_filter (λ y. nat_eq x y ≡ false) test xs h.0, later)
    by false later = later

distinct_goes : (before after : Option Record) (c : ℕ) (old new : List ℕ) → IsDistinct nat_eq old → list_any (nat_eq c) old ≡ is_some before → GoesLast before after c old new → IsDistinct nat_eq new
distinct_goes (Some r) after c old new h had goes = subst (IsDistinct nat_eq) (sym goes) h
distinct_goes None None c old new h had goes = subst (IsDistinct nat_eq) (sym goes) h
distinct_goes None (Some r) c old new h had goes = subst (IsDistinct nat_eq) (sym goes) (IsDistinct-push nat_eq_equiv old c h had)

cids_apart : (e : Call) (a : CallAnswer) (v w : View) → CidsOrdered e a v w → ((c : ℕ) → list_any (nat_eq c) v.cids ≡ is_some (held_of (v.seen c))) → IsDistinct nat_eq v.cids → IsDistinct nat_eq w.cids
cids_apart (Arrive m octets) a v w order had h = by (borne v.setting octets) order
  where
    by : (o : Option ℕ) → GoesLastOf o v.seen w.seen v.cids w.cids → IsDistinct nat_eq w.cids
    by None goes = subst (IsDistinct nat_eq) (sym goes) h
    by (Some c) goes = distinct_goes (held_of (v.seen c)) (held_of (w.seen c)) c v.cids w.cids h (had c) goes
cids_apart (Put c r) a v w order had h = distinct_goes (held_of (v.seen c)) (held_of (w.seen c)) c v.cids w.cids h (had c) order
cids_apart e Done v w order had h = subst (IsDistinct nat_eq) (sym order) (distinct_filter (λ c. is_some (held_of (w.seen c))) v.cids h)
cids_apart e a v w order had h = subst (IsDistinct nat_eq) (sym order) h

-- ---- The settings

length_more : (ss : List LinkSetting) (s : LinkSetting) → length (ss ++ s ∷ []) ≡ length ss + 1
length_more [] s = refl
length_more (x ∷ ss) s = let rest = length_more ss s in omega (arith, rest)

record AreSettled (set : ℕ → Option LinkSetting) (ss : List LinkSetting) : Type 0 where
  few : length ss ≤ 256
  good : AllByRecursion IsGoodSetting ss
  numbers : AllByRecursion (λ (s : LinkSetting). s.link < 65536) ss
  apart : Apart ss
  each : (l : ℕ) → set l ≡ entry_of l ss

module _ (link : ℕ) (old new : ℕ → Option LinkSetting) (others : (l : ℕ) → l ≢ link → new l ≡ old l) where
  stay_settled : (ss : List LinkSetting) → new link ≡ old link → AreSettled old ss → AreSettled new ss
  stay_settled ss here h = record {
    few = h.few;
    good = h.good;
    numbers = h.numbers;
    apart = h.apart;
    each = by_number (λ l. new l ≡ entry_of l ss) link (here ∙ h.each link) (λ l other. others l other ∙ h.each l);
  }

  add_settled : (s : LinkSetting) (ss : List LinkSetting) → s.link ≡ link → link < 65536 → IsGoodSetting s → length ss < 256 → old link ≡ None → new link ≡ Some s → AreSettled old ss → AreSettled new (ss ++ s ∷ [])
  add_settled s ss is number good few absent there h =
      let none : AllByRecursion (λ (t : LinkSetting). t.link ≢ s.link) ss = none_of_link s.link ss (ap (λ n. entry_of n ss) is ∙ sym (h.each link) ∙ absent) in
      record {
        few = omega (arith, few, length_more ss s);
        good = all_last IsGoodSetting ss s h.good good;
        numbers = all_last (λ (s : LinkSetting). s.link < 65536) ss s h.numbers (subst (λ n. n < 65536) (sym is) number);
        apart = apart_last ss s h.apart none;
        each = by_number (λ l. new l ≡ entry_of l (ss ++ s ∷ [])) link
            (there ∙ sym (subst (λ n. entry_of n (ss ++ s ∷ []) ≡ Some s) is (entry_added ss s none)))
            (λ l other. others l other ∙ h.each l ∙ sym (entry_last ss s l (λ e. other (e ∙ is))));
      }

  way_settled : (b : LinkSetting) (front behind these : List LinkSetting) → b.link ≡ link → IsWay link these → AllByRecursion IsGoodSetting these → new link ≡ first_of_way these
      → AreSettled old (front ++ b ∷ behind) → AreSettled new (front ++ (these ++ behind))
  way_settled b front behind these is way good there h = record {
    few = (let fewer = few_way link b is behind these way front in let before = h.few in omega (arith, fewer, before));
    good = all_way link b is behind these way IsGoodSetting front (λ g. good) h.good;
    numbers = all_way link b is behind these way (λ (s : LinkSetting). s.link < 65536) front (λ g. numbers these way (subst (λ n. n < 65536) is g)) h.numbers;
    apart = apart_way link b is behind these way front h.apart;
    each = by_number (λ l. new l ≡ entry_of l (front ++ (these ++ behind))) link
        (there ∙ sym (entry_here link b is behind these way front h.apart))
        (λ l other. others l other ∙ h.each l ∙ sym (entry_other link b is behind these way front l other));
  } where
    numbers : (these : List LinkSetting) → IsWay link these → link < 65536 → AllByRecursion (λ (s : LinkSetting). s.link < 65536) these
    numbers [] way number = tt
    numbers (s ∷ []) way number = (subst (λ n. n < 65536) (sym way) number, tt)
    numbers (s ∷ t ∷ ss) way number = absurd way

-- where a link is added, it wasn't there
add_absent : (o : Option LinkRecords) (s : LinkSetting) (w : View) → LinkStep (view_of o) (AddLink s) Done w → set_of o ≡ None
add_absent None s w step = refl
add_absent (Some r) s w step = absurd (let f : ◌≡◌ {A = LoneAnswer} (Told Done) (Told (NotAdded adds.DuplicateLink)) = (step.each 0).0 in cc)

module _ (k : Concentrator) (link : ℕ) (new : ℕ → Option LinkSetting) (w : View) (news : List LinkSetting) (is : new link ≡ w.setting) (others : (l : ℕ) → l ≢ link → new l ≡ setting_at k l) (h : AreSettled (setting_at k) (settings_in_order k)) where
  given_way : (these : List LinkSetting) → IsWay link these → AllByRecursion IsGoodSetting these → new link ≡ first_of_way these → GivesWay (setting_at k link) these (settings_in_order k) news → AreSettled new news
  given_way these way good there (front, behind, b, was, olds, after) =
      let mine : b.link ≡ link = found_is link (settings_in_order k) b (sym (h.each link) ∙ was) in
      subst (AreSettled new) (sym after) (way_settled link (setting_at k) new others b front behind these mine way good there (subst (AreSettled (setting_at k)) olds h))

  settled : (e : Call) (a : CallAnswer) → IsFitCall link e → LinkStep (view_at k link) e a w → IsCrowd e (length (settings_in_order k)) a → LinksOrdered e a (setting_at k link) (settings_in_order k) news → AreSettled new news
  settled (AddLink s) Done fit step few links =
      subst (AreSettled new) (sym links)
      (add_settled link (setting_at k) new others s (settings_in_order k) fit.0 fit.1 step.front few (add_absent (get nat_eq k.links link) s w step) (is ∙ step.setting) h)
  settled (ChangeLink s) Done fit step few links = given_way (s ∷ []) fit (step.front, tt) (is ∙ step.setting) links
  settled RemoveLink Done fit step few links = given_way [] tt tt (is ∙ step.setting) links
  settled (AddLink s) a fit step few links = subst (AreSettled new) (sym links) (stay_settled link (setting_at k) new others (settings_in_order k) (is ∙ step.setting) h)
  settled (ChangeLink s) a fit step few links = subst (AreSettled new) (sym links) (stay_settled link (setting_at k) new others (settings_in_order k) (is ∙ step.setting) h)
  settled RemoveLink a fit step few links = subst (AreSettled new) (sym links) (stay_settled link (setting_at k) new others (settings_in_order k) (is ∙ step.setting) h)
  settled e a fit step few links = subst (AreSettled new) (sym links) (stay_settled link (setting_at k) new others (settings_in_order k) (is ∙ step.setting) h)

-- ---- A call, and calls one after another

module _ (old new : Concentrator) (t : Turn) (fit : IsFitTurn t) (event : RunsCall old t.link t.call t.answer new) (sound : IsInOrder old) where
  here : LinkStep (view_at old t.link) t.call t.answer (view_at new t.link)
  here = let mine : (t.link == t.link) ≡ true = eq-eqb t.link t.link refl in rw mine at (event.each t.link)

  elsewhere : (l : ℕ) → l ≢ t.link → view_at new l ≡ view_at old l
  elsewhere l other = let not : (t.link == l) ≡ false = ne_eqb t.link l (λ e. other (sym e)) in rw not at (event.each l)

  within_at : (l c : ℕ) → IsWithin c (seen_at old l c)
  within_at l c = within_in c (get nat_eq old.links l) (sound.within l)

  new_settled : AreSettled (setting_at new) (settings_in_order new)
  new_settled = settled old t.link (setting_at new) (view_at new t.link) (settings_in_order new) refl (λ l other. ap (λ (v : View). v.setting) (elsewhere l other))
      (record {
        few = sound.few;
        good = each_of IsGoodSetting (settings_in_order old) sound.settings.good;
        numbers = each_of (λ (s : LinkSetting). s.link < 65536) (settings_in_order old) sound.numbers;
        apart = apart_of (settings_in_order old) sound.settings.apart;
        each = sound.each;
      }) t.call t.answer fit here event.crowd event.links

  new_within : (l c : ℕ) → IsWithin c (seen_at new l c)
  new_within l c = by_number (λ l. IsWithin c (seen_at new l c)) t.link
      (steps_within c (lone_call c t.call t.answer (setting_at old t.link)) (seen_at old t.link c) t.answer (seen_at new t.link c) (good_call c old t.link t fit) (here.each c) (within_at t.link c))
      (λ l other. subst (λ (v : View). IsWithin c (v.seen c)) (sym (elsewhere l other)) (within_at l c)) l

  new_apart : (l : ℕ) → IsDistinct nat_eq (identifiers_at new l)
  new_apart = by_number (λ l. IsDistinct nat_eq (identifiers_at new l)) t.link
      (cids_apart t.call t.answer (view_at old t.link) (view_at new t.link) here.order (λ c. listed_at old t.link c ∙ ap is_some (sym (held_at old t.link c))) (sound.apart t.link))
      (λ l other. subst (λ (v : View). IsDistinct nat_eq v.cids) (sym (elsewhere l other)) (sound.apart l))

  pub call_sound : IsInOrder new
  call_sound = record {
    few = new_settled.few;
    settings = record { good = all_of IsGoodSetting (settings_in_order new) new_settled.good; apart = pairs_of (settings_in_order new) new_settled.apart };
    each = new_settled.each;
    numbers = all_of (λ (s : LinkSetting). s.link < 65536) (settings_in_order new) new_settled.numbers;
    apart = new_apart;
    within = λ l s is. all_within (get nat_eq new.links l) s is (new_within l);
  }

pub calls_keep_sound : CallsKeepSound
calls_keep_sound old new [] fit run sound = subst IsInOrder (sym run) sound
calls_keep_sound old new (t ∷ turns) fit (mid, event, rest) sound = calls_keep_sound mid new turns fit.1 rest (call_sound old mid t fit.0 event sound)
