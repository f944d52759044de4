-- A call is one fact, by what is kept for its link before and after it.
use Rattle.std.proofs.Common.{◌≡◌, ◌≢◌, ℕ, ◌<◌, ◌≤◌, [], length, ◌==◌, Bool, true, false, nat_le, nat_eq, filter, is_some, Option, Some, None, Result, Ok, Err, refl, sym, ap, ◌∙◌, subst, arith, eq-eqb, eqb-true, if◌then◌else◌}
use Rattle.std.specs.Prelude.{OnOk, IfErr}
use Rattle.std.specs.HashMap.{get, keys}
use Rattle.std.proofs.lemmas.Bool.Decides.{nat_tests}
use Rattle.rohc_context.specs.Record.{Record}
use Rattle.rohc_concentrator.specs.declared.concentrator.Concentrator.{Concentrator}
use Rattle.rohc_concentrator.specs.declared.records.LinkRecords.{LinkRecords}
use Rattle.rohc_concentrator.specs.declared.setting.LinkSetting.{LinkSetting}
use Rattle.rohc_concentrator.specs.declared.links.AddFault.TheVariants as adds
use Rattle.rohc_concentrator.specs.declared.links.ChangeFault.TheVariants as changes
use Rattle.rohc_concentrator.specs.declared.putting.PutFault.{PutFault}
use Rattle.rohc_concentrator.specs.declared.putting.PutFault.TheVariants as puts
use Rattle.rohc_concentrator.specs.Setting.{IsGoodSetting, settings_of}
use Rattle.rohc_concentrator.specs.Tables.{setting_at, record_in, record_at, identifiers_at, settings_in_order}
use Rattle.rohc_concentrator.specs.Leaving.{LeavesIn, left_of, is_other, counts_at, survives}
use Rattle.rohc_concentrator.specs.Putting.{PutsIn, PutFaultIn}
use Rattle.rohc_concentrator.specs.Taken.{Stays}
use Rattle.rohc_concentrator.specs.Seen.{Seen, held_of, View, view_at}
use Rattle.rohc_concentrator.specs.Calls.{Call, Reset, Forget, ForgetExpired, AddLink, RemoveLink, ChangeLink, Put, CallAnswer, Done, NoSuchLink, NotAdded, NotChanged, NotPut, put_answer, LoneForget, LoneAdd, LonePut}
use Rattle.rohc_concentrator.specs.Owns.{WouldAdd, Steps}
use Rattle.rohc_concentrator.specs.RunsCall.{GoesLast, LinkStep, IsCrowd, LinksOrdered, RunsCall}
use Rattle.rohc_concentrator.proofs.ViewLemmas.{set_of, view_is, view_from, view_of, view_in_is, view_none, none_left, call_runs}

-- a call, from what is kept for its link
module _ (k new : Concentrator) (link : ℕ) (before after : Option LinkRecords) (found : get nat_eq k.links link ≡ before) (written : get nat_eq new.links link ≡ after)
    (others : (l : ℕ) → l ≢ link → get nat_eq new.links l ≡ get nat_eq k.links l) where
  pub runs_at : (e : Call) (a : CallAnswer) → LinkStep (view_of before) e a (view_of after) → IsCrowd e (length (settings_in_order k)) a
      → LinksOrdered e a (set_of before) (settings_in_order k) (settings_in_order new) → RunsCall k link e a new
  runs_at e a step crowd links =
      call_runs k new link e a (view_of before) (view_of after) (ap view_of found) (ap view_of written) step (λ l other. ap view_of (others l other)) crowd
      (subst (λ set. LinksOrdered e a set (settings_in_order k) (settings_in_order new)) (ap set_of (sym found)) links)

-- ---- A link that isn't there

module _ (k : Concentrator) (link : ℕ) (is : setting_at k link ≡ None) where
  -- a call of it that changes nothing
  absent : (e : Call) (a : CallAnswer) → LinkStep (view_from None (λ c. None) []) e a (view_from None (λ c. None) []) → IsCrowd e (length (settings_in_order k)) a
      → LinksOrdered e a (setting_at k link) (settings_in_order k) (settings_in_order k) → RunsCall k link e a k
  absent e a step crowd links = call_runs k k link e a _ _ (view_none k link is) (view_none k link is) step (λ l other. refl) crowd links

  pub absent_reset : RunsCall k link Reset NoSuchLink k
  absent_reset = absent Reset NoSuchLink (record { each = λ c. (refl, refl); setting = refl; front = tt; order = refl }) tt refl

  pub absent_forget : (cid : ℕ) → RunsCall k link (Forget cid) NoSuchLink k
  absent_forget cid = absent (Forget cid) NoSuchLink (record { each = λ c. by c (cid == c); setting = refl; front = tt; order = refl }) tt refl
    where
      by : (c : ℕ) (b : Bool) → Steps c (if b then Some LoneForget else None) None NoSuchLink None
      by c true = (refl, refl)
      by c false = refl

  pub absent_expiry : (moment : ℕ) → RunsCall k link (ForgetExpired moment) NoSuchLink k
  absent_expiry moment = absent (ForgetExpired moment) NoSuchLink (record { each = λ c. (refl, refl); setting = refl; front = tt; order = refl }) tt refl

  pub absent_remove : RunsCall k link RemoveLink NoSuchLink k
  absent_remove = absent RemoveLink NoSuchLink (record { each = λ c. (refl, refl); setting = refl; front = tt; order = refl }) tt refl

  pub absent_put : (cid : ℕ) (r : Record) → RunsCall k link (Put cid r) (NotPut puts.NoLink) k
  absent_put cid r = absent (Put cid r) (NotPut puts.NoLink) (record { each = λ c. by c (cid == c); setting = refl; front = tt; order = refl }) tt refl
    where
      by : (c : ℕ) (b : Bool) → Steps c (if b then Some (LonePut r) else None) None (NotPut puts.NoLink) None
      by c true = (refl, refl)
      by c false = refl

pub absent_change : (k : Concentrator) (s : LinkSetting) → setting_at k s.link ≡ None → RunsCall k s.link (ChangeLink s) (NotChanged changes.NoLink) k
absent_change k s is = absent k s.link is (ChangeLink s) (NotChanged changes.NoLink) (record { each = λ c. (refl, refl); setting = refl; front = refl; order = refl }) tt refl

-- ---- Records that go

abbrev seen_with : LinkSetting → ℕ → Option Record → Option Seen
seen_with s c held = Some (record { settings = settings_of s c; held = held })

module _ (old new : LinkRecords) where
  pub stays_view : Stays old new → view_of (Some new) ≡ view_of (Some old)
  stays_view s = view_in_is new old.setting (record_in old) (keys old.contexts) s.setting s.records s.order

  -- a call that changes nothing for the link
  pub stays_step : (e : Call) (a : CallAnswer) → LinkStep (view_of (Some old)) e a (view_of (Some old)) → Stays old new → LinkStep (view_of (Some old)) e a (view_of (Some new))
  stays_step e a step s = subst (LinkStep (view_of (Some old)) e a) (sym (stays_view s)) step

  left : (passes : ℕ → Record → Bool) (t : LinkSetting) → new.setting ≡ t → LeavesIn old passes new
      → view_of (Some new) ≡ view_from (Some t) (λ c. left_of passes c (record_in old c)) (filter (λ c. is_some (left_of passes c (record_in old c))) (keys old.contexts))
  left passes t is l = view_in_is new t (λ c. left_of passes c (record_in old c)) _ is l.records l.order

  pub expires_step : (moment : ℕ) → LeavesIn old (counts_at old.setting.settings.idle_ms moment) new → new.setting ≡ old.setting → LinkStep (view_of (Some old)) (ForgetExpired moment) Done (view_of (Some new))
  expires_step moment l same =
      subst (LinkStep (view_of (Some old)) (ForgetExpired moment) Done) (sym (left (counts_at old.setting.settings.idle_ms moment) old.setting same l))
      (record { each = λ c. (refl, refl); setting = refl; front = tt; order = refl })

  pub changes_step : (s : LinkSetting) → IsGoodSetting s → LeavesIn old (survives old.setting s) new → new.setting ≡ s → LinkStep (view_of (Some old)) (ChangeLink s) Done (view_of (Some new))
  changes_step s good l is =
      subst (LinkStep (view_of (Some old)) (ChangeLink s) Done) (sym (left (survives old.setting s) s is l))
      (record { each = λ c. (refl, refl); setting = refl; front = good; order = refl })

  pub forgets_step : (cid : ℕ) → LeavesIn old (is_other cid) new → new.setting ≡ old.setting → LinkStep (view_of (Some old)) (Forget cid) Done (view_of (Some new))
  forgets_step cid l same =
      subst (LinkStep (view_of (Some old)) (Forget cid) Done) (sym (left (is_other cid) old.setting same l))
      (record { each = λ c. by c (cid == c) refl (record_in old c); setting = refl; front = tt; order = refl })
    where
      by : (c : ℕ) (b : Bool) → (cid == c) ≡ b → (held : Option Record)
          → Steps c (if b then Some LoneForget else None) (seen_with old.setting c held) Done (seen_with old.setting c (left_of (is_other cid) c held))
      by c true is None = (refl, refl)
      by c true is (Some r) = let same : (c == cid) ≡ true = grind (arith, nat_tests) in rw same (refl, refl)
      by c false is None = refl
      by c false is (Some r) = let other : (c == cid) ≡ false = grind (arith, nat_tests) in rw other refl

-- no record is left of a link, whose setting stays
pub resets_runs : (k new : Concentrator) (link : ℕ) (r : LinkRecords) → get nat_eq k.links link ≡ Some r → ((l : ℕ) → l ≢ link → get nat_eq new.links l ≡ get nat_eq k.links l)
    → setting_at new link ≡ Some r.setting → ((c : ℕ) → record_at new link c ≡ None) → identifiers_at new link ≡ [] → settings_in_order new ≡ settings_in_order k → RunsCall k link Reset Done new
resets_runs k new link r found others same none emptied in_order =
    runs_at k new link (Some r) (get nat_eq new.links link) found refl others Reset Done
    (subst (LinkStep (view_of (Some r)) Reset Done) (sym (view_is new link (Some r.setting) (λ c. None) [] same none emptied))
    (record { each = λ c. (refl, refl); setting = refl; front = tt; order = none_left (keys r.contexts) })) tt in_order

-- ---- Links

module _ (k : Concentrator) (s : LinkSetting) where
  pub too_many : 256 ≤ length (settings_in_order k) → RunsCall k s.link (AddLink s) (NotAdded adds.TooManyLinks) k
  too_many full =
      call_runs k k s.link (AddLink s) (NotAdded adds.TooManyLinks) (view_at k s.link) (view_at k s.link) refl refl
      (record { each = λ c. (refl, would_add c ((view_at k s.link).seen c)); setting = refl; front = tt; order = refl }) (λ l other. refl) full refl
    where
      would_add : (c : ℕ) (seen : Option Seen) → WouldAdd c (LoneAdd (settings_of s c)) seen (NotAdded adds.TooManyLinks)
      would_add c None = (adds.TooManyLinks, refl)
      would_add c (Some v) = refl

  pub not_good : length (settings_in_order k) < 256 → ¬ IsGoodSetting s → RunsCall k s.link (AddLink s) (NotAdded adds.BadSetting) k
  not_good few bad =
      call_runs k k s.link (AddLink s) (NotAdded adds.BadSetting) (view_at k s.link) (view_at k s.link) refl refl
      (record { each = λ c. refl; setting = refl; front = bad; order = refl }) (λ l other. refl) few refl

-- a link that is there isn't added
pub duplicate_step : (s : LinkSetting) (r : LinkRecords) → IsGoodSetting s → LinkStep (view_of (Some r)) (AddLink s) (NotAdded adds.DuplicateLink) (view_of (Some r))
duplicate_step s r good = record { each = λ c. (refl, refl); setting = refl; front = good; order = refl }

-- there is no memory for a link
pub no_memory_step : (s : LinkSetting) → IsGoodSetting s → LinkStep (view_of None) (AddLink s) (NotAdded adds.NoMemory) (view_of None)
no_memory_step s good = record { each = λ c. (refl, (adds.NoMemory, refl)); setting = refl; front = good; order = refl }

pub adds_step : (s : LinkSetting) (r : LinkRecords) → r.setting ≡ s → ((c : ℕ) → record_in r c ≡ None) → keys r.contexts ≡ [] → IsGoodSetting s → LinkStep (view_of None) (AddLink s) Done (view_of (Some r))
adds_step s r is empty bare good =
    subst (LinkStep (view_of None) (AddLink s) Done) (sym (view_in_is r s (λ c. None) [] is empty bare))
    (record { each = λ c. (refl, refl); setting = refl; front = good; order = refl })

pub removes_step : (r : LinkRecords) → LinkStep (view_of (Some r)) RemoveLink Done (view_of None)
removes_step r = record { each = λ c. (refl, refl); setting = refl; front = tt; order = none_left (keys r.contexts) }

-- a setting that isn't good changes nothing
pub not_good_step : (s : LinkSetting) (r : LinkRecords) → ¬ IsGoodSetting s → LinkStep (view_of (Some r)) (ChangeLink s) (NotChanged changes.BadSetting) (view_of (Some r))
not_good_step s r bad = record { each = λ c. refl; setting = refl; front = ((λ e. let f : ◌≡◌ {A = Option LinkSetting} (Some r.setting) None = e in cc), bad); order = refl }

-- ---- A record that is put

module _ (old new : LinkRecords) (cid : ℕ) (r : Record) where
  pub puts_step : PutsIn old cid r new → LinkStep (view_of (Some old)) (Put cid r) Done (view_of (Some new))
  puts_step p =
      subst (LinkStep (view_of (Some old)) (Put cid r) Done) (sym (view_in_is new old.setting (record_in new) _ p.setting (λ c. refl) p.order))
      (record { each = λ c. by c (cid == c) refl; setting = refl; front = tt; order = rw (p.free.none, p.put) refl })
    where
      by : (c : ℕ) (b : Bool) → (cid == c) ≡ b
          → Steps c (if b then Some (LonePut r) else None) (seen_with old.setting c (record_in old c)) Done (seen_with old.setting c (record_in new c))
      by c true own =
          let within : nat_le cid old.setting.settings.max_cid ≡ true = (let fits = p.free.within in grind (arith, nat_tests)) in
          subst (λ d. Steps d (Some (LonePut r)) (seen_with old.setting d (record_in old d)) Done (seen_with old.setting d (record_in new d))) (eqb-true cid c own)
          (rw (within, p.free.none, p.put) (refl, refl))
      by c false unowned =
          ap (seen_with old.setting c) (p.others c (λ e. let owned : (cid == c) ≡ true = eq-eqb cid c (sym e) in let bad : false ≡ true = sym unowned ∙ owned in cc))

  -- nothing changes for the CID, nor for any other
  put_refused : (fault : PutFault) (v : View) → Steps cid (Some (LonePut r)) (v.seen cid) (NotPut fault) (v.seen cid) → LinkStep v (Put cid r) (NotPut fault) v
  put_refused fault v own = record { each = λ c. by c (cid == c) refl; setting = refl; front = tt; order = order (held_of (v.seen cid)) }
    where
      by : (c : ℕ) (b : Bool) → (cid == c) ≡ b → Steps c (if b then Some (LonePut r) else None) (v.seen c) (NotPut fault) (v.seen c)
      by c true is = subst (λ d. Steps d (Some (LonePut r)) (v.seen d) (NotPut fault) (v.seen d)) (eqb-true cid c is) own
      by c false is = refl

      order : (held : Option Record) → GoesLast held held cid v.cids v.cids
      order None = refl
      order (Some x) = refl

  fault_step : (fault : PutFault) → PutFaultIn old.setting (record_in old cid) cid fault → LinkStep (view_of (Some old)) (Put cid r) (NotPut fault) (view_of (Some old))
  fault_step puts.NoLink never = absurd never
  fault_step puts.CidRange above =
      let over : nat_le cid old.setting.settings.max_cid ≡ false = grind (arith, nat_tests) in
      put_refused puts.CidRange (view_of (Some old)) (rw over (refl, refl))
  fault_step puts.HasRecord (within, has) =
      let fits : nat_le cid old.setting.settings.max_cid ≡ true = grind (arith, nat_tests) in
      by (record_in old cid) refl has fits
    where
      by : (held : Option Record) → record_in old cid ≡ held → held ≢ None → nat_le cid old.setting.settings.max_cid ≡ true
          → LinkStep (view_of (Some old)) (Put cid r) (NotPut puts.HasRecord) (view_of (Some old))
      by None is has fits = absurd (has refl)
      by (Some x) is has fits = put_refused puts.HasRecord (view_of (Some old)) (rw (fits, is) (refl, refl))
  fault_step puts.NoMemory free = put_refused puts.NoMemory (view_of (Some old)) (refl, (refl, free.within, free.none))

  -- a record that is put, or not
  pub put_step : {A : Type 0} (result : Result A PutFault) → OnOk result (PutsIn old cid r new) → IfErr result (λ e. Stays old new)
      → IfErr result (PutFaultIn old.setting (record_in old cid) cid) → LinkStep (view_of (Some old)) (Put cid r) (put_answer result) (view_of (Some new))
  put_step (Ok x) p stays fault = puts_step p
  put_step (Err fault) p stays f = stays_step old new (Put cid r) (NotPut fault) (fault_step fault f) stays
