-- Isolation of a link over calls.
use Rattle.std.proofs.Common.{◌≡◌, ℕ, List, [], ◌∷◌, map, Bool, true, false, not, ◌&&◌, ◌==◌, is_some, Option, Some, None, Result, Ok, Err, refl, sym, ap, ◌∙◌, subst, filter, nat_le, eq-eqb, if◌then◌else◌}
use Rattle.std.specs.Bool.{MatchBool}
use Rattle.std.specs.List.{AllByRecursion}
use Rattle.std.proofs.Math.Path.{fun_ext}
use Rattle.rohc_frame.specs.Header.{Header}
use Rattle.rohc_frame.specs.Reading.{Reading}
use Rattle.rohc_frame.specs.Parts.{parts_of}
use Rattle.rohc_frame.specs.declared.refusal.FrameRefusal.{FrameRefusal}
use Rattle.rohc_context.specs.Record.{Record}
use Rattle.rohc_context.specs.Response.{Response}
use Rattle.rohc_concentrator.specs.declared.concentrator.Concentrator.{Concentrator}
use Rattle.rohc_concentrator.specs.declared.setting.LinkSetting.{LinkSetting}
use Rattle.rohc_concentrator.specs.declared.links.AddFault.TheVariants as adds
use Rattle.rohc_concentrator.specs.declared.links.ChangeFault.TheVariants as changes
use Rattle.rohc_concentrator.specs.Setting.{settings_of}
use Rattle.rohc_concentrator.specs.Bears.{borne, header_in}
use Rattle.rohc_concentrator.specs.Report.{Arrived}
use Rattle.rohc_concentrator.specs.Seen.{Seen, held_of, View, view_at}
use Rattle.rohc_concentrator.specs.Calls.{Call, Arrive, Reset, Forget, ForgetExpired, AddLink, RemoveLink, ChangeLink, Put, CallAnswer, Reported, Done, NotAdded, NotChanged, is_poor, LoneCall, LoneArrival, LoneForget, LoneAdd, LoneChange, LonePut, lone_call, header_at, arrival_for, LoneAnswer, Replied, Told, lone_answer}
use Rattle.rohc_concentrator.specs.Owns.{GivesPut, Makes, Steps}
use Rattle.rohc_concentrator.specs.RunsCall.{IsFront, IsFrontOf, IsFrontIn, IsFrontOn, GoesLast, GoesLastOf, CidsOrdered, setting_made, LinkStep, Turn, Runs}
use Rattle.rohc_concentrator.specs.CallLaws.{IsFitTurn}
use Rattle.rohc_concentrator.specs.LinkCalls.{turns_on, calls_on, answers_on, LinkRun, IsolatedLinks, SameLinks}
use Rattle.rohc_concentrator.proofs.OwnLemmas.{OfOwn, IsGoodCall, good_call, makes_one}

-- equal parts make equal views
same_view : (v w : View) → v.setting ≡ w.setting → ((c : ℕ) → v.seen c ≡ w.seen c) → v.cids ≡ w.cids → v ≡ w
same_view v w p q r = λ i. record { setting = p i; seen = λ c. q c i; cids = r i }

-- a call that is refused for what others hold changes nothing

steps_stay : (c : ℕ) (o : Option LoneCall) (before : Option Seen) (a : CallAnswer) (after : Option Seen) → is_poor a ≡ true → Steps c o before a after → after ≡ before
steps_stay c None before a after poor step = step
steps_stay c (Some e) before a after poor step = (rw poor at step).0

abbrev pub is_done : CallAnswer → Bool
is_done Done = true
is_done a = false

-- only what is done sets a setting
pub undone_setting : (e : Call) (a : CallAnswer) (set : Option LinkSetting) → is_done a ≡ false → setting_made e a set ≡ set
undone_setting (AddLink s) Done set undone = absurd (let f : true ≡ false = undone in cc)
undone_setting (ChangeLink s) Done set undone = absurd (let f : true ≡ false = undone in cc)
undone_setting RemoveLink Done set undone = absurd (let f : true ≡ false = undone in cc)
undone_setting (AddLink s) a set undone = refl
undone_setting (ChangeLink s) a set undone = refl
undone_setting RemoveLink a set undone = refl
undone_setting e a set undone = refl

poor_undone : (a : CallAnswer) → is_poor a ≡ true → is_done a ≡ false
poor_undone Done poor = absurd (let f : false ≡ true = poor in cc)
poor_undone a poor = refl

goes_same : (before after : Option Record) (c : ℕ) (old new : List ℕ) → after ≡ before → GoesLast before after c old new → new ≡ old
goes_same None None c old new same goes = goes
goes_same None (Some r) c old new same goes = absurd (let f : ◌≡◌ {A = Option Record} (Some r) None = same in cc)
goes_same (Some r) after c old new same goes = goes

goes_same_of : (o : Option ℕ) (before after : ℕ → Option Seen) (old new : List ℕ) → ((c : ℕ) → after c ≡ before c) → GoesLastOf o before after old new → new ≡ old
goes_same_of None before after old new same goes = goes
goes_same_of (Some c) before after old new same goes = goes_same (held_of (before c)) (held_of (after c)) c old new (ap held_of (same c)) goes

poor_cids : (e : Call) (a : CallAnswer) (v w : View) → is_poor a ≡ true → ((c : ℕ) → w.seen c ≡ v.seen c) → CidsOrdered e a v w → w.cids ≡ v.cids
poor_cids (Arrive m octets) a v w poor same order = goes_same_of (borne v.setting octets) v.seen w.seen v.cids w.cids same order
poor_cids (Put c r) a v w poor same order = goes_same (held_of (v.seen c)) (held_of (w.seen c)) c v.cids w.cids (ap held_of (same c)) order
poor_cids e Done v w poor same order = absurd (let f : false ≡ true = poor in cc)
poor_cids e a v w poor same order = order

poor_stays : (v w : View) (e : Call) (a : CallAnswer) → LinkStep v e a w → is_poor a ≡ true → w ≡ v
poor_stays v w e a step poor =
    let same : (c : ℕ) → w.seen c ≡ v.seen c = λ c. steps_stay c (lone_call c e a v.setting) (v.seen c) a (w.seen c) poor (step.each c) in
    same_view w v (step.setting ∙ undone_setting e a v.setting (poor_undone a poor)) same (poor_cids e a v w poor same step.order)

-- runs of a link, of each step of which something holds

module _ (Q : View → Call → CallAnswer → Type 0) where
  abbrev pub LinkWith : View → List Call → List CallAnswer → View → Type 0
  LinkWith v [] [] w = w ≡ v
  LinkWith v [] (a ∷ answers) w = ⊥
  LinkWith v (e ∷ calls) [] w = ⊥
  LinkWith v (e ∷ calls) (a ∷ answers) w = (mid : View) × Q v e a × LinkStep v e a mid × (is_poor a ≡ false) × LinkWith mid calls answers w

  link_with : (F : Turn → Type 0) → ((k : Concentrator) (l : ℕ) (t : Turn) → F t → Q (view_at k l) t.call t.answer)
      → (old new : Concentrator) (turns : List Turn) → AllByRecursion F turns → Runs old turns new → (l : ℕ) → LinkWith (view_at old l) (calls_on l turns) (answers_on l turns) (view_at new l)
  link_with F holds old new [] all run l = ap (λ k. view_at k l) run
  link_with F holds old new (t ∷ turns) all (mid, event, rest) l = by (t.link == l) (is_poor t.answer) refl (event.each l) (link_with F holds mid new turns all.1 rest l)
    where
      by : (here poor : Bool) → is_poor t.answer ≡ poor → MatchBool here (LinkStep (view_at old l) t.call t.answer (view_at mid l)) (view_at mid l ≡ view_at old l) → LinkWith (view_at mid l) (calls_on l turns) (answers_on l turns) (view_at new l)
          → (let on = if here && not poor then t ∷ turns_on l turns else turns_on l turns in LinkWith (view_at old l) (map (λ (t : Turn). t.call) on) (map (λ (t : Turn). t.answer) on) (view_at new l))
      by false poor is same run = subst (λ v. LinkWith v (calls_on l turns) (answers_on l turns) (view_at new l)) same run
      by true true is step run = subst (λ v. LinkWith v (calls_on l turns) (answers_on l turns) (view_at new l)) (poor_stays (view_at old l) (view_at mid l) t.call t.answer step is) run
      by true false is step run = (view_at mid l, holds old l t all.0, step, is, run)

abbrev Anything : View → Call → CallAnswer → Type 0
Anything v e a = Unit {0}

all_turns : (turns : List Turn) → AllByRecursion (λ (t : Turn). Unit {0}) turns
all_turns [] = tt
all_turns (t ∷ turns) = (tt, all_turns turns)

link_of : (v : View) (calls : List Call) (answers : List CallAnswer) (w : View) → LinkWith Anything v calls answers w → LinkRun v calls answers w
link_of v [] [] w run = run
link_of v [] (a ∷ answers) w run = absurd run
link_of v (e ∷ calls) [] w run = absurd run
link_of v (e ∷ calls) (a ∷ answers) w (mid, p, step, rich, rest) = (mid, step, rich, link_of mid calls answers w rest)

pub isolated_links : IsolatedLinks
isolated_links old new turns run l =
    link_of (view_at old l) (calls_on l turns) (answers_on l turns) (view_at new l) (link_with Anything (λ (t : Turn). Unit {0}) (λ k n t p. tt) old new turns (all_turns turns) run l)

-- a step of a link has one answer, and leads to one view

abbrev is_arrival : LoneCall → Bool
is_arrival (LoneArrival m h) = true
is_arrival e = false

put_told : (within : Bool) (held : Option Record) (v : Seen) (r : Record) (y : LoneAnswer) (after : Option Seen) → GivesPut within held v r y after → (x : CallAnswer) × (y ≡ Told x)
put_told false held v r y after p = (_, p.0)
put_told true None v r y after p = (_, p.0)
put_told true (Some old) v r y after p = (_, p.0)

makes_told : (c : ℕ) (e : LoneCall) (before : Option Seen) (y : LoneAnswer) (after : Option Seen) → is_arrival e ≡ false → Makes c e before y after → (x : CallAnswer) × (y ≡ Told x)
makes_told c (LoneArrival m h) before y after apart p = absurd (let f : true ≡ false = apart in cc)
makes_told c (LonePut r) (Some v) y after apart p = put_told (nat_le c v.settings.max_cid) v.held v r y after p
makes_told c e None y after apart p = (_, p.0)
makes_told c e (Some v) y after apart p = (_, p.0)

told_is : (a x : CallAnswer) → lone_answer a ≡ Told x → a ≡ x
told_is (Reported (Arrived c response relayed)) x e = absurd (let f : ◌≡◌ {A = LoneAnswer} (Replied response) (Told x) = e in cc)
told_is a x e = cc

replied_is : (r t : Response) → ◌≡◌ {A = LoneAnswer} (Replied r) (Replied t) → r ≡ t
replied_is r t e = cc

module _ (m : ℕ) (a b : CallAnswer) where
  abbrev Same : Option Header → Type 0
  Same header = (c : ℕ) (e : LoneCall) → arrival_for c m header ≡ Some e → lone_answer a ≡ lone_answer b

  front_one : (relayed : List (List ℕ)) (header : Option Header) → Same header → IsFrontOf relayed header a → IsFrontOf relayed header b → a ≡ b
  front_one relayed None own f g = f ∙ sym g
  front_one relayed (Some h) own (r, f) (t, g) =
      let same : r ≡ t = replied_is r t (sym (ap lone_answer f) ∙ own h.cid (LoneArrival m h) (let here : (h.cid == h.cid) ≡ true = eq-eqb h.cid h.cid refl in rw here refl) ∙ ap lone_answer g) in
      f ∙ ap (λ z. Reported (Arrived h.cid z relayed)) same ∙ sym g

  parts_one : (parts : Result Reading FrameRefusal) → Same (header_in parts) → IsFrontIn parts a → IsFrontIn parts b → a ≡ b
  parts_one (Err refusal) own f g = f ∙ sym g
  parts_one (Ok reading) own f g = front_one reading.elements reading.header own f g

  arrival_one : (set : Option LinkSetting) (octets : List ℕ) → Same (header_at set octets) → IsFrontOn set octets a → IsFrontOn set octets b → a ≡ b
  arrival_one None octets own f g = f ∙ sym g
  arrival_one (Some s) octets own f g = parts_one (parts_of s.settings.size s.settings.max_cid octets) own f g

module _ (s : LinkSetting) (set : Option LinkSetting) where
  add_one : (a b : CallAnswer) → (lone_call 0 (AddLink s) a set ≡ Some (LoneAdd (settings_of s 0)) → lone_call 0 (AddLink s) b set ≡ Some (LoneAdd (settings_of s 0)) → a ≡ b)
      → is_poor a ≡ false → is_poor b ≡ false → IsFront (AddLink s) set a → IsFront (AddLink s) set b → a ≡ b
  add_one (NotAdded adds.TooManyLinks) b own p q f g = absurd (let f : true ≡ false = p in cc)
  add_one a (NotAdded adds.TooManyLinks) own p q f g = absurd (let f : true ≡ false = q in cc)
  add_one (NotAdded adds.BadSetting) (NotAdded adds.BadSetting) own p q f g = refl
  add_one (NotAdded adds.BadSetting) b own p q f g = absurd (f g)
  add_one a (NotAdded adds.BadSetting) own p q f g = absurd (g f)
  add_one a b own p q f g = own refl refl

  change_one : (a b : CallAnswer) → (lone_call 0 (ChangeLink s) a set ≡ Some (LoneChange (settings_of s 0)) → lone_call 0 (ChangeLink s) b set ≡ Some (LoneChange (settings_of s 0)) → a ≡ b)
      → IsFront (ChangeLink s) set a → IsFront (ChangeLink s) set b → a ≡ b
  change_one (NotChanged changes.BadSetting) (NotChanged changes.BadSetting) own f g = refl
  change_one (NotChanged changes.BadSetting) (NotChanged changes.NoLink) own f g = absurd (f.0 g)
  change_one (NotChanged changes.NoLink) (NotChanged changes.BadSetting) own f g = absurd (g.0 f)
  change_one (NotChanged changes.BadSetting) b own f g = absurd (f.1 g)
  change_one a (NotChanged changes.BadSetting) own f g = absurd (g.1 f)
  change_one a b own f g = own refl refl

module _ (v w x : View) (e : Call) (a b : CallAnswer) (p : LinkStep v e a w) (q : LinkStep v e b x) (rich_a : is_poor a ≡ false) (rich_b : is_poor b ≡ false)
    (good : (c : ℕ) → OfOwn (IsGoodCall c) (lone_call c e a v.setting) (v.seen c)) where
  made : (c : ℕ) (o : Option LoneCall) (d : LoneCall) (y : CallAnswer) (after : Option Seen) → o ≡ Some d → is_poor y ≡ false → Steps c o (v.seen c) y after → Makes c d (v.seen c) (lone_answer y) after
  made c o d y after is rich step = rw rich at (subst (λ z. Steps c z (v.seen c) y after) is step)

  own_one : (c : ℕ) (d : LoneCall) → lone_call c e a v.setting ≡ Some d → lone_call c e b v.setting ≡ Some d → lone_answer a ≡ lone_answer b
  own_one c d is_a is_b =
      (makes_one c d (v.seen c) (lone_answer a) (lone_answer b) (w.seen c) (x.seen c) (subst (λ z. OfOwn (IsGoodCall c) z (v.seen c)) is_a (good c))
      (made c (lone_call c e a v.setting) d a (w.seen c) is_a rich_a (p.each c)) (made c (lone_call c e b v.setting) d b (x.seen c) is_b rich_b (q.each c))).0

  own_same : (c : ℕ) (d : LoneCall) → is_arrival d ≡ false → lone_call c e a v.setting ≡ Some d → lone_call c e b v.setting ≡ Some d → a ≡ b
  own_same c d apart is_a is_b =
      let (y, told) = makes_told c d (v.seen c) (lone_answer a) (w.seen c) apart (made c (lone_call c e a v.setting) d a (w.seen c) is_a rich_a (p.each c)) in
      told_is a y told ∙ sym (told_is b y (sym (own_one c d is_a is_b) ∙ told))

answer_one : (v w x : View) (e : Call) (a b : CallAnswer) → LinkStep v e a w → LinkStep v e b x → is_poor a ≡ false → is_poor b ≡ false → ((c : ℕ) → OfOwn (IsGoodCall c) (lone_call c e a v.setting) (v.seen c)) → a ≡ b
answer_one v w x (Arrive m octets) a b p q rich_a rich_b good = arrival_one m a b v.setting octets (λ c d is. own_one v w x (Arrive m octets) a b p q rich_a rich_b good c d is is) p.front q.front
answer_one v w x (Forget d) a b p q rich_a rich_b good =
    let here : (d == d) ≡ true = eq-eqb d d refl in
    let is : (if d == d then Some LoneForget else None) ≡ Some LoneForget = rw here refl in
    own_same v w x (Forget d) a b p q rich_a rich_b good d LoneForget refl is is
answer_one v w x (Put d r) a b p q rich_a rich_b good =
    let here : (d == d) ≡ true = eq-eqb d d refl in
    let is : (if d == d then Some (LonePut r) else None) ≡ Some (LonePut r) = rw here refl in
    own_same v w x (Put d r) a b p q rich_a rich_b good d (LonePut r) refl is is
answer_one v w x (AddLink s) a b p q rich_a rich_b good = add_one s v.setting a b (own_same v w x (AddLink s) a b p q rich_a rich_b good 0 (LoneAdd (settings_of s 0)) refl) rich_a rich_b p.front q.front
answer_one v w x (ChangeLink s) a b p q rich_a rich_b good = change_one s v.setting a b (own_same v w x (ChangeLink s) a b p q rich_a rich_b good 0 (LoneChange (settings_of s 0)) refl) p.front q.front
answer_one v w x Reset a b p q rich_a rich_b good = own_same v w x Reset a b p q rich_a rich_b good 0 _ refl refl refl
answer_one v w x (ForgetExpired m) a b p q rich_a rich_b good = own_same v w x (ForgetExpired m) a b p q rich_a rich_b good 0 _ refl refl refl
answer_one v w x RemoveLink a b p q rich_a rich_b good = own_same v w x RemoveLink a b p q rich_a rich_b good 0 _ refl refl refl

steps_one : (c : ℕ) (o : Option LoneCall) (before : Option Seen) (a : CallAnswer) (x y : Option Seen) → OfOwn (IsGoodCall c) o before → is_poor a ≡ false → Steps c o before a x → Steps c o before a y → x ≡ y
steps_one c None before a x y good rich f g = f ∙ sym g
steps_one c (Some e) before a x y good rich f g = (makes_one c e before (lone_answer a) (lone_answer a) x y good (rw rich at f) (rw rich at g)).1

goes_one : (before x y : Option Record) (c : ℕ) (old xs ys : List ℕ) → x ≡ y → GoesLast before x c old xs → GoesLast before y c old ys → xs ≡ ys
goes_one (Some r) x y c old xs ys same f g = f ∙ sym g
goes_one None None None c old xs ys same f g = f ∙ sym g
goes_one None (Some r) (Some t) c old xs ys same f g = f ∙ sym g
goes_one None None (Some t) c old xs ys same f g = absurd (let f : ◌≡◌ {A = Option Record} None (Some t) = same in cc)
goes_one None (Some r) None c old xs ys same f g = absurd (let f : ◌≡◌ {A = Option Record} (Some r) None = same in cc)

goes_one_of : (o : Option ℕ) (before x y : ℕ → Option Seen) (old xs ys : List ℕ) → ((c : ℕ) → x c ≡ y c) → GoesLastOf o before x old xs → GoesLastOf o before y old ys → xs ≡ ys
goes_one_of None before x y old xs ys same f g = f ∙ sym g
goes_one_of (Some c) before x y old xs ys same f g = goes_one (held_of (before c)) (held_of (x c)) (held_of (y c)) c old xs ys (ap held_of (same c)) f g

cids_one : (e : Call) (a : CallAnswer) (v w x : View) → ((c : ℕ) → w.seen c ≡ x.seen c) → CidsOrdered e a v w → CidsOrdered e a v x → w.cids ≡ x.cids
cids_one (Arrive m octets) a v w x same f g = goes_one_of (borne v.setting octets) v.seen w.seen x.seen v.cids w.cids x.cids same f g
cids_one (Put c r) a v w x same f g = goes_one (held_of (v.seen c)) (held_of (w.seen c)) (held_of (x.seen c)) c v.cids w.cids x.cids (ap held_of (same c)) f g
cids_one e Done v w x same f g = f ∙ ap (λ (seen : ℕ → Option Seen). filter (λ c. is_some (held_of (seen c))) v.cids) (fun_ext same) ∙ sym g
cids_one e a v w x same f g = f ∙ sym g

view_one : (v w x : View) (e : Call) (a : CallAnswer) → LinkStep v e a w → LinkStep v e a x → is_poor a ≡ false → ((c : ℕ) → OfOwn (IsGoodCall c) (lone_call c e a v.setting) (v.seen c)) → w ≡ x
view_one v w x e a p q rich good =
    let same : (c : ℕ) → w.seen c ≡ x.seen c = λ c. steps_one c (lone_call c e a v.setting) (v.seen c) a (w.seen c) (x.seen c) (good c) rich (p.each c) (q.each c) in
    same_view w x (p.setting ∙ sym q.setting) same (cids_one e a v w x same p.order q.order)

abbrev AreGoodCalls : View → Call → CallAnswer → Type 0
AreGoodCalls v e a = (c : ℕ) → OfOwn (IsGoodCall c) (lone_call c e a v.setting) (v.seen c)

link_one : (v : View) (calls : List Call) (xs ys : List CallAnswer) (w x : View) → LinkWith AreGoodCalls v calls xs w → LinkRun v calls ys x → (xs ≡ ys) × (w ≡ x)
link_one v [] [] [] w x p q = (refl, p ∙ sym q)
link_one v [] (a ∷ xs) ys w x p q = absurd p
link_one v [] [] (b ∷ ys) w x p q = absurd q
link_one v (e ∷ es) [] ys w x p q = absurd p
link_one v (e ∷ es) (a ∷ xs) [] w x p q = absurd q
link_one v (e ∷ es) (a ∷ xs) (b ∷ ys) w x (m, good, p, rich_a, ps) (n, q, rich_b, qs) =
    let answer = answer_one v m n e a b p q rich_a rich_b good in
    let one = view_one v m n e a p (subst (λ z. LinkStep v e z n) (sym answer) q) rich_a good in
    let rest = link_one m es xs ys w x ps (subst (λ z. LinkRun z es ys x) (sym one) qs) in
    (ap (λ z. z ∷ xs) answer ∙ ap (λ zs. b ∷ zs) rest.0, rest.1)

pub same_links : SameLinks
same_links a b after_a after_b xs ys l agree fit p q same =
    link_one (view_at a l) (calls_on l xs) (answers_on l xs) (answers_on l ys) (view_at after_a l) (view_at after_b l) (link_with AreGoodCalls IsFitTurn (λ k n t fits c. good_call c k n t fits) a after_a xs fit p l)
    (subst (λ es. LinkRun (view_at a l) es (answers_on l ys) (view_at after_b l)) (sym same)
    (subst (λ v. LinkRun v (calls_on l ys) (answers_on l ys) (view_at after_b l)) (sym agree) (isolated_links b after_b ys q l)))
