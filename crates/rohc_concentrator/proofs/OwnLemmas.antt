-- Isolation over calls: what a run answers to a CID is what its own calls make of one context.
use Rattle.std.proofs.Common.{◌≡◌, ℕ, List, [], ◌∷◌, ◌++◌, Bool, true, false, not, nat_le, ◌==◌, nat_eq, eqb-true, Option, Some, None, Result, Ok, Err, option_map, refl, sym, ap, ◌∙◌, subst, if◌then◌else◌}
use Rattle.std.specs.Bool.{MatchBool}
use Rattle.std.specs.List.{AllByRecursion}
use Rattle.std.specs.HashMap.{get}
use Rattle.std.proofs.lemmas.List.{map-append}
use Rattle.std.proofs.lemmas.List.Elements.{filter-append}
use Rattle.rohc_frame.specs.Header.{Header}
use Rattle.rohc_frame.specs.Reading.{Reading}
use Rattle.rohc_frame.specs.Parts.{parts_of}
use Rattle.rohc_frame.specs.declared.refusal.FrameRefusal.{FrameRefusal}
use Rattle.rohc_context.specs.Good.{AreGoodValues}
use Rattle.rohc_context.specs.Record.{Record}
use Rattle.rohc_context.proofs.StepLaws.{has_no_other}
use Rattle.rohc_concentrator.specs.declared.concentrator.Concentrator.{Concentrator}
use Rattle.rohc_concentrator.specs.declared.records.LinkRecords.{LinkRecords}
use Rattle.rohc_concentrator.specs.declared.links.AddFault.TheVariants as adds
use Rattle.rohc_concentrator.specs.declared.links.ChangeFault.TheVariants as changes
use Rattle.rohc_concentrator.specs.Bears.{header_in}
use Rattle.rohc_concentrator.specs.Tables.{setting_at}
use Rattle.rohc_concentrator.specs.Seen.{Seen, seen_in, seen_at, View, view_at}
use Rattle.rohc_concentrator.specs.Calls.{Call, Arrive, Forget, AddLink, ChangeLink, Put, CallAnswer, NotAdded, NotChanged, is_poor, LoneCall, LoneArrival, LonePut, lone_call, arrival_for, LoneAnswer, Replied, lone_answer}
use Rattle.rohc_concentrator.specs.Owns.{GivesPut, Makes, WouldAdd, Owns, Steps}
use Rattle.rohc_concentrator.specs.RunsCall.{setting_made, LinkStep, Turn, Runs}
use Rattle.rohc_concentrator.specs.OwnCalls.{Own, own_more, own_calls, MarkedCalls, rich, calls_of, answers_of, LoneCalls, calls_to, answers_to, IsolatedCalls}
use Rattle.rohc_concentrator.specs.CallLaws.{IsFitCall, IsFitTurn, SameAnswers, CutCalls}
use Rattle.rohc_concentrator.proofs.GoodLemmas.{good_in, good_settings_of, good_header}

-- what holds of a call, if there is one, and what is seen before it
abbrev pub OfOwn : (LoneCall → Option Seen → Type 0) → Option LoneCall → Option Seen → Type 0
OfOwn P None seen = Unit {0}
OfOwn P (Some e) seen = P e seen

-- runs of a CID's own calls, of each of which something holds

module _ (P : LoneCall → Option Seen → Type 0) (c : ℕ) where
  abbrev pub MarkedWith : Option Seen → List Own → Option Seen → Type 0
  MarkedWith before [] after = after ≡ before
  MarkedWith before ((e, a) ∷ own) after = (mid : Option Seen) × P e before × Owns c e before a mid × MarkedWith mid own after

  abbrev pub LoneWith : Option Seen → List LoneCall → List LoneAnswer → Option Seen → Type 0
  LoneWith before [] [] after = after ≡ before
  LoneWith before [] (a ∷ answers) after = ⊥
  LoneWith before (e ∷ calls) [] after = ⊥
  LoneWith before (e ∷ calls) (a ∷ answers) after = (mid : Option Seen) × P e before × Makes c e before a mid × LoneWith mid calls answers after

  more_with : (o : Option LoneCall) (a : CallAnswer) (before mid after : Option Seen) (own : List Own) → OfOwn P o before → Steps c o before a mid → MarkedWith mid own after → MarkedWith before (own_more o a own) after
  more_with None a before mid after own p step run = subst (λ z. MarkedWith z own after) step run
  more_with (Some e) a before mid after own p step run = (mid, p, step, run)

  pub marked_with : (F : Turn → Type 0) → ((k : Concentrator) (l : ℕ) (t : Turn) → F t → OfOwn P (lone_call c t.call t.answer (setting_at k l)) (seen_at k l c))
      → (old new : Concentrator) (turns : List Turn) → AllByRecursion F turns → Runs old turns new → (l : ℕ) → MarkedWith (seen_at old l c) (own_calls l c (setting_at old l) turns) (seen_at new l c)
  marked_with F holds old new [] all run l = ap (λ k. seen_at k l c) run
  marked_with F holds old new (t ∷ turns) all (mid, event, rest) l = by (t.link == l) (event.each l) (marked_with F holds mid new turns all.1 rest l)
    where
      by : (here : Bool) → MatchBool here (LinkStep (view_at old l) t.call t.answer (view_at mid l)) (view_at mid l ≡ view_at old l)
          → MarkedWith (seen_at mid l c) (own_calls l c (setting_at mid l) turns) (seen_at new l c)
          → MarkedWith (seen_at old l c) (if here then own_more (lone_call c t.call t.answer (setting_at old l)) t.answer (own_calls l c (setting_made t.call t.answer (setting_at old l)) turns) else own_calls l c (setting_at old l) turns) (seen_at new l c)
      by false same run = subst (λ (v : View). MarkedWith (v.seen c) (own_calls l c v.setting turns) (seen_at new l c)) same run
      by true step run =
          more_with (lone_call c t.call t.answer (setting_at old l)) t.answer (seen_at old l c) (seen_at mid l c) (seen_at new l c) (own_calls l c (setting_made t.call t.answer (setting_at old l)) turns) (holds old l t all.0) (step.each c)
          (subst (λ s. MarkedWith (seen_at mid l c) (own_calls l c s turns) (seen_at new l c)) step.setting run)

  -- without the calls that were refused for what others hold
  pub alone_with : (before after : Option Seen) (own : List Own) → MarkedWith before own after → LoneWith before (calls_of (rich own)) (answers_of (rich own)) after
  alone_with before after [] run = run
  alone_with before after ((e, a) ∷ own) (mid, p, step, rest) = by (is_poor a) step (alone_with mid after own rest)
    where
      by : (poor : Bool) → MatchBool poor ((mid ≡ before) × WouldAdd c e before a) (Makes c e before (lone_answer a) mid) → LoneWith mid (calls_of (rich own)) (answers_of (rich own)) after
          → (let more = if not poor then (e, a) ∷ rich own else rich own in LoneWith before (calls_of more) (answers_of more) after)
      by true stays run = subst (λ z. LoneWith z (calls_of (rich own)) (answers_of (rich own)) after) stays.0 run
      by false makes run = (mid, p, makes, run)

  marked_of : (before after : Option Seen) (own : List Own) → MarkedWith before own after → MarkedCalls c before own after
  marked_of before after [] run = run
  marked_of before after (o ∷ own) (mid, p, step, rest) = (mid, step, marked_of mid after own rest)

  lone_of : (before after : Option Seen) (calls : List LoneCall) (answers : List LoneAnswer) → LoneWith before calls answers after → LoneCalls c before calls answers after
  lone_of before after [] [] run = run
  lone_of before after [] (a ∷ answers) run = absurd run
  lone_of before after (e ∷ calls) [] run = absurd run
  lone_of before after (e ∷ calls) (a ∷ answers) (mid, p, makes, rest) = (mid, makes, lone_of mid after calls answers rest)

-- isolation, where nothing is asked of a call

abbrev Anything : LoneCall → Option Seen → Type 0
Anything e seen = Unit {0}

anything : (o : Option LoneCall) (seen : Option Seen) → OfOwn Anything o seen
anything None seen = tt
anything (Some e) seen = tt

all_turns : (turns : List Turn) → AllByRecursion (λ (t : Turn). Unit {0}) turns
all_turns [] = tt
all_turns (t ∷ turns) = (tt, all_turns turns)

pub isolated_calls : IsolatedCalls
isolated_calls old new turns run l c =
    let own = own_calls l c (setting_at old l) turns in
    let marked = marked_with Anything c (λ (t : Turn). Unit {0}) (λ k n t p. anything (lone_call c t.call t.answer (setting_at k n)) (seen_at k n c)) old new turns (all_turns turns) run l in
    record {
      marked = marked_of Anything c (seen_at old l c) (seen_at new l c) own marked;
      alone = lone_of Anything c (seen_at old l c) (seen_at new l c) (calls_of (rich own)) (answers_of (rich own)) (alone_with Anything c (seen_at old l c) (seen_at new l c) own marked);
    }

-- the calls that a CID sees of a run from a concentrator meet good values

abbrev pub IsGoodCall : ℕ → LoneCall → Option Seen → Type 0
IsGoodCall c (LoneArrival m h) None = Unit {0}
IsGoodCall c (LoneArrival m h) (Some v) = AreGoodValues v.held v.settings m h × (h.cid ≡ c)
IsGoodCall c e seen = Unit {0}

module _ (c m : ℕ) (octets : List ℕ) (r : LinkRecords) (fit : IsFitCall 0 (Arrive m octets)) where
  good_cut : (reading : Reading) (header : Option Header) → parts_of r.setting.settings.size r.setting.settings.max_cid octets ≡ Ok reading → reading.header ≡ header → OfOwn (IsGoodCall c) (arrival_for c m header) (Some (seen_in r c))
  good_cut reading None is has = tt
  good_cut reading (Some h) is has = by (h.cid == c) refl
    where
      by : (own : Bool) → (h.cid == c) ≡ own → OfOwn (IsGoodCall c) (if own then Some (LoneArrival m h) else None) (Some (seen_in r c))
      by false other = tt
      by true own = (
        record {
          record_before = good_in (get nat_eq r.contexts c);
          settings = good_settings_of r.setting c r.good;
          moment_fits = fit.0;
          header = good_header r.setting c octets reading h is has fit.1;
        },
        eqb-true h.cid c own,
      )

  good_parts : (parts : Result Reading FrameRefusal) → parts_of r.setting.settings.size r.setting.settings.max_cid octets ≡ parts → OfOwn (IsGoodCall c) (arrival_for c m (header_in parts)) (Some (seen_in r c))
  good_parts (Err refusal) is = tt
  good_parts (Ok reading) is = good_cut reading reading.header is refl

good_where : (c : ℕ) (b : Bool) (e : LoneCall) (seen : Option Seen) → IsGoodCall c e seen → OfOwn (IsGoodCall c) (if b then Some e else None) seen
good_where c true e seen good = good
good_where c false e seen good = tt

good_within : (c l : ℕ) (o : Option LinkRecords) (e : Call) (a : CallAnswer) → IsFitCall l e
    → OfOwn (IsGoodCall c) (lone_call c e a (option_map (λ (r : LinkRecords). r.setting) o)) (option_map (λ (r : LinkRecords). seen_in r c) o)
good_within c l None (Arrive m octets) a fit = tt
good_within c l (Some r) (Arrive m octets) a fit = good_parts c m octets r fit (parts_of r.setting.settings.size r.setting.settings.max_cid octets) refl
good_within c l o (Forget d) a fit = good_where c (d == c) _ _ tt
good_within c l o (Put d r) a fit = good_where c (d == c) _ _ tt
good_within c l o (AddLink s) (NotAdded adds.BadSetting) fit = tt
good_within c l o (AddLink s) a fit = tt
good_within c l o (ChangeLink s) (NotChanged changes.BadSetting) fit = tt
good_within c l o (ChangeLink s) a fit = tt
good_within c l o e a fit = tt

pub good_call : (c : ℕ) (k : Concentrator) (l : ℕ) (t : Turn) → IsFitTurn t → OfOwn (IsGoodCall c) (lone_call c t.call t.answer (setting_at k l)) (seen_at k l c)
good_call c k l t fit = good_within c t.link (get nat_eq k.links l) t.call t.answer fit

-- a call makes one thing of what is seen, and gets one answer

put_one : (within : Bool) (held : Option Record) (v : Seen) (r : Record) (x y : LoneAnswer) (a b : Option Seen) → GivesPut within held v r x a → GivesPut within held v r y b → (x ≡ y) × (a ≡ b)
put_one false held v r x y a b p q = (p.0 ∙ sym q.0, p.1 ∙ sym q.1)
put_one true None v r x y a b p q = (p.0 ∙ sym q.0, p.1 ∙ sym q.1)
put_one true (Some old) v r x y a b p q = (p.0 ∙ sym q.0, p.1 ∙ sym q.1)

pub makes_one : (c : ℕ) (e : LoneCall) (before : Option Seen) (x y : LoneAnswer) (a b : Option Seen) → IsGoodCall c e before → Makes c e before x a → Makes c e before y b → (x ≡ y) × (a ≡ b)
makes_one c (LoneArrival m h) None x y a b good p q = absurd p
makes_one c (LoneArrival m h) (Some v) x y a b good (r, held, step, e, f) (s, other, step_other, g, k) =
    let one = has_no_other v.held v.settings m h good.0 r s held other step step_other in
    (e ∙ ap (λ z. Replied z) one.0 ∙ sym g, f ∙ ap (λ z. Some (record v { held = z })) one.1 ∙ sym k)
makes_one c (LonePut r) (Some v) x y a b good p q = put_one (nat_le c v.settings.max_cid) v.held v r x y a b p q
makes_one c e None x y a b good p q = (p.0 ∙ sym q.0, p.1 ∙ sym q.1)
makes_one c e (Some v) x y a b good p q = (p.0 ∙ sym q.0, p.1 ∙ sym q.1)

lone_one : (c : ℕ) (before : Option Seen) (calls : List LoneCall) (xs ys : List LoneAnswer) (a b : Option Seen) → LoneWith (IsGoodCall c) c before calls xs a → LoneCalls c before calls ys b → (xs ≡ ys) × (a ≡ b)
lone_one c before [] [] [] a b p q = (refl, p ∙ sym q)
lone_one c before [] (x ∷ xs) ys a b p q = absurd p
lone_one c before [] [] (y ∷ ys) a b p q = absurd q
lone_one c before (e ∷ es) [] ys a b p q = absurd p
lone_one c before (e ∷ es) (x ∷ xs) [] a b p q = absurd q
lone_one c before (e ∷ es) (x ∷ xs) (y ∷ ys) a b (m, good, makes, p) (n, makes_other, q) =
    let one = makes_one c e before x y m n good makes makes_other in
    let rest = lone_one c m es xs ys a b p (subst (λ z. LoneCalls c z es ys b) (sym one.1) q) in
    (ap (λ z. z ∷ xs) one.0 ∙ ap (λ zs. y ∷ zs) rest.0, rest.1)

pub same_answers : SameAnswers
same_answers a b after_a after_b xs ys l c agree fit p q same =
    lone_one c (seen_at a l c) (calls_to l c a xs) (answers_to l c a xs) (answers_to l c b ys) (seen_at after_a l c) (seen_at after_b l c)
    (alone_with (IsGoodCall c) c (seen_at a l c) (seen_at after_a l c) (own_calls l c (setting_at a l) xs) (marked_with (IsGoodCall c) c IsFitTurn (good_call c) a after_a xs fit p l))
    (subst (λ es. LoneCalls c (seen_at a l c) es (answers_to l c b ys) (seen_at after_b l c)) (sym same)
    (subst (λ z. LoneCalls c z (calls_to l c b ys) (answers_to l c b ys) (seen_at after_b l c)) (sym agree) (isolated_calls b after_b ys q l c).alone))

-- a run that is cut

pub run_split : (front behind : List Turn) (k after : Concentrator) → Runs k (front ++ behind) after → (cut : Concentrator) × Runs k front cut × Runs cut behind after
run_split [] behind k after run = (k, refl, run)
run_split (turn ∷ front) behind k after (mid, step, rest) =
    let (cut, a, b) = run_split front behind mid after rest in
    (cut, (mid, step, a), b)

more_append : (o : Option LoneCall) (a : CallAnswer) (xs ys zs : List Own) → xs ≡ ys ++ zs → own_more o a xs ≡ own_more o a ys ++ zs
more_append None a xs ys zs same = same
more_append (Some e) a xs ys zs same = ap (λ os. (e, a) ∷ os) same

own_append : (k cut : Concentrator) (front behind : List Turn) → Runs k front cut → (l c : ℕ)
    → own_calls l c (setting_at k l) (front ++ behind) ≡ own_calls l c (setting_at k l) front ++ own_calls l c (setting_at cut l) behind
own_append k cut [] behind run l c = ap (λ x. own_calls l c (setting_at x l) behind) (sym run)
own_append k cut (t ∷ front) behind (mid, event, rest) l c = by (t.link == l) (event.each l) (own_append mid cut front behind rest l c)
  where
    by : (here : Bool) → MatchBool here (LinkStep (view_at k l) t.call t.answer (view_at mid l)) (view_at mid l ≡ view_at k l)
        → own_calls l c (setting_at mid l) (front ++ behind) ≡ own_calls l c (setting_at mid l) front ++ own_calls l c (setting_at cut l) behind
        → (let more : List Turn → List Own = (λ turns. if here then own_more (lone_call c t.call t.answer (setting_at k l)) t.answer (own_calls l c (setting_made t.call t.answer (setting_at k l)) turns) else own_calls l c (setting_at k l) turns) in
        more (front ++ behind) ≡ more front ++ own_calls l c (setting_at cut l) behind)
    by false same later = subst (λ (v : View). own_calls l c v.setting (front ++ behind) ≡ own_calls l c v.setting front ++ own_calls l c (setting_at cut l) behind) same later
    by true step later =
        let s = setting_made t.call t.answer (setting_at k l) in
        more_append (lone_call c t.call t.answer (setting_at k l)) t.answer (own_calls l c s (front ++ behind)) (own_calls l c s front) (own_calls l c (setting_at cut l) behind)
        (subst (λ z. own_calls l c z (front ++ behind) ≡ own_calls l c z front ++ own_calls l c (setting_at cut l) behind) step.setting later)

answers_append : (k cut : Concentrator) (front behind : List Turn) → Runs k front cut → (l c : ℕ) → answers_to l c k (front ++ behind) ≡ answers_to l c k front ++ answers_to l c cut behind
answers_append k cut front behind run l c =
    let xs = own_calls l c (setting_at k l) front in
    let ys = own_calls l c (setting_at cut l) behind in
    ap (λ os. answers_of (rich os)) (own_append k cut front behind run l c) ∙ ap answers_of (filter-append (λ (o : Own). not (is_poor o.1)) xs ys) ∙ map-append (λ (o : Own). lone_answer o.1) (rich xs) (rich ys)

pub cut_calls : CutCalls
cut_calls k after front behind runs fit =
    let (cut, first, second) = run_split front behind k after runs in (
      cut,
      first,
      λ b after_b ys l c agree other same.
          let one = same_answers cut b after after_b behind ys l c agree fit second other same in
          (answers_append k cut front behind first l c ∙ ap (λ zs. answers_to l c k front ++ zs) one.0, one.1),
    )
