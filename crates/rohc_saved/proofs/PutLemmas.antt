-- What puts lead to: what each link holds then, and that only memory can be wanting.
use Rattle.std.proofs.Common.{◌≡◌, ◌≢◌, ℕ, List, [], ◌∷◌, ◌++◌, flat_map, Bool, true, false, cond, if◌then◌else◌, Option, Some, None, Result, Ok, Err, nat_eq, nat_le, is_some, ◌==◌, refl, sym, ap, subst, ◌∙◌, arith, append_assoc, append-nil, eq-eqb, eqb-true, ne_eqb}
use Rattle.std.specs.Prelude.{◌||◌, filter, OnOk, IfErr, IsErr, IsErrAnd}
use Rattle.std.specs.Map.{lookup}
use Rattle.std.specs.List.{AllByRecursion, IsDistinct, list_any}
use Rattle.std.proofs.lemmas.Bool.Decides.{nat_tests}
use Rattle.std.proofs.lemmas.List.{map-append}
use Rattle.std.proofs.lemmas.List.Elements.{filter-append}
use Rattle.std.proofs.lemmas.List.Concat.{flat_map-append}
use Rattle.std.proofs.lemmas.Map.Keys.{IsDistinct-head, IsDistinct-tail}
use Rattle.rohc_context.specs.Record.{Record}
use Rattle.rohc_concentrator.specs.declared.answer.NoLink.{NoLink}
use Rattle.rohc_concentrator.specs.declared.concentrator.Concentrator.{Concentrator}
use Rattle.rohc_concentrator.specs.declared.putting.PutFault.{PutFault}
use Rattle.rohc_concentrator.specs.declared.putting.PutFault.TheVariants as puts
use Rattle.rohc_concentrator.specs.declared.setting.LinkSetting.{LinkSetting}
use Rattle.rohc_concentrator.specs.Setting.{settings_of}
use Rattle.rohc_concentrator.specs.Tables.{record_at, identifiers_at, setting_at, settings_in_order, KeepsSettings, KeepsAll}
use Rattle.rohc_concentrator.specs.Seen.{Seen, seen_at, held_of, View, view_at}
use Rattle.rohc_concentrator.specs.Calls.{Call, Reset, Put, CallAnswer, Done, NoSuchLink, NotPut, plain_answer, put_answer, LoneForget, LonePut, LoneAnswer, Told}
use Rattle.rohc_concentrator.specs.Owns.{GivesPut, Makes, Owns}
use Rattle.rohc_concentrator.specs.RunsCall.{GoesLast, setting_made, LinkStep, LinksOrdered, RunsCall, Turn, Runs}
use Rattle.rohc_concentrator.proofs.ByNumber.{by_number}
use Rattle.rohc_concentrator.proofs.OwnLemmas.{run_split}
use Rattle.rohc_concentrator.proofs.ViewLemmas.{held_at, listed_at, view_some}
use Rattle.rohc_saved.specs.Form.{Link}
use Rattle.rohc_saved.specs.Restoring.{up_to, taken_of, put_turn, puts_of, puts_in, StopsAt}
use Rattle.rohc_saved.specs.LinkRestoring.{IsReady, reset_turn}
use Rattle.rohc_saved.proofs.FormOrder.{firsts}

-- ---- Lists of puts

pub runs_append : (xs ys : List Turn) (a b c : Concentrator) → Runs a xs b → Runs b ys c → Runs a (xs ++ ys) c
runs_append [] ys a b c first second = subst (λ k. Runs k ys c) first second
runs_append (t ∷ xs) ys a b c (mid, event, rest) second = (mid, event, runs_append xs ys mid b c rest second)

-- one context up to a CID was put, or refused
module _ (n greatest : ℕ) (c : ℕ × Record) (a b : Concentrator) (within : nat_le c.0 greatest ≡ true) where
  pub one_put : (result : Result Unit PutFault) → RunsCall a n (Put c.0 c.1) (put_answer result) b
      → OnOk result (Runs a (puts_of n (up_to (Some greatest) (c ∷ []))) b) × IfErr result (λ e. StopsAt a n (up_to (Some greatest) (c ∷ [])) e [] b)
  one_put (Ok x) event = (rw within (b, event, refl), tt)
  one_put (Err fault) event = (tt, record { done = []; one = c; behind = []; parts = rw within refl; runs = (b, event, refl) })

-- what holds of the fault holds of the error
pub err_is : {A E : Type 0} (P : E → Type 0) (result : Result A E) (e : E) → IsErr result → IsErrAnd result (λ x. x ≡ e) → P e → IfErr result P
err_is P (Ok x) e err is p = absurd (let never = err in cc)
err_is P (Err x) e err is p = subst P (sym is) p

-- contexts up to a CID were put, and then more of them
pub puts_more : (n : ℕ) (limit : Option ℕ) (xs ys : List (ℕ × Record)) (a b c : Concentrator) → Runs a (puts_of n (up_to limit xs)) b → Runs b (puts_of n (up_to limit ys)) c → Runs a (puts_of n (up_to limit (xs ++ ys))) c
puts_more n limit xs ys a b c first second =
    subst (λ turns. Runs a turns c) (sym (map-append (put_turn Done n) (up_to limit xs) (up_to limit ys)) ∙ ap (puts_of n) (both limit))
    (runs_append (puts_of n (up_to limit xs)) (puts_of n (up_to limit ys)) a b c first second)
  where
    both : (limit : Option ℕ) → up_to limit xs ++ up_to limit ys ≡ up_to limit (xs ++ ys)
    both None = refl
    both (Some greatest) = sym (filter-append (λ (c : ℕ × Record). nat_le c.0 greatest) xs ys)

-- of contexts up to a CID some were put, then one more, if it is up to the CID, and the put was refused
pub stops_more : (n greatest : ℕ) (xs ys zs : List (ℕ × Record)) (fault : PutFault) (a b c : Concentrator) → Runs a (puts_of n (up_to (Some greatest) xs)) b
    → StopsAt b n (up_to (Some greatest) ys) fault [] c → StopsAt a n (up_to (Some greatest) (xs ++ (ys ++ zs))) fault [] c
stops_more n greatest xs ys zs fault a b c first stops =
    let test : ℕ × Record → Bool = λ c. nat_le c.0 greatest in
    let last : List Turn = put_turn (NotPut fault) n stops.one ∷ [] in
    record {
      done = filter test xs ++ stops.done;
      one = stops.one;
      behind = stops.behind ++ filter test zs;
      parts =
          filter-append test xs (ys ++ zs) ∙ ap (λ more. filter test xs ++ more) (filter-append test ys zs ∙ ap (λ own. own ++ filter test zs) stops.parts ∙ append_assoc stops.done (stops.one ∷ stops.behind) (filter test zs))
          ∙ sym (append_assoc (filter test xs) stops.done (stops.one ∷ (stops.behind ++ filter test zs)));
      runs =
          subst (λ turns. Runs a turns c) (sym (append_assoc (puts_of n (filter test xs)) (puts_of n stops.done) last) ∙ ap (λ turns. turns ++ last) (sym (map-append (put_turn Done n) (filter test xs) stops.done)))
          (runs_append (puts_of n (filter test xs)) (puts_of n stops.done ++ last) a b c first stops.runs);
    }

-- then the link was reset
pub stops_reset : (n : ℕ) (cs : List (ℕ × Record)) (fault : PutFault) (answer : CallAnswer) (a b c : Concentrator) → StopsAt a n cs fault [] b → RunsCall b n Reset answer c → StopsAt a n cs fault (reset_turn answer n ∷ []) c
stops_reset n cs fault answer a b c stops event =
    let last : List Turn = put_turn (NotPut fault) n stops.one ∷ [] in
    record {
      done = stops.done;
      one = stops.one;
      behind = stops.behind;
      parts = stops.parts;
      runs = subst (λ turns. Runs a turns c) (append_assoc (puts_of n stops.done) last (reset_turn answer n ∷ [])) (runs_append (puts_of n stops.done ++ last) (reset_turn answer n ∷ []) a b c stops.runs (c, event, refl));
    }

-- so are links
pub puts_in_more : (settings : ℕ → Option LinkSetting) (links : List (ℕ × Link)) (one : ℕ × Link) (a b c : Concentrator) → Runs a (puts_in settings links) b
    → Runs b (puts_of one.0 (taken_of (settings one.0) one.1)) c → Runs a (puts_in settings (links ++ one ∷ [])) c
puts_in_more settings links one a b c first second =
    let puts : ℕ × Link → List Turn = λ l. puts_of l.0 (taken_of (settings l.0) l.1) in
    subst (λ turns. Runs a turns c) (ap (λ turns. puts_in settings links ++ turns) (sym (append-nil (puts one))) ∙ sym (flat_map-append puts links (one ∷ [])))
    (runs_append (puts_in settings links) (puts one) a b c first second)

module _ (P : Turn → Type 0) where
  all_append : (xs ys : List Turn) → AllByRecursion P xs → AllByRecursion P ys → AllByRecursion P (xs ++ ys)
  all_append [] ys first second = second
  all_append (x ∷ xs) ys first second = (first.0, all_append xs ys first.1 second)

  module _ (holds : (n : ℕ) (c : ℕ × Record) → P (put_turn Done n c)) where
    pub all_puts : (n : ℕ) (cs : List (ℕ × Record)) → AllByRecursion P (puts_of n cs)
    all_puts n [] = tt
    all_puts n (c ∷ cs) = (holds n c, all_puts n cs)

    pub all_puts_in : (settings : ℕ → Option LinkSetting) (links : List (ℕ × Link)) → AllByRecursion P (puts_in settings links)
    all_puts_in settings [] = tt
    all_puts_in settings (l ∷ links) = all_append (puts_of l.0 (taken_of (settings l.0) l.1)) (puts_in settings links) (all_puts l.0 (taken_of (settings l.0) l.1)) (all_puts_in settings links)

-- ---- Puts and resets keep the settings

abbrev pub IsPutOrReset : Call → Type 0
IsPutOrReset (Put c r) = Unit {0}
IsPutOrReset Reset = Unit {0}
IsPutOrReset e = ⊥

abbrev pub KeepsTurn : Turn → Type 0
KeepsTurn t = IsPutOrReset t.call

module _ (old new : Concentrator) (link : ℕ) (e : Call) (a : CallAnswer) (event : RunsCall old link e a new) where
  here : LinkStep (view_at old link) e a (view_at new link)
  here = let mine : (link == link) ≡ true = eq-eqb link link refl in rw mine at (event.each link)

  elsewhere : (l : ℕ) → l ≢ link → view_at new l ≡ view_at old l
  elsewhere l other = let not : (link == l) ≡ false = ne_eqb link l (λ e. other (sym e)) in rw not at (event.each l)

set_kept : (e : Call) (a : CallAnswer) (set : Option LinkSetting) → IsPutOrReset e → setting_made e a set ≡ set
set_kept (Put c r) a set is = refl
set_kept Reset a set is = refl
set_kept e a set is = absurd is

order_kept : (e : Call) (a : CallAnswer) (set : Option LinkSetting) (old new : List LinkSetting) → IsPutOrReset e → LinksOrdered e a set old new → new ≡ old
order_kept (Put c r) a set old new is links = links
order_kept Reset a set old new is links = links
order_kept e a set old new is links = absurd is

pub keep_settings : (turns : List Turn) (old new : Concentrator) → AllByRecursion KeepsTurn turns → Runs old turns new → KeepsSettings old new
keep_settings [] old new all run = record { each = λ l. ap (λ k. setting_at k l) run; in_order = ap settings_in_order run }
keep_settings (t ∷ turns) old new all (mid, event, rest) =
    let later = keep_settings turns mid new all.1 rest in
    let own = (here old mid t.link t.call t.answer event).setting ∙ set_kept t.call t.answer (setting_at old t.link) all.0 in
    record {
      each = λ l. later.each l ∙ by_number (λ l. setting_at mid l ≡ setting_at old l) t.link own (λ l other. ap (λ (v : View). v.setting) (elsewhere old mid t.link t.call t.answer event l other)) l;
      in_order = later.in_order ∙ order_kept t.call t.answer (setting_at old t.link) (settings_in_order old) (settings_in_order mid) all.0 event.links;
    }

-- ---- What a link holds

-- a link's records are these, in this order
pub record IsHeldAt (k : Concentrator) (link : ℕ) (contexts : List (ℕ × Record)) : Type 0 where
  pub identifiers : identifiers_at k link ≡ firsts contexts
  pub records : (cid : ℕ) → record_at k link cid ≡ lookup (nat_eq cid) contexts

pub same : (n : ℕ) → nat_eq n n ≡ true
same n = grind (arith, nat_tests)

none_is : (o : Option Record) → false ≡ is_some o → o ≡ None
none_is None e = refl
none_is (Some r) e = absurd (let f : false ≡ true = e in cc)

-- a link without CIDs holds none, and so does one without records
pub holds_nothing : (k : Concentrator) (link : ℕ) → identifiers_at k link ≡ [] → IsHeldAt k link []
holds_nothing k link is = record { identifiers = is; records = λ c. none_is (record_at k link c) (sym (ap (list_any (nat_eq c)) is) ∙ listed_at k link c) }

pub holds_none : (k : Concentrator) (link : ℕ) → ((cid : ℕ) → record_at k link cid ≡ None) → IsHeldAt k link []
holds_none k link none = record { identifiers = by (identifiers_at k link) (λ c. listed_at k link c ∙ ap is_some (none c)); records = none }
  where
    by : (cids : List ℕ) → ((c : ℕ) → list_any (nat_eq c) cids ≡ false) → cids ≡ []
    by [] h = refl
    by (c ∷ cids) h = absurd (let f : true ≡ false = ap (λ b. b || list_any (nat_eq c) cids) (sym (same c)) ∙ h c in cc)

-- what is looked up behind a list
lookup_more : (cid : ℕ) (held more : List (ℕ × Record)) → lookup (nat_eq cid) held ≡ None → lookup (nat_eq cid) (held ++ more) ≡ lookup (nat_eq cid) more
lookup_more cid [] more none = refl
lookup_more cid (c ∷ held) more none = by (λ none. lookup_more cid held more none) (nat_eq cid c.0) none
  where
    by : (lookup (nat_eq cid) held ≡ None → lookup (nat_eq cid) (held ++ more) ≡ lookup (nat_eq cid) more) → (b : Bool)
        → cond b (Some c.1) (lookup (nat_eq cid) held) ≡ None → cond b (Some c.1) (lookup (nat_eq cid) (held ++ more)) ≡ lookup (nat_eq cid) more
    by later true none = absurd (let never : ◌≡◌ {A = Option Record} (Some c.1) None = none in cc)
    by later false none = later none

-- of another CID behind a list
lookup_other : (cid : ℕ) (one : ℕ × Record) (held : List (ℕ × Record)) → nat_eq cid one.0 ≡ false → lookup (nat_eq cid) (held ++ one ∷ []) ≡ lookup (nat_eq cid) held
lookup_other cid one [] other = ap (λ b. cond b (Some one.1) None) other
lookup_other cid one (c ∷ held) other = ap (λ found. cond (nat_eq cid c.0) (Some c.1) found) (lookup_other cid one held other)

-- a put is done where the CID has no record, which is then this
done_put : (c : ℕ) (r : Record) (before after : Option Seen) → Makes c (LonePut r) before (Told Done) after → (held_of before ≡ None) × (held_of after ≡ Some r)
done_put c r None after p = absurd (let f : ◌≡◌ {A = LoneAnswer} (Told Done) (Told (NotPut puts.NoLink)) = p.0 in cc)
done_put c r (Some v) after p = by (nat_le c v.settings.max_cid) v.held refl p
  where
    by : (within : Bool) (held : Option Record) → v.held ≡ held → GivesPut within held v r (Told Done) after → (v.held ≡ None) × (held_of after ≡ Some r)
    by false held is p = absurd (let f : ◌≡◌ {A = LoneAnswer} (Told Done) (Told (NotPut puts.CidRange)) = p.0 in cc)
    by true (Some old) is p = absurd (let f : ◌≡◌ {A = LoneAnswer} (Told Done) (Told (NotPut puts.HasRecord)) = p.0 in cc)
    by true None is p = (is, ap held_of p.1)

goes_last : (before after : Option Record) (r : Record) (c : ℕ) (old new : List ℕ) → before ≡ None → after ≡ Some r → GoesLast before after c old new → new ≡ old ++ c ∷ []
goes_last None (Some x) r c old new none is goes = goes
goes_last None None r c old new none is goes = absurd (let f : ◌≡◌ {A = Option Record} None (Some r) = is in cc)
goes_last (Some x) after r c old new none is goes = absurd (let f : ◌≡◌ {A = Option Record} (Some x) None = none in cc)

put_held : (n : ℕ) (one : ℕ × Record) (held : List (ℕ × Record)) (old new : Concentrator) → RunsCall old n (Put one.0 one.1) Done new → IsHeldAt old n held → IsHeldAt new n (held ++ one ∷ [])
put_held n one held old new event is = record {
  identifiers =
      goes_last (held_of (seen_at old n one.0)) (held_of (seen_at new n one.0)) one.1 one.0 (identifiers_at old n) (identifiers_at new n) own.0 own.1 step.order ∙ ap (λ ids. ids ++ one.0 ∷ []) is.identifiers
      ∙ sym (map-append (λ (c : ℕ × Record). c.0) held (one ∷ []));
  records = λ c. by c (one.0 == c) refl;
} where
  step : LinkStep (view_at old n) (Put one.0 one.1) Done (view_at new n)
  step = here old new n (Put one.0 one.1) Done event

  own : (held_of (seen_at old n one.0) ≡ None) × (held_of (seen_at new n one.0) ≡ Some one.1)
  own = done_put one.0 one.1 (seen_at old n one.0) (seen_at new n one.0) (let mine : (one.0 == one.0) ≡ true = eq-eqb one.0 one.0 refl in rw mine at (step.each one.0))

  none : lookup (nat_eq one.0) held ≡ None
  none = sym (is.records one.0) ∙ sym (held_at old n one.0) ∙ own.0

  by : (c : ℕ) (b : Bool) → (one.0 == c) ≡ b → record_at new n c ≡ lookup (nat_eq c) (held ++ one ∷ [])
  by c true e =
      subst (λ c. record_at new n c ≡ lookup (nat_eq c) (held ++ one ∷ [])) (eqb-true one.0 c e)
      (sym (held_at new n one.0) ∙ own.1 ∙ sym (lookup_more one.0 held (one ∷ []) none ∙ ap (λ b. cond b (Some one.1) None) (same one.0)))
  by c false e =
      let stays : seen_at new n c ≡ seen_at old n c = rw e at (step.each c) in
      sym (held_at new n c) ∙ ap held_of stays ∙ held_at old n c ∙ is.records c ∙ sym (lookup_other c one held (grind (arith, nat_tests, e)))

pub puts_held : (n : ℕ) (cs held : List (ℕ × Record)) (old new : Concentrator) → Runs old (puts_of n cs) new → IsHeldAt old n held → IsHeldAt new n (held ++ cs)
puts_held n [] held old new run is = subst (IsHeldAt new n) (sym (append-nil held)) (subst (λ k. IsHeldAt k n held) (sym run) is)
puts_held n (c ∷ cs) held old new (mid, event, rest) is = subst (IsHeldAt new n) (append_assoc held (c ∷ []) cs) (puts_held n cs (held ++ c ∷ []) mid new rest (put_held n c held old mid event is))

-- the other links see the same
puts_elsewhere : (n : ℕ) (cs : List (ℕ × Record)) (old new : Concentrator) → Runs old (puts_of n cs) new → (l : ℕ) → l ≢ n → view_at new l ≡ view_at old l
puts_elsewhere n [] old new run l other = ap (λ k. view_at k l) run
puts_elsewhere n (c ∷ cs) old new (mid, event, rest) l other = puts_elsewhere n cs mid new rest l other ∙ elsewhere old mid n (Put c.0 c.1) Done event l other

held_view : (old new : Concentrator) (l : ℕ) (held : List (ℕ × Record)) → view_at new l ≡ view_at old l → IsHeldAt old l held → IsHeldAt new l held
held_view old new l held stays is = record {
  identifiers = ap (λ (v : View). v.cids) stays ∙ is.identifiers;
  records = λ c. sym (held_at new l c) ∙ ap (λ (v : View). held_of (v.seen c)) stays ∙ held_at old l c ∙ is.records c;
}

-- these contexts, if they are of this link
abbrev pub own : ℕ → List (ℕ × Record) → ℕ → List (ℕ × Record)
own number contexts link = if nat_eq number link then contexts else []

-- what is taken for a link
abbrev pub taken_at : (ℕ → Option LinkSetting) → List (ℕ × Link) → ℕ → List (ℕ × Record)
taken_at settings links link = flat_map (λ (l : ℕ × Link). own l.0 (taken_of (settings l.0) l.1) link) links

own_held : (n l : ℕ) (cs held : List (ℕ × Record)) (old new : Concentrator) → Runs old (puts_of n cs) new → IsHeldAt old l held → IsHeldAt new l (held ++ own n cs l)
own_held n l cs held old new run is = by (nat_eq n l) refl
  where
    by : (b : Bool) → nat_eq n l ≡ b → IsHeldAt new l (held ++ (if b then cs else []))
    by true e =
        let at : n ≡ l = grind (arith, nat_tests) in
        subst (λ l. IsHeldAt new l (held ++ cs)) at (puts_held n cs held old new run (subst (λ l. IsHeldAt old l held) (sym at) is))
    by false e =
        let other : l ≢ n = grind (arith, nat_tests) in
        subst (IsHeldAt new l) (sym (append-nil held)) (held_view old new l held (puts_elsewhere n cs old new run l other) is)

pub links_held : (settings : ℕ → Option LinkSetting) (links : List (ℕ × Link)) (l : ℕ) (held : List (ℕ × Record)) (old new : Concentrator) → Runs old (puts_in settings links) new
    → IsHeldAt old l held → IsHeldAt new l (held ++ taken_at settings links l)
links_held settings [] l held old new run is = subst (IsHeldAt new l) (sym (append-nil held)) (subst (λ k. IsHeldAt k l held) (sym run) is)
links_held settings (one ∷ links) l held old new run is =
    let cs = taken_of (settings one.0) one.1 in
    let (mid, first, rest) = run_split (puts_of one.0 cs) (puts_in settings links) old new run in
    subst (IsHeldAt new l) (append_assoc held (own one.0 cs l) (taken_at settings links l)) (links_held settings links l (held ++ own one.0 cs l) mid new rest (own_held one.0 l cs held old mid first is))

-- ---- A put is refused for lack of memory

-- contexts with CIDs that are apart, and within the greatest of the setting
pub record ArePuttable (s : LinkSetting) (contexts : List (ℕ × Record)) : Type 0 where
  pub apart : IsDistinct nat_eq (firsts contexts)
  pub within : AllByRecursion (λ (c : ℕ × Record). nat_le c.0 s.settings.max_cid ≡ true) contexts

all_at : (P : ℕ × Record → Type 0) (xs ys : List (ℕ × Record)) (one : ℕ × Record) → AllByRecursion P (xs ++ one ∷ ys) → P one
all_at P [] ys one all = all.0
all_at P (x ∷ xs) ys one all = all_at P xs ys one all.1

firsts_at : (n : ℕ) (xs ys : List (ℕ × Record)) (one : ℕ × Record) → AllByRecursion (λ m. nat_eq n m ≡ false) (firsts (xs ++ one ∷ ys)) → nat_eq n one.0 ≡ false
firsts_at n [] ys one all = all.0
firsts_at n (x ∷ xs) ys one all = firsts_at n xs ys one all.1

-- none of those before has the CID
lookup_before : (xs ys : List (ℕ × Record)) (one : ℕ × Record) → IsDistinct nat_eq (firsts (xs ++ one ∷ ys)) → lookup (nat_eq one.0) xs ≡ None
lookup_before [] ys one apart = refl
lookup_before (x ∷ xs) ys one apart =
    let apart_x = firsts_at x.0 xs ys one (IsDistinct-head nat_eq x.0 (firsts (xs ++ one ∷ ys)) apart) in
    let other : nat_eq one.0 x.0 ≡ false = grind (arith, nat_tests, apart_x) in
    ap (λ b. cond b (Some x.1) (lookup (nat_eq one.0) xs)) other ∙ lookup_before xs ys one (IsDistinct-tail nat_eq x.0 (firsts (xs ++ one ∷ ys)) apart)

put_free : (within : Bool) (held : Option Record) (v : Seen) (r : Record) (y : LoneAnswer) (after : Option Seen) → within ≡ true → held ≡ None → GivesPut within held v r y after → y ≡ Told Done
put_free true None v r y after fits none p = p.0
put_free true (Some x) v r y after fits none p = absurd (let f : ◌≡◌ {A = Option Record} (Some x) None = none in cc)
put_free false held v r y after fits none p = absurd (let f : false ≡ true = fits in cc)

put_poor : (c : ℕ) (r : Record) (v : Seen) (fault : PutFault) (after : Option Seen) → nat_le c v.settings.max_cid ≡ true → v.held ≡ None → Owns c (LonePut r) (Some v) (NotPut fault) after → fault ≡ puts.NoMemory
put_poor c r v puts.NoMemory after within none p = refl
put_poor c r v puts.NoLink after within none p = absurd (let f : Told (NotPut puts.NoLink) ≡ Told Done = put_free (nat_le c v.settings.max_cid) v.held v r _ after within none p in cc)
put_poor c r v puts.CidRange after within none p = absurd (let f : Told (NotPut puts.CidRange) ≡ Told Done = put_free (nat_le c v.settings.max_cid) v.held v r _ after within none p in cc)
put_poor c r v puts.HasRecord after within none p = absurd (let f : Told (NotPut puts.HasRecord) ≡ Told Done = put_free (nat_le c v.settings.max_cid) v.held v r _ after within none p in cc)

-- a link that is there is reset
reset_done : (c : ℕ) (v : Seen) (answer : Result Unit NoLink) (after : Option Seen) → Owns c LoneForget (Some v) (plain_answer answer) after → (plain_answer answer ≡ Done) × (held_of after ≡ None)
reset_done c v (Ok x) after p = (refl, ap held_of p.1)
reset_done c v (Err e) after p = absurd (let f : Told NoSuchLink ≡ Told Done = p.0 in cc)

seen_there : (k : Concentrator) (link c : ℕ) (s : LinkSetting) → setting_at k link ≡ Some s → seen_at k link c ≡ Some (record { settings = settings_of s c; held = record_at k link c })
seen_there k link c s there = ap (λ (v : View). v.seen c) (view_some k link s there)

-- An empty link was put into until a put was refused, and then reset: there was no memory, and all stays.
pub runs_out : (old new : Concentrator) (link : ℕ) (s : LinkSetting) (cs : List (ℕ × Record)) (fault : PutFault) (answer : Result Unit NoLink) → IsReady old link s → ArePuttable s cs
    → StopsAt old link cs fault (reset_turn (plain_answer answer) link ∷ []) new → StopsAt old link cs puts.NoMemory (reset_turn Done link ∷ []) new × KeepsAll old new
runs_out old new link s cs fault answer ready puttable stops =
    let one = stops.one in
    let last : List Turn = put_turn (NotPut fault) link one ∷ reset_turn (plain_answer answer) link ∷ [] in
    let (mid, first, (low, refused, (end, reset, is))) = run_split (puts_of link stops.done) last old new stops.runs in
    let before = holds_nothing old link ready.empty in
    let all = all_puts KeepsTurn (λ n c. tt) link stops.done in
    let there : setting_at mid link ≡ Some s = (keep_settings (puts_of link stops.done) old mid all first).each link ∙ ready.there in
    let low_there : setting_at low link ≡ Some s = (here mid low link (Put one.0 one.1) (NotPut fault) refused).setting ∙ there in
    let fresh = lookup_before stops.done stops.behind one (subst (λ cs. IsDistinct nat_eq (firsts cs)) stops.parts puttable.apart) in
    let within = all_at (λ (c : ℕ × Record). nat_le c.0 s.settings.max_cid ≡ true) stops.done stops.behind one (subst (AllByRecursion (λ (c : ℕ × Record). nat_le c.0 s.settings.max_cid ≡ true)) stops.parts puttable.within) in
    let none : record_at mid link one.0 ≡ None = (puts_held link stops.done [] old mid first before).records one.0 ∙ fresh in
    let mine : (one.0 == one.0) ≡ true = eq-eqb one.0 one.0 refl in
    let own : Owns one.0 (LonePut one.1) (seen_at mid link one.0) (NotPut fault) (seen_at low link one.0) = rw mine at ((here mid low link (Put one.0 one.1) (NotPut fault) refused).each one.0) in
    let poor : fault ≡ puts.NoMemory =
    put_poor one.0 one.1 (record { settings = settings_of s one.0; held = record_at mid link one.0 }) fault (seen_at low link one.0) within none
    (subst (λ v. Owns one.0 (LonePut one.1) v (NotPut fault) (seen_at low link one.0)) (seen_there mid link one.0 s there) own) in
    let resets : (c : ℕ) → (plain_answer answer ≡ Done) × (held_of (seen_at end link c) ≡ None) = λ c. reset_done c (record { settings = settings_of s c; held = record_at low link c }) answer (seen_at end link c)
    (subst (λ v. Owns c LoneForget v (plain_answer answer) (seen_at end link c)) (seen_there low link c s low_there) ((here low end link Reset (plain_answer answer) reset).each c)) in
    let none_left : (c : ℕ) → record_at new link c ≡ None = λ c. ap (λ k. record_at k link c) is ∙ sym (held_at end link c) ∙ (resets c).1 in
    let others : (l : ℕ) → l ≢ link → view_at new l ≡ view_at old l = λ l other. ap (λ k. view_at k l) is ∙ elsewhere low end link Reset (plain_answer answer) reset l other
    ∙ elsewhere mid low link (Put one.0 one.1) (NotPut fault) refused l other ∙ puts_elsewhere link stops.done old mid first l other in (
      record {
        done = stops.done;
        one = one;
        behind = stops.behind;
        parts = stops.parts;
        runs = subst (λ f. Runs old (puts_of link stops.done ++ put_turn (NotPut f) link one ∷ reset_turn Done link ∷ []) new) poor
            (subst (λ a. Runs old (puts_of link stops.done ++ put_turn (NotPut fault) link one ∷ reset_turn a link ∷ []) new) (resets 0).0 stops.runs);
      },
      record {
        settings = keep_settings (puts_of link stops.done ++ last) old new (all_append KeepsTurn (puts_of link stops.done) last all (tt, (tt, tt))) stops.runs;
        records = λ l c. by_number (λ l. record_at new l c ≡ record_at old l c) link (none_left c ∙ sym (before.records c))
            (λ l other. sym (held_at new l c) ∙ ap (λ (v : View). held_of (v.seen c)) (others l other) ∙ held_at old l c) l;
        order = by_number (λ l. identifiers_at new l ≡ identifiers_at old l) link ((holds_none new link none_left).identifiers ∙ sym before.identifiers) (λ l other. ap (λ (v : View). v.cids) (others l other));
      },
    )
