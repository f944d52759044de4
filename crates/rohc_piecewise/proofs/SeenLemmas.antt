-- What stays once one more concentrator was seen, and what is gathered of one more CID.
use Rattle.std.proofs.Common.{◌≡◌, ℕ, zero, suc, ◌+◌, ◌<◌, ◌≤◌, List, [], ◌∷◌, ◌++◌, length, Bool, true, false, cond, Option, Some, None, refl, sym, ap, subst, ◌∙◌, arith, append_assoc, append-nil, nat_eq}
use Rattle.std.specs.Prelude.{All}
use Rattle.std.specs.Map.{lookup}
use Rattle.std.proofs.lemmas.Bool.Decides.{nat_tests}
use Rattle.std.proofs.lemmas.List.Elements.{All-head, All-tail, All-nil, All-cons, All-append}
use Rattle.rohc_context.specs.Record.{Record}
use Rattle.rohc_concentrator.specs.declared.concentrator.Concentrator.{Concentrator}
use Rattle.rohc_saved.specs.Form.{Link}
use Rattle.rohc_piecewise.specs.Piecewise.{Head, held_under, IsAscending, OneOf, IsGathered, AreSaved}
use Rattle.rohc_piecewise.specs.Between.{one_of, held_from}
use Rattle.rohc_piecewise.specs.UnderWay.{IsGatheredBelow}

-- ---- One more concentrator was seen

pub one_more : (seen more : List Concentrator) (k : Concentrator) → OneOf seen k → OneOf (seen ++ more) k
one_more seen more k one = record {
  before = one.before;
  behind = one.behind ++ more;
  parts = ap (λ ks. ks ++ more) one.parts ∙ append_assoc one.before (k ∷ one.behind) more;
}

pub last_one : (seen : List Concentrator) (k : Concentrator) → OneOf (seen ++ k ∷ []) k
last_one seen k = record { before = seen; behind = []; parts = refl }

gathered_more : (seen more : List Concentrator) (head : Head) (contexts : List (ℕ × Record)) → IsGathered seen head contexts → IsGathered (seen ++ more) head contexts
gathered_more seen more head contexts h = record {
  ascending = h.ascending;
  within = h.within;
  each = λ cid low. let e = h.each cid low in (e.0, one_more seen more e.0 e.1, e.2);
}

pub below_more : (seen more : List Concentrator) (head : Head) (next : ℕ) (contexts : List (ℕ × Record)) → IsGatheredBelow seen head next contexts → IsGatheredBelow (seen ++ more) head next contexts
below_more seen more head next contexts h = record {
  ascending = h.ascending;
  within = h.within;
  each = λ cid low. let e = h.each cid low in (e.0, one_more seen more e.0 e.1, e.2);
}

pub saved_more : (seen more : List Concentrator) (heads : List Head) (links : List (ℕ × Link)) → AreSaved seen heads links → AreSaved (seen ++ more) heads links
saved_more seen more [] [] h = h
saved_more seen more (head ∷ heads) (link ∷ links) h =
    (h.0, h.1, h.2, gathered_more seen more head link.1.contexts h.3, saved_more seen more heads links h.4)
saved_more seen more [] (link ∷ links) h = absurd h
saved_more seen more (head ∷ heads) [] h = absurd h

-- ---- One more link was looked at

pub saved_last : (seen : List Concentrator) (heads : List Head) (links : List (ℕ × Link)) (head : Head) (link : ℕ × Link) → AreSaved seen heads links → AreSaved seen (head ∷ []) (link ∷ []) → AreSaved seen (heads ++ head ∷ []) (links ++ link ∷ [])
saved_last seen [] [] head link h one = one
saved_last seen (first ∷ heads) (other ∷ links) head link h one =
    (h.0, h.1, h.2, h.3, saved_last seen heads links head link h.4 one)
saved_last seen [] (other ∷ links) head link h one = absurd h
saved_last seen (first ∷ heads) [] head link h one = absurd h

pub saved_length : (seen : List Concentrator) (heads : List Head) (links : List (ℕ × Link)) → AreSaved seen heads links → length links ≡ length heads
saved_length seen [] [] h = refl
saved_length seen (head ∷ heads) (link ∷ links) h = ap suc (saved_length seen heads links h.4)
saved_length seen [] (link ∷ links) h = absurd h
saved_length seen (head ∷ heads) [] h = absurd h

-- ---- One more CID was looked at

ascending_last : (cs : List (ℕ × Record)) (next : ℕ) (r : Record) → IsAscending cs → All (λ (c : ℕ × Record). c.0 < next) cs → IsAscending (cs ++ (next, r) ∷ [])
ascending_last [] next r h low = tt
ascending_last (c ∷ []) next r h low = (All-head (λ (c : ℕ × Record). c.0 < next) c [] low, tt)
ascending_last (c ∷ d ∷ more) next r h low =
    (h.0, ascending_last (d ∷ more) next r h.1 (All-tail (λ (c : ℕ × Record). c.0 < next) c (d ∷ more) low))

ascending_one : (cs : List (ℕ × Record)) (next : ℕ) (found : Option Record) → IsAscending cs → All (λ (c : ℕ × Record). c.0 < next) cs → IsAscending (cs ++ one_of next found)
ascending_one cs next None h low = subst (λ cs. IsAscending cs) (sym (append-nil cs)) h
ascending_one cs next (Some r) h low = ascending_last cs next r h low

raise : (cs : List (ℕ × Record)) (next : ℕ) → All (λ (c : ℕ × Record). c.0 < next) cs → All (λ (c : ℕ × Record). c.0 < next + 1) cs
raise [] next low = All-nil (λ (c : ℕ × Record). c.0 < next + 1)
raise (c ∷ cs) next low =
    let first = All-head (λ (c : ℕ × Record). c.0 < next) c cs low in
    All-cons (λ (c : ℕ × Record). c.0 < next + 1) c cs (omega (arith, first)) (raise cs next (All-tail (λ (c : ℕ × Record). c.0 < next) c cs low))

within_one : (next : ℕ) (found : Option Record) → All (λ (c : ℕ × Record). c.0 < next + 1) (one_of next found)
within_one next None = All-nil (λ (c : ℕ × Record). c.0 < next + 1)
within_one next (Some r) = All-cons (λ (c : ℕ × Record). c.0 < next + 1) (next, r) [] (omega arith) (All-nil (λ (c : ℕ × Record). c.0 < next + 1))

lookup_one : (cid next : ℕ) (found : Option Record) → cid < next → lookup (nat_eq cid) (one_of next found) ≡ None
lookup_one cid next None low = refl
lookup_one cid next (Some r) low = let other : nat_eq cid next ≡ false = grind (arith, nat_tests, low) in rw other refl

lookup_other : (cs : List (ℕ × Record)) (cid next : ℕ) (found : Option Record) → cid < next → lookup (nat_eq cid) (cs ++ one_of next found) ≡ lookup (nat_eq cid) cs
lookup_other [] cid next found low = lookup_one cid next found low
lookup_other (c ∷ cs) cid next found low = ap (λ rest. cond (nat_eq cid c.0) (Some c.1) rest) (lookup_other cs cid next found low)

lookup_this : (next : ℕ) (found : Option Record) → lookup (nat_eq next) (one_of next found) ≡ found
lookup_this next None = refl
lookup_this next (Some r) = let same : nat_eq next next ≡ true = grind (arith, nat_tests) in rw same refl

lookup_last : (cs : List (ℕ × Record)) (next : ℕ) (found : Option Record) → All (λ (c : ℕ × Record). c.0 < next) cs → lookup (nat_eq next) (cs ++ one_of next found) ≡ found
lookup_last [] next found low = lookup_this next found
lookup_last (c ∷ cs) next found low =
    let first = All-head (λ (c : ℕ × Record). c.0 < next) c cs low in
    let other : nat_eq next c.0 ≡ false = grind (arith, nat_tests, first) in
    rw other (lookup_last cs next found (All-tail (λ (c : ℕ × Record). c.0 < next) c cs low))

below_one : (seen : List Concentrator) (k : Concentrator) (head : Head) (next : ℕ) (cs : List (ℕ × Record)) → OneOf seen k → IsGatheredBelow seen head next cs → IsGatheredBelow seen head (next + 1) (cs ++ one_of next (held_under k head next))
below_one seen k head next cs one h = record {
  ascending = ascending_one cs next (held_under k head next) h.ascending h.within;
  within = All-append (λ (c : ℕ × Record). c.0 < next + 1) cs (one_of next (held_under k head next)) (raise cs next h.within) (within_one next (held_under k head next));
  each = λ cid low. by cid low (nat_eq cid next) refl;
}
  where
    by : (cid : ℕ) → cid < next + 1 → (b : Bool) → nat_eq cid next ≡ b → (at : Concentrator) × OneOf seen at × (lookup (nat_eq cid) (cs ++ one_of next (held_under k head next)) ≡ held_under at head cid)
    by cid low true e =
        let same : cid ≡ next = grind (arith, nat_tests, e) in
        (k, one, subst (λ cid. lookup (nat_eq cid) (cs ++ one_of next (held_under k head next)) ≡ held_under k head cid) (sym same) (lookup_last cs next (held_under k head next) h.within))
    by cid low false e =
        let less : cid < next = grind (arith, nat_tests, e, low) in
        let before = h.each cid less in
        (before.0, before.1, lookup_other cs cid next (held_under k head next) less ∙ before.2)

-- one more CID behind so many
pub held_next : (k : Concentrator) (head : Head) (from n : ℕ) → held_from k head from n ++ one_of (from + n) (held_under k head (from + n)) ≡ held_from k head from (n + 1)
held_next k head from n = let e : suc n ≡ n + 1 = omega arith in subst (λ m. held_from k head from n ++ one_of (from + n) (held_under k head (from + n)) ≡ held_from k head from m) e refl

-- so many more CIDs were looked at
pub below_from : (seen : List Concentrator) (k : Concentrator) (head : Head) (next cids : ℕ) (cs : List (ℕ × Record)) → OneOf seen k → IsGatheredBelow seen head next cs → IsGatheredBelow seen head (next + cids) (cs ++ held_from k head next cids)
below_from seen k head next zero cs one h = subst (λ cs. IsGatheredBelow seen head (next + 0) cs) (sym (append-nil cs)) (subst (λ n. IsGatheredBelow seen head n cs) (omega arith) h)
below_from seen k head next (suc cids) cs one h =
    let front = below_from seen k head next cids cs one h in
    let all = below_one seen k head (next + cids) (cs ++ held_from k head next cids) one front in
    subst (λ n. IsGatheredBelow seen head n (cs ++ held_from k head next (suc cids))) (omega arith)
    (subst (λ cs. IsGatheredBelow seen head (next + cids + 1) cs) (append_assoc cs (held_from k head next cids) (one_of (next + cids) (held_under k head (next + cids)))) all)

-- all CIDs of the link were looked at
pub gathered_all : (seen : List Concentrator) (head : Head) (next : ℕ) (cs : List (ℕ × Record)) → next ≡ head.greatest + 1 → IsGatheredBelow seen head next cs → IsGathered seen head cs
gathered_all seen head next cs end h = record {
  ascending = h.ascending;
  within = lower cs h.within;
  each = λ cid low. h.each cid (omega (arith, end, low));
}
  where
    lower : (cs : List (ℕ × Record)) → All (λ (c : ℕ × Record). c.0 < next) cs → All (λ (c : ℕ × Record). c.0 ≤ head.greatest) cs
    lower [] low = All-nil (λ (c : ℕ × Record). c.0 ≤ head.greatest)
    lower (c ∷ cs) low =
        let first = All-head (λ (c : ℕ × Record). c.0 < next) c cs low in
        All-cons (λ (c : ℕ × Record). c.0 ≤ head.greatest) c cs (omega (arith, first, end)) (lower cs (All-tail (λ (c : ℕ × Record). c.0 < next) c cs low))
