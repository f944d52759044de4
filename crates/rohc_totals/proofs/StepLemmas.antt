-- One line more, told of all totals.
use Rattle.std.proofs.Common.{◌≡◌, ℕ, ◌+◌, ◌<◌, List, [], ◌∷◌, ◌++◌, length, length-append, Bool, true, false, cond, ◌&&◌, ◌==◌, if◌then◌else◌, Option, Some, None, count_by, append-nil, arith, refl, sym, ◌∙◌, ap, subst, eqb-true, eq-eqb, filter, ◌≤◌}
use Rattle.std.specs.Option.{option_map, option_and_then, is_some}
use Rattle.std.proofs.lemmas.List.Sums.{sum_by-cons}
use Rattle.rohc_context.specs.declared.refusal.Refusal.{Refusal}
use Rattle.rohc_links.specs.Limits.{counted}
use Rattle.rohc_totals.specs.declared.kind.AnswerLine.{AnswerLine}
use Rattle.rohc_totals.specs.declared.call.CallTotals.{CallTotals}
use Rattle.rohc_totals.specs.declared.totals.LinkTotals.{LinkTotals}
use Rattle.rohc_totals.specs.declared.totals.Totals.{Totals}
use Rattle.rohc_totals.specs.Kind.{refusal_of, is_of_kind}
use Rattle.rohc_totals.specs.Counted.{count_in, tally, count_after, first_of, since_with, since_after, refused_with, refused_after, later_of}
use Rattle.rohc_totals.specs.Steps.{Advances, StepsTo, call_in, link_totals, call_at, LinkStepsTo, TotalsStep, strange_after}
use Rattle.rohc_totals.specs.Totals.{Numbered, numbered, names, is_link, is_call, call_lines, delivers, refuses, refusals_of, after_last, first_by, last_in, shown, IsCallOf, IsCall, IsLinkOf, is_strange, AreTotals}
use Rattle.rohc_totals.proofs.PushLemmas.{tally-push, count_by-push, after_last-hit, after_last-miss, first_by-push, or_else, last-push, numbered-push, filter-push}

-- the refusals since the last delivery begin where they began, or here
begins : (r : Option Refusal) (old : Option Numbered) (e : Numbered) → option_map shown (or_else old (if is_some r then Some e else None)) ≡ since_with r (shown e) (option_map shown old)
begins None None e = refl
begins None (Some x) e = refl
begins (Some r) None e = refl
begins (Some r) (Some x) e = refl

counts_with : (r : Option Refusal) (n : ℕ) → (if is_some r then counted n 1 else n) ≡ refused_with r n
counts_with None n = refl
counts_with (Some r) n = refl

since_push : (own : List Numbered) (e : Numbered) → option_map shown (first_by refuses (after_last delivers (own ++ e ∷ []))) ≡ since_after e.1.kind (shown e) (option_map shown (first_by refuses (after_last delivers own)))
since_push own e = elim (delivers e) as (λ b. delivers e ≡ b → option_map shown (first_by refuses (after_last delivers (own ++ e ∷ []))) ≡ (if b then None else since_with (refusal_of e.1.kind) (shown e) (option_map shown (first_by refuses (after_last delivers own))))) [
  | true ↦ λ hit. ap (λ t. option_map shown (first_by refuses t)) (after_last-hit delivers own e hit)
  | false ↦ λ miss. ap (λ t. option_map shown (first_by refuses t)) (after_last-miss delivers own e miss)
      ∙ ap (option_map shown) (first_by-push refuses (after_last delivers own) e)
      ∙ begins (refusal_of e.1.kind) (first_by refuses (after_last delivers own)) e
] refl

refused_push : (own : List Numbered) (e : Numbered) → tally refuses (after_last delivers (own ++ e ∷ [])) ≡ refused_after e.1.kind (tally refuses (after_last delivers own))
refused_push own e = elim (delivers e) as (λ b. delivers e ≡ b → tally refuses (after_last delivers (own ++ e ∷ [])) ≡ (if b then 0 else refused_with (refusal_of e.1.kind) (tally refuses (after_last delivers own)))) [
  | true ↦ λ hit. ap (tally refuses) (after_last-hit delivers own e hit)
  | false ↦ λ miss. ap (tally refuses) (after_last-miss delivers own e miss)
      ∙ tally-push refuses (after_last delivers own) e
      ∙ counts_with (refusal_of e.1.kind) (tally refuses (after_last delivers own))
] refl

call_push : (own : List Numbered) (e : Numbered) (counts : ℕ → ℕ) (since : Option ℕ) (refused : ℕ) (last : Option Refusal) (u : CallTotals) →
    ((k : ℕ) → counts k ≡ tally (λ (line : Numbered). is_of_kind k line.1) own) → since ≡ option_map shown (first_by refuses (after_last delivers own)) →
    refused ≡ tally refuses (after_last delivers own) → last ≡ last_in (refusals_of own) →
    Advances e.1.kind (shown e) counts since refused last u → IsCallOf (own ++ e ∷ []) u
call_push own e counts since refused last u ks ss rs ls a = record {
  counts = λ k. a.counts_are k ∙ ap (count_after e.1.kind k) (ks k) ∙ sym (tally-push (λ (line : Numbered). is_of_kind k line.1) own e);
  since = a.since_is ∙ ap (since_after e.1.kind (shown e)) ss ∙ sym (since_push own e);
  refused = a.refused_is ∙ ap (refused_after e.1.kind) rs ∙ sym (refused_push own e);
  last = a.last_is ∙ ap (λ l. later_of l (refusal_of e.1.kind)) ls ∙ sym (last-push own e);
}

some_lines : (own : List Numbered) (e : Numbered) → own ++ e ∷ [] ≡ [] → ⊥
some_lines [] e p = cc
some_lines (x ∷ xs) e p = cc

-- a call gets a line
call_steps : (own : List Numbered) (e : Numbered) (old new : Option CallTotals) → IsCall own old → StepsTo e.1.kind (shown e) old new → IsCall (own ++ e ∷ []) new
call_steps own e old None is s = absurd s
call_steps own e None (Some u) is s = (some_lines own e, call_push own e (λ k. 0) None 0 None u (λ k. rw is refl) (rw is refl) (rw is refl) (rw is refl) s)
call_steps own e (Some t) (Some u) is s = (some_lines own e, call_push own e (λ k. count_in t.counts k) t.since t.refused t.last u is.1.counts is.1.since is.1.refused is.1.last s)

-- ---- links

-- the line names the number
named : (n : ℕ) (o : Option ℕ) → names n o ≡ true → o ≡ Some n
named n None e = cc
named n (Some m) e = ap (λ (x : ℕ). Some x) (eqb-true m n e)

unnamed : (n : ℕ) (o : Option ℕ) → names n o ≡ false → o ≡ Some n → ⊥
unnamed n None e p = cc
unnamed n (Some m) e p = let same : m ≡ n = cc in let yes : (m == n) ≡ true = eq-eqb m n same in cc

both_hit : (a b : Bool) (n : ℕ) → a ≡ true → (if b then counted n 1 else n) ≡ (if a && b then counted n 1 else n)
both_hit a b n e = rw e refl

both_miss : (a b : Bool) (n : ℕ) → a ≡ false → (if a && b then counted n 1 else n) ≡ n
both_miss a b n e = rw e refl

-- a link's lines of a kind
abbrev pub is_of : ℕ → ℕ → AnswerLine → Bool
is_of l k line = is_link l line && is_of_kind k line

narrower : (a b : Bool) → cond (a && b) 1 0 ≤ cond a 1 0
narrower true true = omega arith
narrower true false = omega arith
narrower false b = omega arith

few : (l k : ℕ) (lines : List AnswerLine) → count_by (is_of l k) lines ≤ count_by (is_link l) lines
few l k [] = omega arith
few l k (x ∷ xs) =
    let rest = few l k xs in
    let own = sum_by-cons (λ (line : AnswerLine). cond (is_of l k line) 1 0) x xs in
    let all = sum_by-cons (λ (line : AnswerLine). cond (is_link l line) 1 0) x xs in
    omega (arith, rest, own, all, narrower (is_link l x) (is_of_kind k x))

none_of : (l k : ℕ) (lines : List AnswerLine) → count_by (is_link l) lines ≡ 0 → 0 ≡ tally (is_of l k) lines
none_of l k lines none = omega (arith, none, few l k lines)

-- a link's count of a kind, with a line of it
link_count : (lines : List AnswerLine) (x : AnswerLine) (l k before : ℕ) → is_link l x ≡ true →
    before ≡ tally (is_of l k) lines → count_after x.kind k before ≡ tally (is_of l k) (lines ++ x ∷ [])
link_count lines x l k before mine is =
    ap (count_after x.kind k) is ∙ both_hit (is_link l x) (is_of_kind k x) (tally (is_of l k) lines) mine ∙ sym (tally-push (is_of l k) lines x)

link_more : (lines : List AnswerLine) (x : AnswerLine) (l : ℕ) → is_link l x ≡ true → 0 < count_by (is_link l) (lines ++ x ∷ [])
link_more lines x l mine = let push = count_by-push (is_link l) lines x ∙ ap (λ b. count_by (is_link l) lines + cond b 1 0) mine in omega (arith, push)

link_same : (lines : List AnswerLine) (x : AnswerLine) (l : ℕ) → is_link l x ≡ false → count_by (is_link l) (lines ++ x ∷ []) ≡ count_by (is_link l) lines
link_same lines x l other = let push = count_by-push (is_link l) lines x ∙ ap (λ b. count_by (is_link l) lines + cond b 1 0) other in omega (arith, push)

-- a link gets a line
link_steps : (lines : List AnswerLine) (x : AnswerLine) (l number : ℕ) (old new : Option LinkTotals) → is_link l x ≡ true →
    IsLinkOf lines l old → LinkStepsTo x number old new → IsLinkOf (lines ++ x ∷ []) l new
link_steps lines x l number old None mine is s = absurd s
link_steps lines x l number None (Some u) mine is s =
    (link_more lines x l mine, λ k. s.counts_are k ∙ link_count lines x l k 0 mine (none_of l k lines is))
link_steps lines x l number (Some t) (Some u) mine is s =
    (link_more lines x l mine, λ k. s.counts_are k ∙ link_count lines x l k (count_in t.counts k) mine (is.1 k))

-- a link gets none
link_stays : (lines : List AnswerLine) (x : AnswerLine) (l : ℕ) (t : Option LinkTotals) → is_link l x ≡ false →
    IsLinkOf lines l t → IsLinkOf (lines ++ x ∷ []) l t
link_stays lines x l None other is = link_same lines x l other ∙ is
link_stays lines x l (Some t) other is = (
  (let same = link_same lines x l other in omega (arith, same, is.0)),
  λ k. is.1 k ∙ sym (tally-push (is_of l k) lines x ∙ both_miss (is_link l x) (is_of_kind k x) (tally (is_of l k) lines) other),
)

links_push : (lines : List AnswerLine) (x : AnswerLine) (old new : Totals) → TotalsStep x old new → (l : ℕ) →
    IsLinkOf lines l (link_totals old l) → IsLinkOf (lines ++ x ∷ []) l (link_totals new l)
links_push lines x old new step l is = elim (is_link l x) as (λ b. is_link l x ≡ b → IsLinkOf (lines ++ x ∷ []) l (link_totals new l)) [
  | true ↦ λ mine. link_steps lines x l new.lines (link_totals old l) (link_totals new l) mine is (step.own l (named l x.link mine))
  | false ↦ λ other. subst (λ t. IsLinkOf (lines ++ x ∷ []) l t) (sym (step.others l (unnamed l x.link other))) (link_stays lines x l (link_totals old l) other is)
] refl

-- ---- calls

abbrev pub in_link : ℕ → Option LinkTotals → Option CallTotals
in_link c o = option_and_then (λ (t : LinkTotals). call_in t c) o

calls_own : (own : List Numbered) (e : Numbered) (c : ℕ) (old new : Option LinkTotals) → LinkStepsTo e.1 (shown e) old new →
    e.1.cid ≡ Some c → IsCall own (in_link c old) → IsCall (own ++ e ∷ []) (in_link c new)
calls_own own e c old None s bears is = absurd s
calls_own own e c None (Some u) s bears is = call_steps own e None (call_in u c) is ((s.calls_step c).own bears)
calls_own own e c (Some t) (Some u) s bears is = call_steps own e (call_in t c) (call_in u c) is ((s.calls_step c).own bears)

calls_other : (own : List Numbered) (e : Numbered) (c : ℕ) (old new : Option LinkTotals) → LinkStepsTo e.1 (shown e) old new →
    (e.1.cid ≡ Some c → ⊥) → IsCall own (in_link c old) → IsCall own (in_link c new)
calls_other own e c old None s bears is = absurd s
calls_other own e c None (Some u) s bears is = subst (λ t. IsCall own t) (sym ((s.calls_step c).other bears)) is
calls_other own e c (Some t) (Some u) s bears is = subst (λ t. IsCall own t) (sym ((s.calls_step c).other bears)) is

own_push : (l c : ℕ) (lines : List AnswerLine) (x : AnswerLine) →
    call_lines l c (lines ++ x ∷ []) ≡ call_lines l c lines ++ (if is_call l c (length lines + 1, x) then (length lines + 1, x) ∷ [] else [])
own_push l c lines x = ap (filter (is_call l c)) (numbered-push lines x) ∙ filter-push (is_call l c) (numbered lines) (length lines + 1, x)

own_hit : (l c : ℕ) (lines : List AnswerLine) (x : AnswerLine) → is_link l x ≡ true → names c x.cid ≡ true →
    call_lines l c (lines ++ x ∷ []) ≡ call_lines l c lines ++ (length lines + 1, x) ∷ []
own_hit l c lines x p q = own_push l c lines x ∙ ap (λ b. call_lines l c lines ++ (if b then (length lines + 1, x) ∷ [] else [])) (ap (λ a. a && names c x.cid) p ∙ q)

own_miss : (l c : ℕ) (lines : List AnswerLine) (x : AnswerLine) → (is_link l x && names c x.cid) ≡ false →
    call_lines l c (lines ++ x ∷ []) ≡ call_lines l c lines
own_miss l c lines x p = own_push l c lines x ∙ ap (λ b. call_lines l c lines ++ (if b then (length lines + 1, x) ∷ [] else [])) p ∙ append-nil (call_lines l c lines)

calls_push : (lines : List AnswerLine) (x : AnswerLine) (old new : Totals) → TotalsStep x old new → new.lines ≡ shown (length lines + 1, x) → (l c : ℕ) →
    IsCall (call_lines l c lines) (call_at old l c) → IsCall (call_lines l c (lines ++ x ∷ [])) (call_at new l c)
calls_push lines x old new step number l c is =
    elim (is_link l x) as (λ b. is_link l x ≡ b → IsCall (call_lines l c (lines ++ x ∷ [])) (call_at new l c)) [
      | true ↦ λ mine.
          let s = subst (λ n. LinkStepsTo x n (link_totals old l) (link_totals new l)) number (step.own l (named l x.link mine)) in
          elim (names c x.cid) as (λ b. names c x.cid ≡ b → IsCall (call_lines l c (lines ++ x ∷ [])) (call_at new l c)) [
            | true ↦ λ bears. subst (λ own. IsCall own (call_at new l c)) (sym (own_hit l c lines x mine bears))
                (calls_own (call_lines l c lines) (length lines + 1, x) c (link_totals old l) (link_totals new l) s (named c x.cid bears) is)
            | false ↦ λ other. subst (λ own. IsCall own (call_at new l c)) (sym (own_miss l c lines x (ap (λ a. a && names c x.cid) mine ∙ other)))
                (calls_other (call_lines l c lines) (length lines + 1, x) c (link_totals old l) (link_totals new l) s (unnamed c x.cid other) is)
          ] refl
      | false ↦ λ other. subst (λ own. IsCall own (call_at new l c)) (sym (own_miss l c lines x (ap (λ a. a && names c x.cid) other)))
          (subst (λ o. IsCall (call_lines l c lines) (in_link c o)) (sym (step.others l (unnamed l x.link other))) is)
    ] refl

-- ---- all

strange_begins : (b : Bool) (old : Option Numbered) (e : Numbered) →
    option_map shown (or_else old (if b then Some e else None)) ≡ (if b then first_of (option_map shown old) (shown e) else option_map shown old)
strange_begins true None e = refl
strange_begins true (Some x) e = refl
strange_begins false None e = refl
strange_begins false (Some x) e = refl

strange_push : (lines : List AnswerLine) (x : AnswerLine) → option_map shown (first_by is_strange (numbered (lines ++ x ∷ [])))
    ≡ strange_after x.kind (shown (length lines + 1, x)) (option_map shown (first_by is_strange (numbered lines)))
strange_push lines x =
    ap (λ t. option_map shown (first_by is_strange t)) (numbered-push lines x)
    ∙ ap (option_map shown) (first_by-push is_strange (numbered lines) (length lines + 1, x))
    ∙ strange_begins (is_strange (length lines + 1, x)) (first_by is_strange (numbered lines)) (length lines + 1, x)

one_more : (lines : List AnswerLine) (x : AnswerLine) (before after : ℕ) → after ≡ counted before 1 → before ≡ counted 0 (length lines) →
    after ≡ counted 0 (length lines + 1)
one_more lines x before after p q = omega (arith, p, q)

-- the totals with one line more
pub totals_push : (lines : List AnswerLine) (x : AnswerLine) (old new : Totals) → TotalsStep x old new → AreTotals lines old → AreTotals (lines ++ x ∷ []) new
totals_push lines x old new step are =
    let number : new.lines ≡ shown (length lines + 1, x) = one_more lines x old.lines new.lines step.number are.number in
    record {
      number = number ∙ ap (counted 0) (sym (length-append lines (x ∷ [])));
      counts = λ k. step.counts k ∙ ap (count_after x.kind k) (are.counts k) ∙ sym (tally-push (is_of_kind k) lines x);
      strange = step.strange ∙ ap (λ n. strange_after x.kind n old.strange) number ∙ ap (strange_after x.kind (shown (length lines + 1, x))) are.strange ∙ sym (strange_push lines x);
      links = λ l. links_push lines x old new step l (are.links l);
      calls = λ l c. calls_push lines x old new step number l c (are.calls l c);
    }
