-- The tables with one line more. Words: call_in, link_totals, call_at; Advances, CallSteps, LinkSteps.
use Rattle.std.specs.Prelude.{◌≡◌, ◌≢◌, ℕ, ◌==◌, if◌then◌else◌, Option, Some, None, nat_eq}
use Rattle.std.specs.Option.{option_and_then}
use Rattle.indexmap.specs.IndexMap.{get}
use Rattle.rohc_context.specs.declared.refusal.Refusal.{Refusal}
use Rattle.rohc_links.specs.Limits.{counted}
use Rattle.rohc_totals.specs.declared.kind.LineKind.{LineKind}
use Rattle.rohc_totals.specs.declared.kind.AnswerLine.{AnswerLine}
use Rattle.rohc_totals.specs.declared.call.CallTotals.{CallTotals}
use Rattle.rohc_totals.specs.declared.totals.LinkTotals.{LinkTotals}
use Rattle.rohc_totals.specs.declared.totals.Totals.{Totals}
use Rattle.rohc_totals.specs.Kind.{kind_number}
use Rattle.rohc_totals.specs.Counted.{count_in, count_after, first_of, since_after, refused_after, last_after}

-- the totals of a CID, if its link has a line of it
abbrev pub call_in : LinkTotals → ℕ → Option CallTotals
call_in t cid = get nat_eq t.calls cid

-- the totals of a link, if there is a line of it
abbrev pub link_totals : Totals → ℕ → Option LinkTotals
link_totals t link = get nat_eq t.links link

-- the totals of a call, if there is a line of it
abbrev pub call_at : Totals → ℕ → ℕ → Option CallTotals
call_at t link cid = option_and_then (λ (l : LinkTotals). call_in l cid) (link_totals t link)

-- the call's totals with one line more, where it had these
pub record Advances (kind : LineKind) (number : ℕ) (counts : ℕ → ℕ) (since : Option ℕ) (refused : ℕ)
    (last : Option Refusal) (t : CallTotals) : Type 0 where
  pub counts_are : (k : ℕ) → count_in t.counts k ≡ count_after kind k (counts k)
  pub since_is : t.since ≡ since_after kind number since
  pub refused_is : t.refused ≡ refused_after kind refused
  pub last_is : t.last ≡ last_after kind last

-- the same, where it had totals or no line at all
abbrev pub AdvancesFrom : LineKind → ℕ → Option CallTotals → CallTotals → Type 0
AdvancesFrom kind number (Some t) new =
    Advances kind number (λ k. count_in t.counts k) t.since t.refused t.last new
AdvancesFrom kind number None new = Advances kind number (λ k. 0) None 0 None new

-- a call gets its first line, or one more
abbrev pub StepsTo : LineKind → ℕ → Option CallTotals → Option CallTotals → Type 0
StepsTo kind number old None = ⊥
StepsTo kind number old (Some new) = AdvancesFrom kind number old new

-- a call gets the line if it bears its CID
pub record CallSteps (line : AnswerLine) (number cid : ℕ) (old new : Option CallTotals) : Type 0 where
  pub own : line.cid ≡ Some cid → StepsTo line.kind number old new
  pub other : line.cid ≢ Some cid → new ≡ old

-- a link's totals with one line more, where it had these
pub record LinkAdvances (line : AnswerLine) (number : ℕ) (counts : ℕ → ℕ) (calls : ℕ → Option CallTotals)
    (t : LinkTotals) : Type 0 where
  pub counts_are : (k : ℕ) → count_in t.counts k ≡ count_after line.kind k (counts k)
  pub calls_step : (cid : ℕ) → CallSteps line number cid (calls cid) (call_in t cid)

-- the same, where it had totals or no line at all
abbrev pub LinkAdvancesFrom : AnswerLine → ℕ → Option LinkTotals → LinkTotals → Type 0
LinkAdvancesFrom line number (Some t) new =
    LinkAdvances line number (λ k. count_in t.counts k) (call_in t) new
LinkAdvancesFrom line number None new = LinkAdvances line number (λ k. 0) (λ cid. None) new

-- a link gets its first line, or one more
abbrev pub LinkStepsTo : AnswerLine → ℕ → Option LinkTotals → Option LinkTotals → Type 0
LinkStepsTo line number old None = ⊥
LinkStepsTo line number old (Some new) = LinkAdvancesFrom line number old new

-- the number of the first line that is no answer line, with a line of this kind and number
abbrev pub strange_after : LineKind → ℕ → Option ℕ → Option ℕ
strange_after kind number strange = if kind_number kind == 0 then first_of strange number else strange

-- one line more
pub record TotalsStep (line : AnswerLine) (old new : Totals) : Type 0 where
  pub number : new.lines ≡ counted old.lines 1
  pub counts : (k : ℕ) → count_in new.counts k ≡ count_after line.kind k (count_in old.counts k)
  pub strange : new.strange ≡ strange_after line.kind new.lines old.strange
  pub own : (l : ℕ) → line.link ≡ Some l → LinkStepsTo line new.lines (link_totals old l) (link_totals new l)
  pub others : (l : ℕ) → line.link ≢ Some l → link_totals new l ≡ link_totals old l
