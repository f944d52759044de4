-- What totals say of lines. Words: numbered, call_lines; after_last, first_by, last_in; IsCallOf, IsCall,
-- AreTotals.
use Rattle.std.specs.Prelude.{◌≡◌, ◌≢◌, ℕ, ◌+◌, ◌<◌, List, [], ◌∷◌, length, filter, Bool, false, ◌&&◌, ◌==◌, if◌then◌else◌, Option, Some, None, count_by}
use Rattle.std.specs.List.{flat_map, list_any}
use Rattle.std.specs.Option.{option_map, is_some}
use Rattle.rohc_context.specs.declared.refusal.Refusal.{Refusal}
use Rattle.rohc_links.specs.Limits.{counted}
use Rattle.rohc_totals.specs.declared.kind.AnswerLine.{AnswerLine}
use Rattle.rohc_totals.specs.declared.call.CallTotals.{CallTotals}
use Rattle.rohc_totals.specs.declared.totals.LinkTotals.{LinkTotals}
use Rattle.rohc_totals.specs.declared.totals.Totals.{Totals}
use Rattle.rohc_totals.specs.Kind.{refusal_of, is_of_kind}
use Rattle.rohc_totals.specs.Counted.{count_in, tally}
use Rattle.rohc_totals.specs.Steps.{link_totals, call_at}

-- a line with its number
abbrev pub Numbered : Type 0
Numbered = ℕ × AnswerLine

-- the lines with their numbers, of which the first is this one's successor
abbrev pub numbered_after : ℕ → List AnswerLine → List Numbered
numbered_after n [] = []
numbered_after n (line ∷ lines) = (n + 1, line) ∷ numbered_after (n + 1) lines

-- the lines with their numbers, from 1 on
abbrev pub numbered : List AnswerLine → List Numbered
numbered lines = numbered_after 0 lines

-- the line names this number
abbrev pub names : ℕ → Option ℕ → Bool
names n None = false
names n (Some m) = m == n

-- the line is of this link
abbrev pub is_link : ℕ → AnswerLine → Bool
is_link l line = names l line.link

-- the line is of this call
abbrev pub is_call : ℕ → ℕ → Numbered → Bool
is_call l c line = names l line.1.link && names c line.1.cid

-- a call's own lines
abbrev pub call_lines : ℕ → ℕ → List AnswerLine → List Numbered
call_lines l c lines = filter (is_call l c) (numbered lines)

-- the line is a delivery
abbrev pub delivers : Numbered → Bool
delivers line = is_of_kind 3 line.1

-- the line is a refusal
abbrev pub refuses : Numbered → Bool
refuses line = is_some (refusal_of line.1.kind)

-- none or one
abbrev pub listed : Option Refusal → List Refusal
listed None = []
listed (Some refusal) = refusal ∷ []

-- the refusals of lines
abbrev pub refusals_of : List Numbered → List Refusal
refusals_of lines = flat_map (λ (line : Numbered). listed (refusal_of line.1.kind)) lines

-- what follows the last that passes the test, or all if none does
abbrev pub after_last : {X : Type 0} → (X → Bool) → List X → List X
after_last p [] = []
after_last p (x ∷ xs) = if list_any p xs then after_last p xs else (if p x then xs else x ∷ xs)

-- the first that passes the test
abbrev pub first_by : {X : Type 0} → (X → Bool) → List X → Option X
first_by p [] = None
first_by p (x ∷ xs) = if p x then Some x else first_by p xs

-- the last of a list
abbrev pub last_in : {X : Type 0} → List X → Option X
last_in [] = None
last_in (x ∷ []) = Some x
last_in (x ∷ y ∷ ys) = last_in (y ∷ ys)

-- the number of a line, up to the greatest `u64`
abbrev pub shown : Numbered → ℕ
shown line = counted 0 line.0

-- These are the totals of a call with these lines: how many there are of each kind, how many refusals since
-- the last delivery and in which line they begin, and the last refusal.
pub record IsCallOf (own : List Numbered) (t : CallTotals) : Type 0 where
  pub counts : (k : ℕ) → count_in t.counts k ≡ tally (λ (line : Numbered). is_of_kind k line.1) own
  pub since : t.since ≡ option_map shown (first_by refuses (after_last delivers own))
  pub refused : t.refused ≡ tally refuses (after_last delivers own)
  pub last : t.last ≡ last_in (refusals_of own)

-- a call is there exactly if it has lines
abbrev pub IsCall : List Numbered → Option CallTotals → Type 0
IsCall own None = own ≡ []
IsCall own (Some t) = (own ≢ []) × IsCallOf own t

-- These are the totals of a link: how many of its lines there are of each kind. It is there exactly if it has
-- lines.
abbrev pub IsLinkOf : List AnswerLine → ℕ → Option LinkTotals → Type 0
IsLinkOf lines l None = count_by (is_link l) lines ≡ 0
IsLinkOf lines l (Some t) =
    (0 < count_by (is_link l) lines)
    × ((k : ℕ) →
    count_in t.counts k ≡ tally (λ (line : AnswerLine). is_link l line && is_of_kind k line) lines)

-- the line is no answer line
abbrev pub is_strange : Numbered → Bool
is_strange line = is_of_kind 0 line.1

-- These are the totals of these lines.
pub record AreTotals (lines : List AnswerLine) (t : Totals) : Type 0 where
  pub number : t.lines ≡ counted 0 (length lines)
  pub counts : (k : ℕ) → count_in t.counts k ≡ tally (is_of_kind k) lines
  pub strange : t.strange ≡ option_map shown (first_by is_strange (numbered lines))
  pub links : (l : ℕ) → IsLinkOf lines l (link_totals t l)
  pub calls : (l c : ℕ) → IsCall (call_lines l c lines) (call_at t l c)
