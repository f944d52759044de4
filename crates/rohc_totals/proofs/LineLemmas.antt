-- What a line that was read, or that wasn't, is the text of.
use Rattle.std.proofs.Common.{◌≡◌, ℕ, ◌<◌, ◌^◌, List, ◌∷◌, ◌++◌, drop, codes, Option, Some, None, IfNone, append_assoc, arith, sym, ◌∙◌, ap}
use Rattle.std.specs.Fmt.{decimal}
use Rattle.rohc_replay.proofs.PairLemmas.{pair_spelled, digits_first}
use Rattle.rohc_totals.specs.declared.kind.AnswerLine.{AnswerLine}
use Rattle.rohc_totals.specs.Answer.{LinkSays, CallSays, BadAnswer, LongAnswer, OfLink, OfCall, IsLinkSays, IsCallSays, IsAnswer, link_says_text, call_text, spelling, IsNoAnswer}
use Rattle.rohc_totals.proofs.FieldLemmas.{one_field}

-- the link, a space, a dash and a space
pub link_spelled : (l : ℕ) (text : List ℕ) → decimal l ++ codes " - " ++ text ≡ decimal l ++ 32 ∷ 45 ∷ 32 ∷ text
link_spelled l text = simp append_assoc

-- a number doesn't begin with a dash
pub no_dash : (n : ℕ) (x y : List ℕ) → n < 2 ^ 16 → decimal n ++ x ≡ 45 ∷ y → ⊥
no_dash n x y fits e =
    let first = digits_first n (omega (arith, fits)) in
    let whole : first.0 ∷ (first.1 ++ x) ≡ 45 ∷ y = ap (λ t. t ++ x) (sym first.2) ∙ e in
    let dash : first.0 ≡ 45 = cc in
    omega (arith, dash, first.3)

-- if nothing is read for one reason, another follows
pub none_so : {X P Q : Type 0} (r : Option X) → (P → Q) → IfNone r P → IfNone r Q
none_so (Some x) f none = tt
none_so None f none = f none

pub link_of_link : (line text rest : List ℕ) (l : ℕ) (r : Option AnswerLine) → l < 2 ^ 16 → line ≡ decimal l ++ 32 ∷ text → text ≡ 45 ∷ 32 ∷ rest →
    IfNone r ((says : LinkSays) → IsLinkSays says → rest ≡ link_says_text says → ⊥) →
    IfNone r ((link : ℕ) (says : LinkSays) → IsAnswer (OfLink link says) → line ≡ spelling (OfLink link says) → ⊥)
link_of_link line text rest l r fits whole dash none = none_so r (λ no link says good is.
    let behind = one_field l link text (45 ∷ 32 ∷ link_says_text says) fits good.0 (sym whole ∙ is ∙ link_spelled link (link_says_text says)) in
    no says good.1 (ap (drop 2) (sym dash ∙ behind))) none

pub link_of_call : (line text rest : List ℕ) (l : ℕ) (r : Option AnswerLine) (P : Type 0) → l < 2 ^ 16 → line ≡ decimal l ++ 32 ∷ text → text ≡ 45 ∷ 32 ∷ rest →
    IfNone r P → IfNone r ((link cid : ℕ) (says : CallSays) → IsAnswer (OfCall link cid says) → line ≡ spelling (OfCall link cid says) → ⊥)
link_of_call line text rest l r P fits whole dash none = none_so r (λ no link cid says good is.
    let behind = one_field l link text (decimal cid ++ 32 ∷ call_text says) fits good.0 (sym whole ∙ is ∙ pair_spelled link cid (call_text says)) in
    no_dash cid (32 ∷ call_text says) (32 ∷ rest) good.1 (sym behind ∙ dash)) none

pub call_of_link : (line text : List ℕ) (l : ℕ) (r : Option AnswerLine) (P : Type 0) → l < 2 ^ 16 → line ≡ decimal l ++ 32 ∷ text → ((rest : List ℕ) → text ≡ 45 ∷ 32 ∷ rest → ⊥) →
    IfNone r P → IfNone r ((link : ℕ) (says : LinkSays) → IsAnswer (OfLink link says) → line ≡ spelling (OfLink link says) → ⊥)
call_of_link line text l r P fits whole dash none = none_so r (λ no link says good is.
    dash (link_says_text says) (one_field l link text (45 ∷ 32 ∷ link_says_text says) fits good.0 (sym whole ∙ is ∙ link_spelled link (link_says_text says)))) none

pub call_of_call : (line text : List ℕ) (l : ℕ) (r : Option AnswerLine) → l < 2 ^ 16 → line ≡ decimal l ++ 32 ∷ text →
    IfNone r ((cid : ℕ) (says : CallSays) → cid < 2 ^ 16 → IsCallSays says → text ≡ decimal cid ++ 32 ∷ call_text says → ⊥) →
    IfNone r ((link cid : ℕ) (says : CallSays) → IsAnswer (OfCall link cid says) → line ≡ spelling (OfCall link cid says) → ⊥)
call_of_call line text l r fits whole none = none_so r (λ no link cid says good is.
    no cid says good.1 good.2 (one_field l link text (decimal cid ++ 32 ∷ call_text says) fits good.0 (sym whole ∙ is ∙ pair_spelled link cid (call_text says)))) none

-- a line that names no link, and isn't that of a bad or a long line
pub no_script : (line name : List ℕ) (r : Option AnswerLine) → line ≡ codes "- - refused " ++ name →
    IfNone r (name ≡ codes "BadLine" → ⊥) → IfNone r (name ≡ codes "LongLine" → ⊥) → IfNone r (IsNoAnswer line)
no_script line name (Some s) whole bad long = tt
no_script line name None whole bad long = go
  where
    go : IsNoAnswer line
    go BadAnswer good is = bad (ap (drop 12) (sym whole ∙ is))
    go LongAnswer good is = long (ap (drop 12) (sym whole ∙ is))
    go (OfLink link says) good is = no_dash link (32 ∷ 45 ∷ 32 ∷ link_says_text says) (drop 1 (codes "- - refused ") ++ name) good.0 (sym (link_spelled link (link_says_text says)) ∙ sym is ∙ whole)
    go (OfCall link cid says) good is = no_dash link (32 ∷ (decimal cid ++ 32 ∷ call_text says)) (drop 1 (codes "- - refused ") ++ name) good.0 (sym (pair_spelled link cid (call_text says)) ∙ sym is ∙ whole)

-- a line that doesn't begin like a bad or a long line's
pub no_numbers : (line : List ℕ) (r : Option AnswerLine) → ((text : List ℕ) → line ≡ codes "- - refused " ++ text → ⊥) →
    IfNone r ((link : ℕ) (says : LinkSays) → IsAnswer (OfLink link says) → line ≡ spelling (OfLink link says) → ⊥) →
    IfNone r ((link cid : ℕ) (says : CallSays) → IsAnswer (OfCall link cid says) → line ≡ spelling (OfCall link cid says) → ⊥) → IfNone r (IsNoAnswer line)
no_numbers line (Some s) script link call = tt
no_numbers line None script link call = go
  where
    go : IsNoAnswer line
    go BadAnswer good is = script (codes "BadLine") is
    go LongAnswer good is = script (codes "LongLine") is
    go (OfLink l says) good is = link l says good is
    go (OfCall l c says) good is = call l c says good is
