-- Where the reading of a text stands after one octet more, and at its end.
use Rattle.std.proofs.Common.{◌≡◌, ℕ, ◌<◌, List, [], ◌∷◌, ◌++◌, length, Bool, true, false, arith, refl, sym, ◌∙◌, ap, subst, append-nil, ◌⊎◌, inl, inr}
use Rattle.rohc_replay.specs.Stream.{IsUnfinished}
use Rattle.rohc_replay.proofs.SplitLemmas.{Splits-newline, lines_of-splits, last_line}
use Rattle.rohc_totals.specs.declared.kind.AnswerLine.{AnswerLine}
use Rattle.rohc_totals.specs.declared.totals.Totals.{Totals}
use Rattle.rohc_totals.specs.declared.reading.Progress.{Progress}
use Rattle.rohc_totals.specs.Answer.{IsSaid, AreSaid}
use Rattle.rohc_totals.specs.Totals.{AreTotals}
use Rattle.rohc_totals.specs.Reading.{AreTotalsOf, StandsInAnswers}

-- one line more
pub AreSaid-push : (lines : List (List ℕ)) (told : List AnswerLine) (line : List ℕ) (s : AnswerLine) → AreSaid lines told → IsSaid line s → AreSaid (lines ++ line ∷ []) (told ++ s ∷ [])
AreSaid-push [] [] line s are is = (is, tt)
AreSaid-push (l ∷ ls) (t ∷ ts) line s are is = (are.0, AreSaid-push ls ts line s are.1 is)
AreSaid-push [] (t ∷ ts) line s are is = absurd are
AreSaid-push (l ∷ ls) [] line s are is = absurd are

-- a newline ends the line that is kept
pub stands_newline : (seen : List ℕ) (p q : Progress) (s : AnswerLine) → ((rest : List ℕ) → IsUnfinished p.long p.line.items rest → IsSaid rest s) →
    ((told : List AnswerLine) → AreTotals told p.totals → AreTotals (told ++ s ∷ []) q.totals) → q.line.items ≡ [] → q.long ≡ false →
    StandsInAnswers seen p → StandsInAnswers (seen ++ 10 ∷ []) q
stands_newline seen p q s is add none short st = record {
  finished = st.finished ++ st.rest ∷ [];
  rest = [];
  splits = Splits-newline seen st.finished st.rest st.splits;
  is_kept = rw (none, short) refl;
  short = rw none (omega arith);
  told = st.told ++ s ∷ [];
  are_told = AreSaid-push st.finished st.told st.rest s st.are_told (is st.rest st.is_kept);
  totals = add st.told st.totals;
}

some_last : (long : Bool) (kept rest : List ℕ) → IsUnfinished long kept rest → (long ≡ true) ⊎ (0 < length kept) → 0 < length rest
some_last true kept rest k how = omega (arith, k)
some_last false kept rest k (inl e) = cc
some_last false kept rest k (inr some) = subst (λ (t : List ℕ). 0 < length t) k some

last_some : (rest : List ℕ) → 0 < length rest → last_line rest ≡ rest ∷ []
last_some [] some = absurd (omega (arith, some))
last_some (o ∷ os) some = refl

-- the last line ends without a newline
pub stands_end : (seen : List ℕ) (p : Progress) (t : Totals) (s : AnswerLine) → ((rest : List ℕ) → IsUnfinished p.long p.line.items rest → IsSaid rest s) →
    ((told : List AnswerLine) → AreTotals told p.totals → AreTotals (told ++ s ∷ []) t) → (p.long ≡ true) ⊎ (0 < length p.line.items) → StandsInAnswers seen p → AreTotalsOf seen t
stands_end seen p t s is add some st = record {
  told = st.told ++ s ∷ [];
  are_told = subst (λ ls. AreSaid ls (st.told ++ s ∷ [])) (sym (lines_of-splits seen st.finished st.rest st.splits
      ∙ ap (λ ls. st.finished ++ ls) (last_some st.rest (some_last p.long p.line.items st.rest st.is_kept some))))
      (AreSaid-push st.finished st.told st.rest s st.are_told (is st.rest st.is_kept));
  totals = add st.told st.totals;
}

-- nothing is left
pub stands_whole : (seen : List ℕ) (p : Progress) → p.long ≡ false → p.line.items ≡ [] → StandsInAnswers seen p → AreTotalsOf seen p.totals
stands_whole seen p short none st =
    let rest : [] ≡ st.rest = let k = st.is_kept in rw (none, short) at k in
    record {
      told = st.told;
      are_told = subst (λ ls. AreSaid ls st.told) (sym (lines_of-splits seen st.finished st.rest st.splits ∙ ap (λ r. st.finished ++ last_line r) (sym rest) ∙ append-nil st.finished)) st.are_told;
      totals = st.totals;
    }
