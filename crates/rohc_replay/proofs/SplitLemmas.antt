-- Lemmas on lines: a text that was split into finished lines and a rest has these lines.
use Rattle.std.proofs.Common.{◌≡◌, ℕ, List, [], ◌∷◌, ◌++◌, Bool, true, false, ◌||◌, ◌==◌, append_assoc, append-nil, refl, sym, ◌∙◌, ap, if◌then◌else◌}
use Rattle.std.specs.List.{AllByRecursion}
use Rattle.std.proofs.lemmas.List.Folds.{list_any-append}
use Rattle.std.proofs.lemmas.Grind.{flat_map-append}
use Rattle.rohc_replay.specs.Script.{Line, IsLine, AreLines, lines_of, put_in_first}
use Rattle.rohc_replay.specs.AnswerLines.{text_of}
use Rattle.rohc_replay.specs.Lines.{has_newline, Splits}

pub both_false : (a b : Bool) → a ≡ false → b ≡ false → (a || b) ≡ false
both_false a b p q = rw (p, q) refl

pub neither : (a b : Bool) → (a || b) ≡ false → (a ≡ false) × (b ≡ false)
neither false false e = (refl, refl)
neither false true e = cc
neither true b e = cc

pub has_newline-append : (a b : List ℕ) → has_newline (a ++ b) ≡ (has_newline a || has_newline b)
has_newline-append a b = list_any-append (λ (octet : ℕ). octet == 10) a b

-- a rest that isn't empty is a last line
abbrev pub last_line : List ℕ → List (List ℕ)
last_line [] = []
last_line (octet ∷ octets) = (octet ∷ octets) ∷ []

onto_last : (octet : ℕ) (octets : List ℕ) → put_in_first octet (last_line octets) ≡ (octet ∷ octets) ∷ []
onto_last octet [] = refl
onto_last octet (o ∷ os) = refl

-- without a newline there is one line, or none
pub lines_of-rest : (rest : List ℕ) → has_newline rest ≡ false → lines_of rest ≡ last_line rest
lines_of-rest [] none = refl
lines_of-rest (octet ∷ octets) none =
    let parts = neither (octet == 10) (has_newline octets) none in
    rw parts.0 (ap (put_in_first octet) (lines_of-rest octets parts.1) ∙ onto_last octet octets)

-- a finished line is the first line
pub lines_of-line : (line more : List ℕ) → has_newline line ≡ false → lines_of ((line ++ 10 ∷ []) ++ more) ≡ line ∷ lines_of more
lines_of-line [] more none = refl
lines_of-line (octet ∷ octets) more none =
    let parts = neither (octet == 10) (has_newline octets) none in
    rw parts.0 (ap (put_in_first octet) (lines_of-line octets more parts.1))

lines_of-finished : (finished : List (List ℕ)) (rest : List ℕ) → AllByRecursion (λ (line : List ℕ). has_newline line ≡ false) finished → has_newline rest ≡ false → lines_of (text_of finished ++ rest) ≡ finished ++ last_line rest
lines_of-finished [] rest each none = lines_of-rest rest none
lines_of-finished (line ∷ lines) rest each none =
    ap lines_of (append_assoc (line ++ 10 ∷ []) (text_of lines) rest)
    ∙ lines_of-line line (text_of lines ++ rest) each.0
    ∙ ap (λ ls. line ∷ ls) (lines_of-finished lines rest each.1 none)

pub lines_of-splits : (text : List ℕ) (finished : List (List ℕ)) (rest : List ℕ) → Splits text finished rest → lines_of text ≡ finished ++ last_line rest
lines_of-splits text finished rest s = ap lines_of s.whole ∙ lines_of-finished finished rest s.each s.unfinished

onto_each : (octet : ℕ) (lines : List (List ℕ)) → (octet == 10) ≡ false → AllByRecursion (λ (line : List ℕ). has_newline line ≡ false) lines → AllByRecursion (λ (line : List ℕ). has_newline line ≡ false) (put_in_first octet lines)
onto_each octet [] other each = (both_false _ _ other refl, tt)
onto_each octet (line ∷ lines) other each = (both_false _ _ other each.0, each.1)

-- no line of a text has a newline within
pub lines_of-each : (text : List ℕ) → AllByRecursion (λ (line : List ℕ). has_newline line ≡ false) (lines_of text)
lines_of-each [] = tt
lines_of-each (octet ∷ octets) = elim (octet == 10) as (λ b. (octet == 10) ≡ b → AllByRecursion (λ (line : List ℕ). has_newline line ≡ false) (if b then [] ∷ lines_of octets else put_in_first octet (lines_of octets))) [
  | true ↦ λ e. (refl, lines_of-each octets)
  | false ↦ λ e. onto_each octet (lines_of octets) e (lines_of-each octets)
] refl

-- octets without a newline go to the rest
pub Splits-more : (text : List ℕ) (finished : List (List ℕ)) (rest more : List ℕ) → Splits text finished rest → has_newline more ≡ false → Splits (text ++ more) finished (rest ++ more)
Splits-more text finished rest more s none = record {
  whole = ap (λ t. t ++ more) s.whole ∙ append_assoc (text_of finished) rest more;
  each = s.each;
  unfinished = has_newline-append rest more ∙ both_false _ _ s.unfinished none;
}

each_more : (finished : List (List ℕ)) (line : List ℕ) → AllByRecursion (λ (l : List ℕ). has_newline l ≡ false) finished → has_newline line ≡ false → AllByRecursion (λ (l : List ℕ). has_newline l ≡ false) (finished ++ line ∷ [])
each_more [] line each none = (none, tt)
each_more (l ∷ ls) line each none = (each.0, each_more ls line each.1 none)

-- the lines of a text, one by one
pub text_of-push : (lines : List (List ℕ)) (line : List ℕ) → text_of (lines ++ line ∷ []) ≡ text_of lines ++ line ++ 10 ∷ []
text_of-push lines line =
    flat_map-append (λ (l : List ℕ). l ++ 10 ∷ []) lines (line ∷ [])
    ∙ ap (λ t. text_of lines ++ t) (append-nil (line ++ 10 ∷ []))
    ∙ sym (append_assoc (text_of lines) line (10 ∷ []))

-- a newline finishes the rest
pub Splits-newline : (text : List ℕ) (finished : List (List ℕ)) (rest : List ℕ) → Splits text finished rest → Splits (text ++ 10 ∷ []) (finished ++ rest ∷ []) []
Splits-newline text finished rest s = record {
  whole = ap (λ t. t ++ 10 ∷ []) s.whole ∙ sym (text_of-push finished rest) ∙ sym (append-nil (text_of (finished ++ rest ∷ [])));
  each = each_more finished rest s.each s.unfinished;
  unfinished = refl;
}

-- one more line
pub AreLines-push : (texts : List (List ℕ)) (lines : List Line) (octets : List ℕ) (line : Line) → AreLines texts lines → IsLine octets line → AreLines (texts ++ octets ∷ []) (lines ++ line ∷ [])
AreLines-push [] [] octets line are is = (is, tt)
AreLines-push (t ∷ ts) (l ∷ ls) octets line are is = (are.0, AreLines-push ts ls octets line are.1 is)
AreLines-push [] (l ∷ ls) octets line are is = absurd are
AreLines-push (t ∷ ts) [] octets line are is = absurd are

-- the finished lines of a front are the first lines of the text
pub lines_of-front : (front back : List ℕ) (finished : List (List ℕ)) → Splits front finished [] → lines_of (front ++ back) ≡ finished ++ lines_of back
lines_of-front front back finished s =
    ap (λ t. lines_of (t ++ back)) (s.whole ∙ append-nil (text_of finished)) ∙ go finished s.each
  where
    go : (fs : List (List ℕ)) → AllByRecursion (λ (line : List ℕ). has_newline line ≡ false) fs → lines_of (text_of fs ++ back) ≡ fs ++ lines_of back
    go [] each = refl
    go (line ∷ lines) each =
        ap lines_of (append_assoc (line ++ 10 ∷ []) (text_of lines) back)
        ∙ lines_of-line line (text_of lines ++ back) each.0
        ∙ ap (λ ls. line ∷ ls) (go lines each.1)
