-- What a writer took of one text, and then of the next.
use Rattle.std.proofs.Common.{ℕ, ◌+◌, ◌-◌, ◌≤◌, List, [], ◌++◌, length, take, drop, Bool, true, false, Option, Some, None, append_assoc, append-nil, sym, ◌∙◌, ap, subst, ◌≡◌, arith, length-append}
use Rattle.std.specs.Prelude.{nat_lt, Result, Ok, Err, IfOk, IfErr}
use Rattle.std.proofs.lemmas.List.{take-append-drop, take_rest, length-take-le, take_all}
use Rattle.std.proofs.lemmas.Bool.Decides.{nat_tests}
use Rattle.std.proofs.Math.Seq.{take-add}
use Rattle.std.specs.Io.KnownBytes.{Appends, Keeps}
use Rattle.rohc_saved.specs.Output.{counted, IsWhole, IsPartWritten, IsTaken}

-- nothing was taken
pub appends_none : (held : Option (List ℕ)) → Appends held held []
appends_none None = tt
appends_none (Some xs) = sym (append-nil xs)

-- a text was taken, and then another
pub appends_more : (held mid holding : Option (List ℕ)) (a b : List ℕ) → Appends held mid a → Appends mid holding b → Appends held holding (a ++ b)
appends_more None mid holding a b ha hb = tt
appends_more (Some xs) (Some ys) (Some zs) a b ha hb = hb ∙ ap (λ (l : List ℕ). l ++ b) ha ∙ append_assoc xs a b
appends_more (Some xs) (Some ys) None a b ha hb = hb
appends_more (Some xs) None holding a b ha hb = absurd ha

-- a front of a text was taken, and then a front of what was left
pub appends_front : (held mid holding : Option (List ℕ)) (text : List ℕ) (at count : ℕ) → Appends held mid (take at text)
    → Appends mid holding (take count (take (length text - at) (drop at text))) → Appends held holding (take (at + count) text)
appends_front held mid holding text at count ha hb =
    rw take-add (appends_more held mid holding (take at text) (take count (drop at text)) ha (rw take_rest at hb))

-- a part of a text was taken, so a part of a longer one
pub written_longer : (held holding : Option (List ℕ)) (text more : List ℕ) (written : ℕ) → IsPartWritten held holding text written → IsPartWritten held holding (text ++ more) written
written_longer held holding text more written h = record {
  part = h.part;
  rest = h.rest ++ more;
  parts = ap (λ (l : List ℕ). l ++ more) h.parts ∙ append_assoc h.part h.rest more;
  taken = h.taken;
  count = h.count;
}

-- the whole text was taken, and then a front of another
pub written_front : (held mid holding : Option (List ℕ)) (text part : List ℕ) (written between count : ℕ) → count ≤ length part → IsWhole held mid text between
    → Appends mid holding (take count part) → written ≡ counted (between + count) → IsPartWritten held holding (text ++ part) written
written_front held mid holding text part written between count within h more is = record {
  part = text ++ take count part;
  rest = drop count part;
  parts = ap (λ (l : List ℕ). text ++ l) (sym (take-append-drop count part)) ∙ sym (append_assoc text (take count part) (drop count part));
  taken = appends_more held mid holding text (take count part) h.taken more;
  count = omega (arith, is, h.count, length-append text (take count part), length-take-le count part within);
}

-- after the whole text a front of another was taken, which isn't all of it if the writing stopped
pub taken_more : (stopped : Bool) (held mid holding : Option (List ℕ)) (text part : List ℕ) (written between count : ℕ) → nat_lt count (length part) ≡ stopped → count ≤ length part
    → IsTaken false held mid text between → Appends mid holding (take count part) → written ≡ counted (between + count) → IsTaken stopped held holding (text ++ part) written
taken_more true held mid holding text part written between count less within h more is = written_front held mid holding text part written between count within h more is
taken_more false held mid holding text part written between count less within h more is =
    let all : count ≡ length part = grind (arith, nat_tests, less) in
    let whole : take count part ≡ part = take_all count part (omega arith) in
    record {
      taken = appends_more held mid holding text part h.taken (subst (λ p. Appends mid holding p) whole more);
      count = omega (arith, is, h.count, all, length-append text part);
    }

-- the whole text is a part of it
pub whole_written : (held holding : Option (List ℕ)) (text : List ℕ) (written : ℕ) → IsWhole held holding text written → IsPartWritten held holding text written
whole_written held holding text written h = record { part = text; rest = []; parts = sym (append-nil text); taken = h.taken; count = h.count }

-- known octets stay
kept : (held mid holding : Option (List ℕ)) (text : List ℕ) → Keeps mid holding → Appends held mid text → Appends held holding text
kept None mid holding text same h = tt
kept (Some xs) (Some ys) (Some zs) text same h = same ∙ h
kept (Some xs) (Some ys) None text same h = absurd same
kept (Some xs) None holding text same h = absurd h

pub whole_kept : (held mid holding : Option (List ℕ)) (text : List ℕ) (written : ℕ) → Keeps mid holding → IsWhole held mid text written → IsWhole held holding text written
whole_kept held mid holding text written same h = record { taken = kept held mid holding text same h.taken; count = h.count }

-- what follows for a result
pub ok_by : {A E : Type 0} (r : Result A E) {P Q : A → Type 0} → ((x : A) → P x → Q x) → IfOk r P → IfOk r Q
ok_by (Ok x) f p = f x p
ok_by (Err e) f p = p

pub err_by : {A E : Type 0} (r : Result A E) {P Q : E → Type 0} → ((e : E) → P e → Q e) → IfErr r P → IfErr r Q
err_by (Ok x) f p = p
err_by (Err e) f p = f e p
