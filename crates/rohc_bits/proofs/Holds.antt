-- What holds of whatever a piece says of octets.
use Rattle.std.proofs.Common.{◌≡◌, ℕ, ◌+◌, ◌*◌, ◌^◌, ◌<◌, ◌≤◌, Bool, true, false, List, [], ◌∷◌, ◌++◌, length, Option, Some, None, refl, sym, subst, arith}
use Rattle.std.specs.Prelude.{All, IfSome, is_some}
use Rattle.std.proofs.Math.Seq.{take-append_seam, drop-append_seam}
use Rattle.std.proofs.lemmas.List.Elements.{All-head, All-tail, All-take, All-drop}
use Rattle.rohc_bits.specs.Bits.{IsOctet}
use Rattle.rohc_bits.specs.Fronts.{value_bits}
use Rattle.rohc_bits.specs.LowBits.{LowBits}
use Rattle.rohc_bits.specs.Grammar.{Piece, Octet, Word, Value, Says, Then, IfNamed, Which, As, Judged, Unless, Called, Row, SaidBy}
use Rattle.rohc_bits.proofs.Values.{value_fits, value_range}

pub all_left : (xs ys : List ℕ) → All IsOctet (xs ++ ys) → All IsOctet xs
all_left xs ys all = rw take-append_seam at (All-take IsOctet (length xs) (xs ++ ys) all)

pub all_right : (xs ys : List ℕ) → All IsOctet (xs ++ ys) → All IsOctet ys
all_right xs ys all = rw drop-append_seam at (All-drop IsOctet (length xs) (xs ++ ys) all)

-- Whatever the piece says of octets has P.
pub record Holds {N E A : Type 0} (piece : Piece N E A) (P : A → Type 0) : Type 1 where
  pub of : (x : A) (text : List ℕ) → All IsOctet text → SaidBy piece x text → P x

pub holds_any : {N E A : Type 0} (piece : Piece N E A) → Holds piece (λ _. Unit {0})
holds_any piece = record { of = λ x text all n. tt }

pub holds_says : {N E A : Type 0} (x : A) (P : A → Type 0) → P x → Holds {N = N} {E = E} (Says x) P
holds_says x P p = record { of = λ y text all n. subst P (sym n.1) p }

pub holds_then : {N E A B : Type 0} (first : Piece N E A) (more : A → Piece N E B) (P : A → Type 0) (Q : B → Type 0) → Holds first P → ((x : A) → P x → Holds (more x) Q) → Holds (Then first more) Q
holds_then first more P Q p q = record {
  of = λ y text all n.
      let whole = subst (λ (t : List ℕ). All IsOctet t) n.3 all in
      (q n.0 (p.of n.0 n.1 (all_left n.1 n.2 whole) n.4)).of y n.2 (all_right n.1 n.2 whole) n.5;
}

pub holds_as : {N E A B : Type 0} (f : A → B) (piece : Piece N E A) (P : A → Type 0) (Q : B → Type 0) → Holds piece P → ((x : A) → P x → Q (f x)) → Holds (As f piece) Q
holds_as f piece P Q p q = record { of = λ y text all n. subst Q (sym n.2) (q n.0 (p.of n.0 text all n.1)) }

pub holds_judged : {N E A : Type 0} (fault : A → Option E) (piece : Piece N E A) (P : A → Type 0) → Holds piece P → Holds (Judged fault piece) (λ x. P x × (fault x ≡ None))
holds_judged fault piece P p = record { of = λ x text all n. (p.of x text all n.0, n.1) }

pub holds_unless : {N E A : Type 0} (fault : Option E) (piece : Piece N E A) (P : A → Type 0) → (fault ≡ None → Holds piece P) → Holds (Unless fault piece) P
holds_unless fault piece P p = record { of = λ x text all n. (p n.0).of x text all n.1 }

pub holds_which : {N E A : Type 0} (test : Bool) (first other : Piece N E A) (P : A → Type 0) → Holds first P → Holds other P → Holds (Which test first other) P
holds_which true first other P p q = record { of = p.of }
holds_which false first other P p q = record { of = q.of }

-- a piece that a flag announces is there exactly where it does
pub holds_named : {N E A : Type 0} (named : Bool) (piece : Piece N E A) (P : A → Type 0) → Holds piece P → Holds (IfNamed named piece) (λ x. IfSome x P × (is_some x ≡ named))
holds_named {N} {E} {A} named piece P p = record { of = at_once named } where
  at_once : (named : Bool) (x : Option A) (text : List ℕ) → All IsOctet text → SaidBy (IfNamed named piece) x text → IfSome x P × (is_some x ≡ named)
  at_once false x text all n = rw n.1 (tt, refl)
  at_once true None text all n = absurd n
  at_once true (Some x) text all n = (p.of x text all n, refl)

pub holds_called : {N E A : Type 0} (name : N) (piece : Piece N E A) (P : A → Type 0) → Holds piece P → Holds (Called name piece) P
holds_called name piece P p = record { of = p.of }

pub holds_row : {N E A : Type 0} (fields : A → List (N × ℕ)) (piece : Piece N E A) (P : A → Type 0) → Holds piece P → Holds (Row fields piece) P
holds_row fields piece P p = record { of = p.of }

pub octet_holds : {N E : Type 0} → Holds {N = N} {E = E} Octet (λ n. n < 256)
octet_holds = record { of = λ n text all is. All-head IsOctet n [] (subst (λ (t : List ℕ). All IsOctet t) is all) }

pub word_holds : {N E : Type 0} → Holds {N = N} {E = E} Word (λ n. n < 65536)
word_holds = record {
  of = λ n text all is.
      let whole = subst (λ (t : List ℕ). All IsOctet t) is.2 all in
      let high : is.0 < 256 = All-head IsOctet is.0 (is.1 ∷ []) whole in
      let low : is.1 < 256 = All-head IsOctet is.1 [] (All-tail IsOctet is.0 (is.1 ∷ []) whole) in
      let e : n ≡ is.0 * 256 + is.1 = is.3 in
      omega arith;
}

-- How many bits a self-describing value has, and that it fits into them.
pub record IsValueBits (d : LowBits) : Type 0 where
  pub some : 7 ≤ d.count
  pub narrow : d.count ≤ 29
  pub fits : d.value < 2 ^ d.count

pub value_holds : {N E : Type 0} → Holds {N = N} {E = E} Value IsValueBits
value_holds = record {
  of = λ d text all is.
      let range = value_range text d.value is.0 in
      let fits : d.value < 2 ^ value_bits (length text) = value_fits text d.value is.0 in
      record { some = rw is.1 range.0; narrow = rw is.1 range.1; fits = rw is.1 fits };
}
