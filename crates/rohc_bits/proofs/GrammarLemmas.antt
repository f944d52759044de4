-- The readings of a grammar fit one another.
use Rattle.std.proofs.Common.{◌≡◌, ℕ, ◌+◌, ◌*◌, true, false, List, [], ◌∷◌, ◌++◌, length, Option, Some, None, Result, Ok, Err, refl, sym, ap, subst, ◌∙◌, append_assoc}
use Rattle.std.specs.Prelude.{◌↔◌}
use Rattle.std.proofs.lemmas.List.{append_cancel_right}
use Rattle.rohc_bits.specs.LowBits.{LowBits}
use Rattle.rohc_bits.specs.Fronts.{front_value, value_bits}
use Rattle.rohc_bits.specs.Reading.{◌>>=◌, judged, value_or, next_octet, next_word, next_value}
use Rattle.rohc_bits.specs.Grammar.{Piece, Octet, Word, Value, Says, Then, IfNamed, Which, As, Judged, Unless, Called, Row, reads, SaidBy, SaidBefore, Named, or_else, fault_after, short_of, cut_off, first_fault}
use Rattle.rohc_bits.proofs.Steps.{ok_parts, bind_ok, judged_ok}
use Rattle.rohc_bits.proofs.ValueSteps.{value_found, value_given}

-- a text that begins with octets that say this
abbrev pub Found : {N E A : Type 0} → Piece N E A → A → List ℕ → List ℕ → Type 0
Found piece x text behind = (front : List ℕ) × (text ≡ front ++ behind) × SaidBy piece x front

octet_found : {E : Type 0} (N : Type 0) (short : E) (text behind : List ℕ) (x : ℕ) → next_octet short text ≡ Ok (x, behind) → Found {N = N} {E = E} Octet x text behind
unfolding next_octet
octet_found N short [] behind x e = cc
octet_found {E} N short (a ∷ text) behind x e = let is = ok_parts {E = E} a x text behind e in (x ∷ [], rw (is.0, is.1) refl, refl)

word_found : {E : Type 0} (N : Type 0) (short : E) (text behind : List ℕ) (x : ℕ) → next_word short text ≡ Ok (x, behind) → Found {N = N} {E = E} Word x text behind
unfolding next_octet next_word
word_found N short [] behind x e = cc
word_found N short (a ∷ []) behind x e = cc
word_found {E} N short (a ∷ b ∷ text) behind x e =
    let is = ok_parts {E = E} (a * 256 + b) x text behind e in (a ∷ b ∷ [], ap (λ (t : List ℕ). a ∷ b ∷ t) is.1, (a, b, refl, sym is.0))

-- what is read, a prefix says
pub found : {N E A : Type 0} (short : E) (piece : Piece N E A) (text behind : List ℕ) (x : A) → reads short piece text ≡ Ok (x, behind) → Found piece x text behind
found {N} short Octet text behind x e = octet_found N short text behind x e
found {N} short Word text behind x e = word_found N short text behind x e
found short Value text behind x e = let v = value_found short text behind x e in (v.spelling, v.whole, (v.spells, v.counted))
found {E} short (Says x) text behind y e = let p = ok_parts {E = E} x y text behind e in ([], p.1, (refl, sym p.0))
found short (Then first more) text behind y e =
    let step = bind_ok (reads short first text) (λ x. reads short (more x.0) x.1) (y, behind) e in
    let a = found short first text step.0.1 step.0.0 step.1 in
    let b = found short (more step.0.0) step.0.1 behind y step.2 in
    (a.0 ++ b.0, a.1 ∙ ap (λ (t : List ℕ). a.0 ++ t) b.1 ∙ sym (append_assoc a.0 b.0 behind), (step.0.0, a.0, b.0, refl, a.2, b.2))
found {E} short (IfNamed true piece) text behind y e =
    let step = bind_ok (reads short piece text) (λ x. Ok (Some x.0, x.1)) (y, behind) e in
    let is = ok_parts {E = E} (Some step.0.0) y step.0.1 behind step.2 in
    let a = found short piece text step.0.1 step.0.0 step.1 in
    (a.0, a.1 ∙ ap (λ (t : List ℕ). a.0 ++ t) is.1, subst (λ z. Named true (SaidBy piece) z a.0) is.0 a.2)
found {E} short (IfNamed false piece) text behind y e = let p = ok_parts {E = E} None y text behind e in ([], p.1, (refl, sym p.0))
found short (Which true first other) text behind x e = found short first text behind x e
found short (Which false first other) text behind x e = found short other text behind x e
found {E} short (As f piece) text behind y e =
    let step = bind_ok (reads short piece text) (λ x. Ok (f x.0, x.1)) (y, behind) e in
    let a = found short piece text step.0.1 step.0.0 step.1 in
    let is = ok_parts {E = E} (f step.0.0) y step.0.1 behind step.2 in
    (a.0, a.1 ∙ ap (λ (t : List ℕ). a.0 ++ t) is.1, (step.0.0, a.2, sym is.0))
found {E} {A} short (Judged fault piece) text behind y e =
    let step = bind_ok (reads short piece text) (λ x. judged (fault x.0) x) (y, behind) e in
    let is = judged_ok (fault step.0.0) step.0 (y, behind) step.2 in
    let here : step.0.0 ≡ y = ap (λ (x : A × List ℕ). x.0) is.1 in
    let a = found short piece text behind y (step.1 ∙ ap Ok is.1) in
    (a.0, a.1, (a.2, ap fault (sym here) ∙ is.0))
found short (Unless None piece) text behind x e = let a = found short piece text behind x e in (a.0, a.1, (refl, a.2))
found short (Unless (Some refusal) piece) text behind x e = cc
found short (Called name piece) text behind x e = found short piece text behind x e
found short (Row fields piece) text behind x e = found short piece text behind x e

value_gives : {E : Type 0} (N : Type 0) (short : E) (front behind : List ℕ) (d : LowBits) → SaidBy {N = N} {E = E} Value d front → next_value short (front ++ behind) ≡ Ok (d, behind)
value_gives N short front behind d is =
    let counted : record { count = value_bits (length front); value = d.value } ≡ d = ap (λ n. record { count = n; value = d.value }) (sym is.1) in
    value_given short front behind d.value is.0 ∙ ap (λ (x : LowBits). Ok (x, behind)) counted

octet_gives : {E : Type 0} (short : E) (front behind : List ℕ) (x : ℕ) → front ≡ x ∷ [] → next_octet short (front ++ behind) ≡ Ok (x, behind)
unfolding next_octet
octet_gives short front behind x is = rw is refl

word_gives : {E : Type 0} (N : Type 0) (short : E) (front behind : List ℕ) (x : ℕ) → SaidBy {N = N} {E = E} Word x front → next_word short (front ++ behind) ≡ Ok (x, behind)
unfolding next_octet next_word
word_gives N short front behind x n = rw (n.2, n.3) refl

-- and what a prefix says is read
pub gives : {N E A : Type 0} (short : E) (piece : Piece N E A) (front behind : List ℕ) (x : A) → SaidBy piece x front → reads short piece (front ++ behind) ≡ Ok (x, behind)
gives short Octet front behind x is = octet_gives short front behind x is
gives {N} short Word front behind x is = word_gives N short front behind x is
gives {N} short Value front behind x is = value_gives N short front behind x is
gives short (Says x) front behind y is = rw (is.0, is.1) refl
gives short (Then first more) front behind y n =
    ap (λ (t : List ℕ). reads short first (t ++ behind) >>= λ x. reads short (more x.0) x.1) n.3
    ∙ ap (λ (t : List ℕ). reads short first t >>= λ x. reads short (more x.0) x.1) (append_assoc n.1 n.2 behind)
    ∙ ap (λ r. r >>= λ x. reads short (more x.0) x.1) (gives short first n.1 (n.2 ++ behind) n.0 n.4)
    ∙ gives short (more n.0) n.2 behind y n.5
gives short (IfNamed true piece) front behind None is = absurd is
gives short (IfNamed true piece) front behind (Some x) is = ap (λ r. r >>= λ x. Ok (Some x.0, x.1)) (gives short piece front behind x is)
gives short (IfNamed false piece) front behind y is = rw (is.0, is.1) refl
gives short (Which true first other) front behind x is = gives short first front behind x is
gives short (Which false first other) front behind x is = gives short other front behind x is
gives short (As f piece) front behind y n = rw n.2 (ap (λ r. r >>= λ x. Ok (f x.0, x.1)) (gives short piece front behind n.0 n.1))
gives {E} {A} short (Judged fault piece) front behind y n =
    ap (λ r. r >>= λ x. judged (fault x.0) x) (gives short piece front behind y n.0) ∙ ap (λ r. judged {A = A × List ℕ} r (y, behind)) n.1
gives short (Unless None piece) front behind y n = gives short piece front behind y n.1
gives short (Unless (Some refusal) piece) front behind y n = let never = n.0 in cc
gives short (Called name piece) front behind x is = gives short piece front behind x is
gives short (Row fields piece) front behind x is = gives short piece front behind x is

-- What is read is what a prefix of the octets says.
pub reads_what_is_said : {N E A : Type 0} (short : E) (piece : Piece N E A) (text behind : List ℕ) (x : A) → (reads short piece text ≡ Ok (x, behind)) ↔ Found piece x text behind
reads_what_is_said short piece text behind x =
    (found short piece text behind x, λ is. ap (λ t. reads short piece t) is.1 ∙ gives short piece is.0 behind x is.2)

-- What a piece says before other octets: the same by its parts.
pub apart : {N E A B : Type 0} (first : Piece N E A) (more : A → Piece N E B) (Behind : B → List ℕ → Type 0) (text : List ℕ) →
    SaidBefore (Then first more) Behind text → SaidBefore first (λ x. SaidBefore (more x) Behind) text
apart first more Behind text (y, front, behind, whole, (x, a, b, both, is_first, is_more), is_behind) =
    (x, a, b ++ behind, whole ∙ ap (λ (t : List ℕ). t ++ behind) both ∙ append_assoc a b behind, is_first, (y, b, behind, refl, is_more, is_behind))

pub together : {N E A B : Type 0} (first : Piece N E A) (more : A → Piece N E B) (Behind : B → List ℕ → Type 0) (text : List ℕ) →
    SaidBefore first (λ x. SaidBefore (more x) Behind) text → SaidBefore (Then first more) Behind text
together first more Behind text (x, a, t, whole, is_first, (y, b, behind, both, is_more, is_behind)) =
    (y, a ++ b, behind, whole ∙ ap (λ (t : List ℕ). a ++ t) both ∙ sym (append_assoc a b behind), (x, a, b, refl, is_first, is_more), is_behind)

pub before_map : {N E A : Type 0} (piece : Piece N E A) (R S : A → List ℕ → Type 0) (text : List ℕ) → ((x : A) (behind : List ℕ) → R x behind → S x behind) → SaidBefore piece R text → SaidBefore piece S text
before_map piece R S text f (x, front, behind, whole, is, r) = (x, front, behind, whole, is, f x behind r)

-- no octets say this
pub before_says : {A : Type 0} (N E : Type 0) (said : A) (R : A → List ℕ → Type 0) (text : List ℕ) → SaidBefore {N = N} {E = E} (Says said) R text → R said text
before_says N E said R text (x, front, behind, whole, is, r) =
    let end : behind ≡ text = sym (whole ∙ ap (λ (t : List ℕ). t ++ behind) is.0) in
    subst (R said) end (subst (λ y. R y behind) is.1 r)

-- why a reading is refused, if it is
abbrev pub fault_in : {E A : Type 0} → Result A E → Option E
fault_in (Ok x) = None
fault_in (Err refusal) = Some refusal

pub fault_in_refusal : {E A : Type 0} (r : Result A E) (refusal : E) → (r ≡ Err refusal) ↔ (fault_in r ≡ Some refusal)
fault_in_refusal (Ok x) refusal = (λ e. cc, λ e. cc)
fault_in_refusal (Err other) refusal = (λ e. cc, λ e. cc)

-- a fault of two steps is one of the first, or else of the second
in_turn : {E A B : Type 0} (r : Result (A × List ℕ) E) (k : A × List ℕ → Result B E) (f : Option E) (g : A → List ℕ → Option E) →
    fault_in r ≡ f → ((x : A) (behind : List ℕ) → fault_in (k (x, behind)) ≡ g x behind) → fault_in (r >>= k) ≡ or_else f (fault_after r g)
in_turn (Ok x) k f g e same = same x.0 x.1 ∙ ap (λ o. or_else o (g x.0 x.1)) e
in_turn (Err refusal) k f g e same = ap (λ o. or_else o None) e

-- what is made of a reading is refused where the reading is
made : {E A B : Type 0} (r : Result (A × List ℕ) E) (f : A × List ℕ → B) → fault_in (r >>= λ x. Ok (f x)) ≡ fault_in r
made (Ok x) f = refl
made (Err refusal) f = refl

judged_fault : {E A : Type 0} (fault : Option E) (x : A) → fault_in (judged fault x) ≡ fault
judged_fault None x = refl
judged_fault (Some refusal) x = refl

unless_fault : {E A : Type 0} (fault : Option E) (text : List ℕ) (r : Result A E) (f : Option E) → fault_in r ≡ f → fault_in (judged fault text >>= λ _. r) ≡ or_else fault f
unless_fault None text r f e = e
unless_fault (Some refusal) text r f e = refl

octet_fault : {E : Type 0} (short : E) (text : List ℕ) → fault_in (next_octet short text) ≡ short_of short 1 text
unfolding next_octet
octet_fault short [] = refl
octet_fault short (a ∷ text) = refl

word_fault : {E : Type 0} (short : E) (text : List ℕ) → fault_in (next_word short text) ≡ short_of short 2 text
unfolding next_octet next_word
word_fault short [] = refl
word_fault short (a ∷ []) = refl
word_fault short (a ∷ b ∷ text) = refl

value_fault : {E : Type 0} (short : E) (text : List ℕ) (value : Option (ℕ × ℕ)) → fault_in (value_or short text value) ≡ cut_off short value
value_fault short text None = refl
value_fault short text (Some value) = refl

next_value_fault : {E : Type 0} (short : E) (text : List ℕ) → fault_in (next_value short text) ≡ cut_off short (front_value text)
unfolding next_value
next_value_fault short text = value_fault short text (front_value text)

pub is_first_fault : {N E A : Type 0} (short : E) (piece : Piece N E A) (text : List ℕ) → fault_in (reads short piece text) ≡ first_fault short piece text
is_first_fault short Octet text = octet_fault short text
is_first_fault short Word text = word_fault short text
is_first_fault short Value text = next_value_fault short text
is_first_fault short (Says x) text = refl
is_first_fault short (Then first more) text =
    in_turn (reads short first text) (λ x. reads short (more x.0) x.1) (first_fault short first text) (λ x behind. first_fault short (more x) behind)
    (is_first_fault short first text) (λ x behind. is_first_fault short (more x) behind)
is_first_fault short (IfNamed true piece) text = made (reads short piece text) (λ x. (Some x.0, x.1)) ∙ is_first_fault short piece text
is_first_fault short (IfNamed false piece) text = refl
is_first_fault short (Which true first other) text = is_first_fault short first text
is_first_fault short (Which false first other) text = is_first_fault short other text
is_first_fault short (As f piece) text = made (reads short piece text) (λ x. (f x.0, x.1)) ∙ is_first_fault short piece text
is_first_fault short (Judged fault piece) text =
    in_turn (reads short piece text) (λ x. judged (fault x.0) x) (first_fault short piece text) (λ x _. fault x)
    (is_first_fault short piece text) (λ x behind. judged_fault (fault x) (x, behind))
is_first_fault short (Unless fault piece) text = unless_fault fault text (reads short piece text) (first_fault short piece text) (is_first_fault short piece text)
is_first_fault short (Called name piece) text = is_first_fault short piece text
is_first_fault short (Row fields piece) text = is_first_fault short piece text

-- A refusal is the first fault. So nothing is read exactly where there is a fault.
pub refuses_first_fault : {N E A : Type 0} (short : E) (piece : Piece N E A) (text : List ℕ) (refusal : E) → (reads short piece text ≡ Err refusal) ↔ (first_fault short piece text ≡ Some refusal)
refuses_first_fault short piece text refusal =
    let same = is_first_fault short piece text in
    let is = fault_in_refusal (reads short piece text) refusal in
    (λ e. sym same ∙ is.0 e, λ e. is.1 (same ∙ e))

both : {E A : Type 0} (v w : A) (x y : List ℕ) (r : Result (A × List ℕ) E) → r ≡ Ok (v, x) → r ≡ Ok (w, y) → (v ≡ w) × (x ≡ y)
both {E} v w x y r e f = ok_parts {E = E} v w x y (sym e ∙ f)

-- Of all prefixes of a text at most one says something, and it says one thing.
pub says_one : {N E A : Type 0} (short : E) (piece : Piece N E A) (a b x y : List ℕ) (v w : A) → a ++ x ≡ b ++ y → SaidBy piece v a → SaidBy piece w b → (a ≡ b) × (v ≡ w)
says_one short piece a b x y v w e p q =
    let is = both v w x y (reads short piece (a ++ x)) (gives short piece a x v p) (ap (reads short piece) e ∙ gives short piece b y w q) in
    (append_cancel_right a b y (ap (λ (t : List ℕ). a ++ t) (sym is.1) ∙ e), is.0)
