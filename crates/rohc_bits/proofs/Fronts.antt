-- What stands at the front of a text is read, and what is read stands there.
use Rattle.std.proofs.Common.{◌≡◌, ◌==◌, ℕ, ◌+◌, ◌-◌, ◌*◌, ◌/◌, ◌%◌, ◌<◌, ◌≤◌, inl, inr, Bool, true, false, List, [], ◌∷◌, ◌++◌, length, take, drop, Option, Some, None, refl, sym, ap, ◌∙◌, get_or, Fits, w8, arith, subst}
use Rattle.std.specs.Prelude.{All, nat_le, IfSome}
use mathlib.Core.List.{append_assoc}
use Rattle.std.proofs.lemmas.Bool.Decides.{nat_tests}
use Rattle.std.proofs.lemmas.List.{take-append-drop, length-take-le, length-append}
use Rattle.std.proofs.lemmas.List.Concat.{flat_map-append}
use Rattle.std.proofs.lemmas.List.Elements.{All-nil, All-cons, All-head, All-tail, All-from_get_or}
use Rattle.rohc_bits.specs.Bits.{bits, number, bits_of}
use Rattle.rohc_bits.specs.Spelling.{StandsBehind, IsSpelled, Spells, FrontsAgree}
use Rattle.rohc_bits.specs.Fronts.{FrontIsSpelled, front_value, octets_said, value_bits, value_of}
use Rattle.rohc_bits.proofs.BitLists.{length-bits_of}

-- the front of so many octets is the spelling
take_front : {A : Type 0} (t rest : List A) → take (length t) (t ++ rest) ≡ t
take_front [] rest = refl
take_front (a ∷ t) rest = ap (λ more. a ∷ more) (take_front t rest)

-- what stands behind a front
pub drop_front : {A : Type 0} (t rest : List A) → drop (length t) (t ++ rest) ≡ rest
drop_front [] rest = refl
drop_front (a ∷ t) rest = drop_front t rest

-- A value that stands at the front is read, if its first bits say how many octets it has.
behind_read : (first : List Bool) (n : ℕ) (t rest : List ℕ) (v : ℕ) → length first + value_bits n ≡ 8 * n →
    ((more : List Bool) → octets_said (first ++ more) ≡ n) → StandsBehind first (value_bits n) t v →
    front_value (t ++ rest) ≡ Some (v, length t)
unfolding front_value
behind_read first n t rest v size says is =
    let whole : bits_of (t ++ rest) ≡ first ++ (is.digits ++ bits_of rest) =
    flat_map-append (bits 8) t rest ∙ ap (λ bs. bs ++ bits_of rest) is.whole ∙ append_assoc first is.digits (bits_of rest) in
    let said : octets_said (bits_of (t ++ rest)) ≡ n = ap octets_said whole ∙ says (is.digits ++ bits_of rest) in
    let octets : length t ≡ n = omega (arith, size, length-bits_of t, ap length is.whole, length-append first is.digits, is.counted) in
    let enough : nat_le n (length (t ++ rest)) ≡ true = grind (arith, nat_tests, length-append t rest) in
    let front : take n (t ++ rest) ≡ t = ap (λ k. take k (t ++ rest)) (sym octets) ∙ take_front t rest in
    let skipped : 8 * n - value_bits n ≡ length first = omega (arith, size) in
    let digits : drop (length first) (bits_of t) ≡ is.digits = ap (drop (length first)) is.whole ∙ drop_front first is.digits in
    rw (said, enough, front, skipped, digits, octets, ← is.number) refl

-- a value that stands at the front is read
pub front_read : (t rest : List ℕ) (v : ℕ) → Spells t v → front_value (t ++ rest) ≡ Some (v, length t)
front_read t rest v (inl s) = behind_read (false ∷ []) 1 t rest v refl (λ more. refl) s
front_read t rest v (inr (inl s)) = behind_read (true ∷ false ∷ []) 2 t rest v refl (λ more. refl) s
front_read t rest v (inr (inr (inl s))) = behind_read (true ∷ true ∷ false ∷ []) 3 t rest v refl (λ more. refl) s
front_read t rest v (inr (inr (inr s))) = behind_read (true ∷ true ∷ true ∷ []) 4 t rest v refl (λ more. refl) s

-- where a value was read, its spelling and what stands behind it
pub record FrontValue (text : List ℕ) (v count : ℕ) : Type 0 where
  pub spelling : List ℕ
  pub rest : List ℕ
  pub whole : text ≡ spelling ++ rest
  pub counted : count ≡ length spelling
  pub spells : Spells spelling v

-- what was read is this value and this count
pair_is : (x y n m : ℕ) → ◌≡◌ {A = Option (ℕ × ℕ)} (Some (x, n)) (Some (y, m)) → (x ≡ y) × (n ≡ m)
pair_is x y n m e =
    let both : ◌≡◌ {A = ℕ × ℕ} (x, n) (y, m) = cc in
    (ap (λ (p : ℕ × ℕ). p.0) both, ap (λ (p : ℕ × ℕ). p.1) both)

read_by : (enough : Bool) (n : ℕ) (text : List ℕ) (v count : ℕ) → nat_le n (length text) ≡ enough → value_of n text ≡ Some (v, count) →
    (n ≤ length text) × (number (drop (8 * n - value_bits n) (bits_of (take n text))) ≡ v) × (n ≡ count)
read_by true n text v count test e =
    let is = pair_is (number (drop (8 * n - value_bits n) (bits_of (take n text)))) v n count (rw test at e) in
    (grind (arith, nat_tests), is.0, is.1)
read_by false n text v count test e =
    let none : ◌≡◌ {A = Option (ℕ × ℕ)} None (Some (v, count)) = rw test at e in cc

-- The value of so many octets that begin with these bits stands behind them.
behind_found : (first digits : List Bool) (n : ℕ) (text : List ℕ) (v count : ℕ) → length first + value_bits n ≡ 8 * n →
    bits_of (take n text) ≡ first ++ digits → value_of n text ≡ Some (v, count) →
    ((t : List ℕ) → StandsBehind first (value_bits n) t v → Spells t v) → FrontValue text v count
behind_found first digits n text v count size begins e spells =
    let is = read_by (nat_le n (length text)) n text v count refl e in
    let octets : length (take n text) ≡ n = length-take-le n text is.0 in
    let skipped : 8 * n - value_bits n ≡ length first = omega (arith, size) in
    let last : drop (8 * n - value_bits n) (bits_of (take n text)) ≡ digits =
    ap (λ k. drop k (bits_of (take n text))) skipped ∙ ap (drop (length first)) begins ∙ drop_front first digits in
    record {
      spelling = take n text;
      rest = drop n text;
      whole = sym (take-append-drop n text);
      counted = sym is.2 ∙ sym octets;
      spells = spells (take n text) (record {
        digits = digits;
        whole = begins;
        counted = omega (arith, size, octets, length-bits_of (take n text), ap length begins, length-append first digits);
        number = sym is.1 ∙ ap number last;
      });
    }

-- how many octets the first bits say
found_by : (one two three : Bool) (a : ℕ) (text : List ℕ) (v count : ℕ) →
    (a / 128 % 2 == 1) ≡ one → (a / 64 % 2 == 1) ≡ two → (a / 32 % 2 == 1) ≡ three → front_value (a ∷ text) ≡ Some (v, count) → FrontValue (a ∷ text) v count
unfolding front_value bits
found_by false two three a text v count x y z e =
    behind_found (false ∷ []) (bits 7 a ++ []) 1 (a ∷ text) v count refl (λ i. x i ∷ (bits 7 a ++ [])) (rw x at e) (λ t s. inl s)
found_by true false three a text v count x y z e =
    behind_found (true ∷ false ∷ []) (bits 6 a ++ bits_of (take 1 text)) 2 (a ∷ text) v count refl
    (λ i. x i ∷ y i ∷ (bits 6 a ++ bits_of (take 1 text))) (rw (x, y) at e) (λ t s. inr (inl s))
found_by true true false a text v count x y z e =
    behind_found (true ∷ true ∷ false ∷ []) (bits 5 a ++ bits_of (take 2 text)) 3 (a ∷ text) v count refl
    (λ i. x i ∷ y i ∷ z i ∷ (bits 5 a ++ bits_of (take 2 text))) (rw (x, y, z) at e) (λ t s. inr (inr (inl s)))
found_by true true true a text v count x y z e =
    behind_found (true ∷ true ∷ true ∷ []) (bits 5 a ++ bits_of (take 3 text)) 4 (a ∷ text) v count refl
    (λ i. x i ∷ y i ∷ z i ∷ (bits 5 a ++ bits_of (take 3 text))) (rw (x, y, z) at e) (λ t s. inr (inr (inr s)))

-- a value that was read stands at the front
pub front_found : (text : List ℕ) (v count : ℕ) → front_value text ≡ Some (v, count) → FrontValue text v count
unfolding front_value bits
front_found [] v count e = cc
front_found (a ∷ text) v count e = found_by (a / 128 % 2 == 1) (a / 64 % 2 == 1) (a / 32 % 2 == 1) a text v count refl refl refl e

-- behind a value that was read
pub behind_value : (text : List ℕ) (v count : ℕ) → (front : FrontValue text v count) → drop count text ≡ front.rest
behind_value text v count front = ap (λ n. drop n text) front.counted ∙ ap (drop (length front.spelling)) front.whole ∙ drop_front front.spelling front.rest

all_octets : (text : List ℕ) → ((i : ℕ) → Fits w8 (get_or text i 0)) → All (λ octet. octet < 256) text
all_octets text fits = All-from_get_or (λ octet. octet < 256) text 0 (λ i _. omega (arith, fits i))

pub all_front : (t rest : List ℕ) → All (λ octet. octet < 256) (t ++ rest) → All (λ octet. octet < 256) t
all_front [] rest all = All-nil (λ octet. octet < 256)
all_front (a ∷ t) rest all = All-cons (λ octet. octet < 256) a t (All-head (λ octet. octet < 256) a (t ++ rest) all) (all_front t rest (All-tail (λ octet. octet < 256) a (t ++ rest) all))

front_spelled : (text : List ℕ) (value count : ℕ) → All (λ octet. octet < 256) text → front_value text ≡ Some (value, count) → (count ≤ length text) × IsSpelled (take count text) value
front_spelled text value count all is =
    let front = front_found text value count is in
    let octets = all_front front.spelling front.rest (subst (All (λ octet. octet < 256)) front.whole all) in
    let spelling : take count text ≡ front.spelling = ap (λ n. take n text) front.counted ∙ ap (take (length front.spelling)) front.whole ∙ take_front front.spelling front.rest in
    let whole : length text ≡ length front.spelling + length front.rest = ap length front.whole ∙ length-append front.spelling front.rest in
    let counted : count ≡ length front.spelling = front.counted in
    (omega (arith, whole, counted), subst (λ (t : List ℕ). IsSpelled t value) (sym spelling) (record { octets = octets; spells = front.spells }))

spelled_front : (text : List ℕ) (value count : ℕ) → count ≤ length text → IsSpelled (take count text) value → front_value text ≡ Some (value, count)
spelled_front text value count within spelled =
    let counted : length (take count text) ≡ count = length-take-le count text within in
    ap front_value (sym (take-append-drop count text)) ∙ front_read (take count text) (drop count text) value spelled.spells ∙ ap (λ n. Some (value, n)) counted

pub front_is_spelled : FrontIsSpelled
front_is_spelled = λ text value count all. (front_spelled text value count all, λ is. spelled_front text value count is.0 is.1)

-- it can't have missed what stands there
missed_nothing : (text : List ℕ) (found : Option (ℕ × ℕ)) → All (λ octet. octet < 256) text → front_value text ≡ found →
    ((t rest : List ℕ) (v : ℕ) → text ≡ t ++ rest → IsSpelled t v → ◌≡◌ {A = Option (ℕ × ℕ)} None (Some (v, length t))) → None ≡ found
missed_nothing text None all is every = refl
missed_nothing text (Some (v, count)) all is every =
    let front = front_found text v count is in
    let octets = all_front front.spelling front.rest (subst (All (λ octet. octet < 256)) front.whole all) in
    every front.spelling front.rest v front.whole (record { octets = octets; spells = front.spells }) ∙ ap (λ n. Some (v, n)) (sym front.counted)

-- What answers the value that a front of octets spells, and misses none, reads from left to right.
pub read_is_front : (text : List ℕ) (read : Option (ℕ × ℕ)) → ((i : ℕ) → Fits w8 (get_or text i 0)) →
    IfSome read (λ r. r.1 ≤ length text) → IfSome read (λ r. IsSpelled (take r.1 text) r.0) →
    ((t rest : List ℕ) (v : ℕ) → text ≡ t ++ rest → IsSpelled t v → read ≡ Some (v, length t)) → read ≡ front_value text
read_is_front text None fits within spelled every = missed_nothing text (front_value text) (all_octets text fits) refl every ∙ refl
read_is_front text (Some (v, count)) fits within spelled every =
    sym (spelled_front text v count within spelled)

-- Fronts of one text that spell values are read alike.
pub fronts_agree : FrontsAgree
fronts_agree a b x y v w same of_v of_w =
    let read = sym (front_read a x v of_v.spells) ∙ ap front_value same ∙ front_read b y w of_w.spells in
    let is = pair_is v w (length a) (length b) read in
    (sym (take_front a x) ∙ ap (λ n. take n (a ++ x)) is.1 ∙ ap (take (length b)) same ∙ take_front b y, is.0)
