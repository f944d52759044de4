-- Words and numbers of a line.
use Rattle.std.proofs.Common.{◌≡◌, ℕ, ◌+◌, ◌%◌, ◌<◌, ◌≤◌, ◌^◌, List, [], ◌∷◌, ◌++◌, length, take, drop, ◌-◌, length-drop, drop-cons, get_or, slice_index, Bool, true, false, ◌||◌, ◌==◌, Option, Some, None, IfSome, IfNone, IsUtf8, arith, eqb-true, length-take, ⊎_elim, refl, sym, ◌∙◌, ap, subst, ne_eqb, zero, suc}
use Rattle.std.specs.Fmt.{decimal}
use Rattle.std.proofs.lemmas.Bool.{cases_Bool}
use Rattle.std.proofs.lemmas.Fmt.{decimal_by_steps}
use Rattle.std.proofs.lemmas.List.{get_or-take, take_all, take-append-drop}
use Rattle.std.proofs.lemmas.List.Elements.{All-from_get_or}
use Rattle.std.proofs.lemmas.List.Folds.{list_any_none, list_any-append}
use Rattle.std.proofs.lemmas.Str.{IsUtf8-from_ascii, IsUtf8-append}
use Rattle.memchr.specs.Find.{IsFirstByte, Nowhere, Passes, is_byte}
use Rattle.rohc_totals.specs.Answer.{has_space}

-- where no place below is a space, none is there
passed_over : (octets : List ℕ) (k : ℕ) → k ≤ length octets → Nowhere (Passes (is_byte 32) octets) 0 k → has_space (take k octets) ≡ false
passed_over octets k within nowhere =
    list_any_none (is_byte 32) (take k octets)
    (All-from_get_or (λ (octet : ℕ). is_byte 32 octet ≡ false) (take k octets) 0 (λ i below.
    let size = length-take k octets in
    let inside : i < k = omega (arith, size, below) in
    rw (get_or-take k octets i 0 inside)
    (⊎_elim (λ yes. absurd (nowhere i (omega arith) inside yes)) (λ no. no) (cases_Bool (is_byte 32 (slice_index octets i))))))

pub first_found : (octets : List ℕ) (r : Option ℕ) → IsFirstByte (is_byte 32) octets r
    → IfSome r (λ i. (i < length octets) × (slice_index octets i ≡ 32) × (has_space (take i octets) ≡ false))
first_found octets None first = tt
first_found octets (Some i) first =
    (first.0.high, eqb-true (slice_index octets i) 32 first.1, passed_over octets i (omega (arith, first.0.high)) first.0.before)

pub none_found : (octets : List ℕ) (r : Option ℕ) → IsFirstByte (is_byte 32) octets r → IfNone r (has_space octets ≡ false)
none_found octets (Some i) first = tt
none_found octets None nowhere =
    list_any_none (is_byte 32) octets
    (All-from_get_or (λ (octet : ℕ). is_byte 32 octet ≡ false) octets 0 (λ i below.
    ⊎_elim (λ yes. absurd (nowhere i (omega arith) below yes)) (λ no. no) (cases_Bool (is_byte 32 (slice_index octets i)))))

neither : (a b : Bool) → (a || b) ≡ false → (a ≡ false) × (b ≡ false)
neither false false e = (refl, refl)
neither false true e = cc
neither true b e = cc

both_false : (a b : Bool) → a ≡ false → b ≡ false → (a || b) ≡ false
both_false a b p q = rw (p, q) refl

-- the text before the first space is one text
pub one_split : (a b x y : List ℕ) → has_space a ≡ false → has_space b ≡ false → a ++ 32 ∷ x ≡ b ++ 32 ∷ y → (a ≡ b) × (x ≡ y)
one_split [] [] x y p q e = (refl, cc)
one_split [] (b ∷ bs) x y p q e = let first : 32 ≡ b = cc in let no = (neither (b == 32) (has_space bs) q).0 in absurd (let wrong : (32 == 32) ≡ false = subst (λ n. (n == 32) ≡ false) (sym first) no in cc)
one_split (a ∷ rest) [] x y p q e = let first : a ≡ 32 = cc in let no = (neither (a == 32) (has_space rest) p).0 in absurd (let wrong : (32 == 32) ≡ false = subst (λ n. (n == 32) ≡ false) first no in cc)
one_split (a ∷ front) (b ∷ bs) x y p q e =
    let rest = one_split front bs x y (neither (a == 32) (has_space front) p).1 (neither (b == 32) (has_space bs) q).1 cc in
    let first : a ≡ b = cc in
    (rw (first, rest.0) refl, rest.1)

-- a text with a space has one
pub space_there : (a x : List ℕ) → has_space (a ++ 32 ∷ x) ≡ true
space_there [] x = refl
space_there (a ∷ more) x = let rest = space_there more x in elim (a == 32) as (λ b. (b || has_space (more ++ 32 ∷ x)) ≡ true) [ true ↦ refl | false ↦ rest ]

-- a number has no space, and is ASCII
pub no_space : (n : ℕ) → n < 2 ^ 64 → has_space (decimal n) ≡ false
no_space n fits = decimal_by_steps (λ m text. has_space text ≡ false)
    (λ m small. both_false ((48 + m) == 32) false (ne_eqb (48 + m) 32 (λ e. omega arith)) refl)
    (λ m text great h. list_any-append (λ (octet : ℕ). octet == 32) text ((48 + m % 10) ∷ [])
    ∙ both_false (has_space text) (has_space ((48 + m % 10) ∷ [])) h (both_false ((48 + m % 10) == 32) false (ne_eqb (48 + m % 10) 32 (λ e. omega arith)) refl))
    n fits

pub number_utf8 : (n : ℕ) → n < 2 ^ 64 → IsUtf8 (decimal n)
number_utf8 n fits = decimal_by_steps (λ m text. IsUtf8 text)
    (λ m small. IsUtf8-from_ascii ((48 + m) ∷ []) (λ i. one_ascii (48 + m) (omega arith) i))
    (λ m text great h. IsUtf8-append text ((48 + m % 10) ∷ []) h (IsUtf8-from_ascii ((48 + m % 10) ∷ []) (λ i. one_ascii (48 + m % 10) (omega arith) i)))
    n fits
  where
    one_ascii : (d : ℕ) → d < 128 → (i : ℕ) → get_or (d ∷ []) i 0 < 128
    one_ascii d small zero = small
    one_ascii d small (suc i) = omega arith

-- a text is what stands before a space, the space, and what stands behind it
pub parts : (text : List ℕ) (p : ℕ) → p < length text → slice_index text p ≡ 32 → text ≡ take p text ++ 32 ∷ take (length text - (p + 1)) (drop (p + 1) text)
parts text p within space =
    let rest = length-drop (p + 1) text in
    let all : take (length text - (p + 1)) (drop (p + 1) text) ≡ drop (p + 1) text = take_all (length text - (p + 1)) (drop (p + 1) text) (omega (arith, rest)) in
    let here : drop p text ≡ 32 ∷ drop (p + 1) text = drop-cons text p 0 within ∙ (let same : suc p ≡ p + 1 = omega arith in ap (λ q. get_or text p 0 ∷ drop q text) same) ∙ ap (λ o. o ∷ drop (p + 1) text) space in
    sym (take-append-drop p text) ∙ ap (λ t. take p text ++ t) here ∙ ap (λ t. take p text ++ 32 ∷ t) (sym all)

-- behind one number and a space there is one text
pub one_field : (m n : ℕ) (x y : List ℕ) → m < 2 ^ 16 → n < 2 ^ 16 → decimal m ++ 32 ∷ x ≡ decimal n ++ 32 ∷ y → x ≡ y
one_field m n x y p q e = (one_split (decimal m) (decimal n) x y (no_space m (omega (arith, p))) (no_space n (omega (arith, q))) e).1
