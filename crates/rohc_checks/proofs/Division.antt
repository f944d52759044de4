-- Checks by polynomial division: fed bit by bit, in two parts, and by a table, for any polynomial.
use Rattle.std.proofs.Common.{◌≡◌, ◌==◌, ℕ, zero, suc, ◌+◌, ◌-◌, ◌*◌, ◌/◌, ◌%◌, ◌^◌, ◌<◌, ◌≤◌, Bool, true, false, cond, if◌then◌else◌, List, [], ◌∷◌, ◌++◌, length, drop, replicate, get_or, refl, sym, ap, ◌∙◌, arith, bit_and, bit_xor, zero-add, add-one, drop-cons, subst}
use Rattle.std.proofs.Math.Bool.{xor}
use Rattle.std.proofs.lemmas.List.{length-append, length-drop, length-replicate, append-nil}
use Rattle.std.proofs.lemmas.List.Concat.{flat_map-append}
use Rattle.std.proofs.lemmas.List.FromFn.{get_or-map-range_with_len}
use Rattle.std.proofs.lemmas.Nat.{and_mask, xor_lt, xor_mod, xor_shr, mod-pow-add}
use Rattle.std.proofs.Math.Nat.{mod-eq_of_lt, pow-suc, suc-add}
use Rattle.std.proofs.Math.Pow.{pow_mono}
use Rattle.std.proofs.lemmas.Bool.{eq-eqb, ne_eqb}
use Rattle.std.proofs.lemmas.Bool.Decides.{nat_tests}
use Rattle.rohc_checks.specs.Division.{bits, number, message, degree, add_front, divided, remainder, check, poly8, table_of}

-- ---- addition without carry

pub length-add_front : (xs ys : List Bool) → length (add_front xs ys) ≡ length ys
unfolding add_front
length-add_front [] ys = refl
length-add_front (x ∷ xs) [] = refl
length-add_front (x ∷ xs) (y ∷ ys) = ap suc (length-add_front xs ys)

xor_assoc : (x y z : Bool) → xor x (xor y z) ≡ xor (xor x y) z
unfolding xor
xor_assoc true true true = refl
xor_assoc true true false = refl
xor_assoc true false true = refl
xor_assoc true false false = refl
xor_assoc false true true = refl
xor_assoc false true false = refl
xor_assoc false false true = refl
xor_assoc false false false = refl

xor-false : (y : Bool) → xor false y ≡ y
unfolding xor
xor-false true = refl
xor-false false = refl

add_front_assoc : (xs ys zs : List Bool) → length xs ≤ length ys → add_front xs (add_front ys zs) ≡ add_front (add_front xs ys) zs
unfolding add_front
add_front_assoc [] ys zs h = refl
add_front_assoc (x ∷ xs) [] zs h = grind arith
add_front_assoc (x ∷ xs) (y ∷ ys) [] h = refl
add_front_assoc (x ∷ xs) (y ∷ ys) (z ∷ zs) h = rw (xor_assoc x y z, add_front_assoc xs ys zs (omega arith))

-- zeros behind what is added change nothing
add_front-zeros : (xs ys : List Bool) (k : ℕ) → add_front (xs ++ replicate k false) ys ≡ add_front xs ys
unfolding add_front
add_front-zeros [] ys zero = refl
add_front-zeros [] [] (suc k) = refl
add_front-zeros [] (y ∷ ys) (suc k) = rw (xor-false y, add_front-zeros [] ys k)
add_front-zeros (x ∷ xs) [] k = refl
add_front-zeros (x ∷ xs) (y ∷ ys) k = ap (λ zs. xor x y ∷ zs) (add_front-zeros xs ys k)

-- nor do zeros to which it is added
add_front-to_zeros : (xs : List Bool) (k : ℕ) → length xs ≡ k → add_front xs (replicate k false) ≡ xs
unfolding add_front xor
add_front-to_zeros [] zero h = refl
add_front-to_zeros [] (suc k) h = cc
add_front-to_zeros (x ∷ xs) zero h = cc
add_front-to_zeros (true ∷ xs) (suc k) h = ap (λ zs. true ∷ zs) (add_front-to_zeros xs k (cc))
add_front-to_zeros (false ∷ xs) (suc k) h = ap (λ zs. false ∷ zs) (add_front-to_zeros xs k (cc))

-- places past those that are changed stay
add_front-append : (xs ys zs : List Bool) → length xs ≤ length ys → add_front xs (ys ++ zs) ≡ add_front xs ys ++ zs
unfolding add_front
add_front-append [] ys zs h = refl
add_front-append (x ∷ xs) [] zs h = grind arith
add_front-append (x ∷ xs) (y ∷ ys) zs h = ap (λ ws. xor x y ∷ ws) (add_front-append xs ys zs (omega arith))

-- ---- numbers and their bits

pub length-bits : (k n : ℕ) → length (bits k n) ≡ k
unfolding bits
length-bits zero n = refl
length-bits (suc k) n = ap suc (length-bits k (n / 2))

-- the lowest bit
odd_value : (n : ℕ) → (if n % 2 == 1 then 1 else 0) ≡ n % 2
odd_value n = grind (arith, nat_tests)

pub number-bits : (k n : ℕ) → number (bits k n) ≡ n % 2 ^ k
unfolding bits number
number-bits zero n = omega arith
number-bits (suc k) n = rw (odd_value n, number-bits k (n / 2)) (omega (arith, rw (add-one k) at (mod-pow-add n k 1)))

pub number-lt : (bs : List Bool) → number bs < 2 ^ length bs
unfolding number
number-lt [] = omega arith
number-lt (true ∷ bs) = omega (arith, number-lt bs, pow-suc 2 (length bs))
number-lt (false ∷ bs) = omega (arith, number-lt bs, pow-suc 2 (length bs))

odd_true : (m n : ℕ) → n ≡ 1 + 2 * m → ((n % 2 == 1) ≡ true) × (n / 2 ≡ m)
odd_true m n h = (eq-eqb (n % 2) 1 (omega arith), omega arith)

odd_false : (m n : ℕ) → n ≡ 2 * m → ((n % 2 == 1) ≡ false) × (n / 2 ≡ m)
odd_false m n h = (ne_eqb (n % 2) 1 (λ e. omega arith), omega arith)

pub bits-number : (bs : List Bool) → bits (length bs) (number bs) ≡ bs
unfolding bits number
bits-number [] = refl
bits-number (true ∷ bs) = let e = odd_true (number bs) (1 + 2 * number bs) refl in rw (e.0, e.1, bits-number bs)
bits-number (false ∷ bs) = let e = odd_false (number bs) (0 + 2 * number bs) (omega arith) in rw (e.0, e.1, bits-number bs)

bits-zero : (k : ℕ) → bits k 0 ≡ replicate k false
unfolding bits
bits-zero zero = refl
bits-zero (suc k) = ap (λ bs. false ∷ bs) (bits-zero k)

-- a number below 2 ^ k has no bit from k on
bits_padded : (k j n : ℕ) → n < 2 ^ k → bits (k + j) n ≡ bits k n ++ replicate j false
unfolding bits
bits_padded zero j n h = let e : n ≡ 0 = omega arith in rw (e, zero-add, bits-zero j)
bits_padded (suc k) j n h = rw (suc-add k j) (ap (λ bs. (n % 2 == 1) ∷ bs) (bits_padded k j (n / 2) (omega (arith, pow-suc 2 k))))

-- a register below 2 ^ k among the 8 bits of an octet
bits_narrow : (k n : ℕ) → k ≤ 8 → n < 2 ^ k → bits 8 n ≡ bits k n ++ replicate (8 - k) false
bits_narrow k n narrow h = let e : k + (8 - k) ≡ 8 = omega arith in subst (λ j. bits j n ≡ bits k n ++ replicate (8 - k) false) e (bits_padded k (8 - k) n h)

-- only the k low bits count
bits-mod : (k n : ℕ) → bits k (n % 2 ^ k) ≡ bits k n
bits-mod k n = ap (bits k) (sym (number-bits k n)) ∙ subst (λ j. bits j (number (bits k n)) ≡ bits k n) (length-bits k n) (bits-number (bits k n))

odd-xor : (a b : ℕ) → a < 2 → b < 2 → (bit_xor a b == 1) ≡ xor (a == 1) (b == 1)
unfolding xor
odd-xor zero zero h g = refl
odd-xor zero (suc zero) h g = refl
odd-xor (suc zero) zero h g = refl
odd-xor (suc zero) (suc zero) h g = refl
odd-xor (suc (suc a)) b h g = absurd (omega arith)
odd-xor zero (suc (suc b)) h g = absurd (omega arith)
odd-xor (suc zero) (suc (suc b)) h g = absurd (omega arith)

bits-xor : (k a b : ℕ) → bits k (bit_xor a b) ≡ add_front (bits k a) (bits k b)
unfolding bits add_front
bits-xor zero a b = refl
bits-xor (suc k) a b = rw (xor_mod a b 1, xor_shr a b 1, odd-xor (a % 2) (b % 2) (omega arith) (omega arith), bits-xor k (a / 2) (b / 2))

-- ---- bit by bit

-- the register after one more bit
fed : List Bool → List Bool → Bool → List Bool
fed lower [] bit = []
fed lower (place ∷ places) bit = cond (xor place bit) (add_front lower (places ++ false ∷ [])) (places ++ false ∷ [])

-- the register after the bits
all_fed : List Bool → List Bool → List Bool → List Bool
all_fed lower register [] = register
all_fed lower register (bit ∷ bs) = all_fed lower (fed lower register bit) bs

length-fed : (lower register : List Bool) (bit : Bool) → length (fed lower register bit) ≡ length register
unfolding fed
length-fed lower [] bit = refl
length-fed lower (place ∷ places) bit =
    elim (xor place bit) as (λ v. length (cond v (add_front lower (places ++ false ∷ [])) (places ++ false ∷ [])) ≡ suc (length places))
    [ true ↦ simp (length-add_front, length-append) (omega arith) | false ↦ simp length-append (omega arith) ]

length-all_fed : (lower register bs : List Bool) → length (all_fed lower register bs) ≡ length register
unfolding all_fed
length-all_fed lower register [] = refl
length-all_fed lower register (bit ∷ bs) = length-all_fed lower (fed lower register bit) bs ∙ length-fed lower register bit

all_fed-append : (lower register bs cs : List Bool) → all_fed lower register (bs ++ cs) ≡ all_fed lower (all_fed lower register bs) cs
unfolding all_fed
all_fed-append lower register [] cs = refl
all_fed-append lower register (bit ∷ bs) cs = all_fed-append lower (fed lower register bit) bs cs

-- one place of the division, and one bit fed
divided-place : (lower : List Bool) (place bit : Bool) (places bs : List Bool) → length lower ≡ suc (length places)
    → divided lower (suc (length bs)) (add_front (place ∷ places) ((bit ∷ bs) ++ replicate (length lower) false))
    ≡ divided lower (length bs) (add_front (fed lower (place ∷ places) bit) (bs ++ replicate (length lower) false))
unfolding divided add_front fed
divided-place lower place bit places bs h =
    let after = bs ++ replicate (length lower) false in
    let longer : length lower ≤ length (places ++ false ∷ []) = simp length-append (omega arith) in
    elim (xor place bit) as (λ v. divided lower (suc (length bs)) (v ∷ add_front places after)
    ≡ divided lower (length bs) (add_front (cond v (add_front lower (places ++ false ∷ [])) (places ++ false ∷ [])) after)) [
      | true ↦ ap (λ xs. divided lower (length bs) (add_front lower xs)) (sym (add_front-zeros places after 1)) ∙ ap (divided lower (length bs)) (add_front_assoc lower (places ++ false ∷ []) after longer)
      | false ↦ ap (divided lower (length bs)) (sym (add_front-zeros places after 1))
    ]

-- the division of all the bits at once is the register fed bit by bit
divided-all_fed : (lower register bs : List Bool) → length register ≡ length lower
    → divided lower (length bs) (add_front register (bs ++ replicate (length lower) false)) ≡ all_fed lower register bs
unfolding divided add_front fed all_fed
divided-all_fed lower register [] h = add_front-to_zeros register (length lower) h
divided-all_fed [] [] (true ∷ bs) h = divided-all_fed [] [] bs h
divided-all_fed [] [] (false ∷ bs) h = divided-all_fed [] [] bs h
divided-all_fed (c ∷ lower) [] (bit ∷ bs) h = absurd (omega arith)
divided-all_fed lower (place ∷ places) (bit ∷ bs) h =
    divided-place lower place bit places bs (sym h) ∙ divided-all_fed lower (fed lower (place ∷ places) bit) bs (length-fed lower (place ∷ places) bit ∙ h)

-- ---- the check

remainder-all_fed : (poly register bs : List Bool) → length register ≡ degree poly
    → remainder poly (add_front register (bs ++ replicate (degree poly) false)) ≡ all_fed (drop 1 poly) register bs
unfolding remainder
remainder-all_fed poly register bs h =
    let dividend = add_front register (bs ++ replicate (degree poly) false) in
    let count : length dividend - degree poly ≡ length bs = simp (length-add_front, length-append, length-replicate) (omega arith) in
    ap (λ k. divided (drop 1 poly) k dividend) count ∙ rw (length-drop 1 poly) at (divided-all_fed (drop 1 poly) register bs (h ∙ sym (length-drop 1 poly)))

-- the check by the register fed bit by bit
check-all_fed : (poly : List Bool) (reg : ℕ) (octets : List ℕ)
    → check poly reg octets ≡ number (all_fed (drop 1 poly) (bits (degree poly) reg) (message octets))
unfolding check
check-all_fed poly reg octets = ap number (remainder-all_fed poly (bits (degree poly) reg) (message octets) (length-bits (degree poly) reg))

pub check-lt : (poly : List Bool) (reg : ℕ) (octets : List ℕ) → check poly reg octets < 2 ^ degree poly
check-lt poly reg octets =
    let left = all_fed (drop 1 poly) (bits (degree poly) reg) (message octets) in
    let e : length left ≡ degree poly = length-all_fed (drop 1 poly) (bits (degree poly) reg) (message octets) ∙ length-bits (degree poly) reg in
    rw check-all_fed (subst (λ k. number left < 2 ^ k) e (number-lt left))

pub check8-lt : (reg : ℕ) (octets : List ℕ) → check poly8 reg octets < 256
unfolding poly8
check8-lt reg octets = check-lt poly8 reg octets

-- only the low bits of the register count
pub check-mod : (poly : List Bool) (reg : ℕ) (octets : List ℕ) → check poly (reg % 2 ^ degree poly) octets ≡ check poly reg octets
check-mod poly reg octets = rw (check-all_fed poly reg octets, check-all_fed poly (reg % 2 ^ degree poly) octets, bits-mod (degree poly) reg)

-- so a mask of them may stand for it
pub check-and : (poly : List Bool) (reg : ℕ) (octets : List ℕ) → check poly (bit_and reg (2 ^ degree poly - 1)) octets ≡ check poly reg octets
check-and poly reg octets = rw (and_mask reg (degree poly)) (check-mod poly reg octets)

-- a text in two parts: the check of the first is the register of the second
pub check-append : (poly : List Bool) (reg : ℕ) (a b : List ℕ) → check poly (check poly reg a) b ≡ check poly reg (a ++ b)
check-append poly reg a b =
    let lower = drop 1 poly in
    let left = all_fed lower (bits (degree poly) reg) (message a) in
    let e : length left ≡ degree poly = length-all_fed lower (bits (degree poly) reg) (message a) ∙ length-bits (degree poly) reg in
    let same : bits (degree poly) (number left) ≡ left = subst (λ k. bits k (number left) ≡ left) e (bits-number left) in
    check-all_fed poly (check poly reg a) b
    ∙ ap (λ r. number (all_fed lower (bits (degree poly) r) (message b))) (check-all_fed poly reg a)
    ∙ ap (λ bs. number (all_fed lower bs (message b))) same
    ∙ ap number (sym (all_fed-append lower (bits (degree poly) reg) (message a) (message b)))
    ∙ ap (λ bs. number (all_fed lower (bits (degree poly) reg) bs)) (sym (flat_map-append (bits 8) a b))
    ∙ sym (check-all_fed poly reg (a ++ b))

-- no octets leave the register
pub check-nil : (poly : List Bool) (register : ℕ) → register < 2 ^ degree poly → check poly register [] ≡ register
unfolding all_fed
check-nil poly register h = check-all_fed poly register [] ∙ number-bits (degree poly) register ∙ mod-eq_of_lt h

-- one look-up in a table is the division of one more octet
pub check-table : (poly : List Bool) (register octet : ℕ) → degree poly ≤ 8 → register < 2 ^ degree poly → octet < 256
    → get_or (table_of poly) (bit_xor register octet) 0 ≡ check poly register (octet ∷ [])
unfolding table_of check bits
check-table poly register octet narrow within h =
    let n = degree poly in
    let zeros = replicate n false in
    let x = bit_xor register octet in
    let wide : register < 256 = omega (arith, pow_mono narrow) in
    get_or-map-range_with_len (λ b. number (remainder poly (bits 8 b ++ zeros))) 0 256 x x 0 (xor_lt 8 register octet wide h) (zero-add x)
    ∙ ap (λ bs. number (remainder poly (bs ++ zeros))) (bits-xor 8 register octet ∙ ap (λ bs. add_front bs (bits 8 octet)) (bits_narrow n register narrow within) ∙ add_front-zeros (bits n register) (bits 8 octet) (8 - n))
    ∙ ap (λ bs. number (remainder poly bs)) (sym (add_front-append (bits n register) (bits 8 octet) zeros (rw (length-bits n register) narrow)) ∙ ap (λ bs. add_front (bits n register) (bs ++ zeros)) (sym (append-nil (bits 8 octet))))

-- one turn of a table-driven loop: the register after the octet at i, and the check of the rest from there
pub check-turn : (poly : List Bool) (register : ℕ) (octets : List ℕ) (i : ℕ) → degree poly ≤ 8 → register < 2 ^ degree poly
    → i < length octets → get_or octets i 0 < 256
    → let next = get_or (table_of poly) (bit_xor register (get_or octets i 0)) 0
    in (next < 2 ^ degree poly) × (check poly next (drop (i + 1) octets) ≡ check poly register (drop i octets))
check-turn poly register octets i narrow within inside small =
    let octet = get_or octets i 0 in
    let step = check-table poly register octet narrow within small in
    (rw step (check-lt poly register (octet ∷ [])), rw (step, add-one, check-append poly register (octet ∷ []) (drop (suc i) octets), drop-cons octets i 0))
