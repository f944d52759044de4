-- A word and a length, and the outcomes that they stand for.
use Rattle.std.proofs.Common.{◌≡◌, ℕ, zero, suc, ◌+◌, ◌*◌, ◌/◌, ◌%◌, ◌^◌, ◌<◌, ◌≤◌, Bool, true, false, List, [], ◌∷◌, take, refl, sym, ap, subst, ◌∙◌, arith, count_ones, add-one, cond, zero-add, ⊎_elim, nat_lt}
use Rattle.std.specs.Prelude.{◌==◌, count_by, min}
use lib.Count.{ones, ones_step}
use mir.Val.{bool_byte}
use Rattle.std.proofs.lemmas.Bool.{cases_lt, eq-eqb, ne_eqb}
use Rattle.std.proofs.lemmas.Bool.Decides.{nat_tests}
use Rattle.std.proofs.lemmas.Nat.{pow_pos, mod-pow-add, mod_below}
use Rattle.std.proofs.lemmas.List.{take_all}
use Rattle.std.proofs.lemmas.List.Recursion.{is_count_by}
use Rattle.std.proofs.Math.Nat.{mod-eq_of_lt, pow-suc, one-mul}
use Rattle.std.proofs.Math.Pow.{pow_mono}
use Rattle.rohc_context.specs.declared.window.Window.{Window}
use Rattle.rohc_context.specs.Window.{outcomes}
use Rattle.rohc_checks.specs.Division.{bits, number}
use Rattle.rohc_checks.proofs.Division.{length-bits, number-bits, bits-number}

-- only the k low bits count
bits-mod : (k n : ℕ) → bits k (n % 2 ^ k) ≡ bits k n
bits-mod k n = ap (bits k) (sym (number-bits k n)) ∙ subst (λ j. bits j (number (bits k n)) ≡ bits k n) (length-bits k n) (bits-number (bits k n))

lowest : (w : ℕ) (b : Bool) → (((w * 2 + bool_byte b) % 2 == 1) ≡ b) × ((w * 2 + bool_byte b) / 2 ≡ w)
lowest w true = (eq-eqb ((w * 2 + 1) % 2) 1 (omega arith), omega arith)
lowest w false = (ne_eqb ((w * 2 + 0) % 2) 1 (λ e. omega arith), omega arith)

-- one outcome below others
bits-cons : (k w : ℕ) (b : Bool) → bits (suc k) (w * 2 + bool_byte b) ≡ b ∷ bits k w
unfolding bits
bits-cons k w b = let e = lowest w b in rw (e.0, e.1) refl

take-bits : (k l w : ℕ) → k ≤ l → take k (bits l w) ≡ bits k w
unfolding bits
take-bits zero l w h = refl
take-bits (suc k) zero w h = absurd (omega arith)
take-bits (suc k) (suc l) w h = ap (λ bs. (w % 2 == 1) ∷ bs) (take-bits k l (w / 2) (omega arith))

bool_small : (b : Bool) → bool_byte b ≤ 1
bool_small true = omega arith
bool_small false = omega arith

-- while there is room
pushed_short : (l w : ℕ) (b : Bool) → l < 64 → w < 2 ^ l → bits (l + 1) ((w * 2) % 2 ^ 64 + bool_byte b) ≡ take 64 (b ∷ bits l w)
pushed_short l w b few small =
    let below : w * 2 < 2 ^ 64 = omega (arith, pow_mono {i = suc l} {j = 64} (omega arith), pow-suc 2 l) in
    let all = take_all 64 (b ∷ bits l w) (omega (arith, length-bits l w)) in
    rw (mod-eq_of_lt below, add-one l) (bits-cons l w b ∙ sym all)

-- where there is none, the oldest outcome goes
pushed_full : (w : ℕ) (b : Bool) → bits 64 ((w * 2) % 2 ^ 64 + bool_byte b) ≡ take 64 (b ∷ bits 64 w)
pushed_full w b =
    let e : (w * 2) % 2 ^ 64 + bool_byte b ≡ (w % 2 ^ 63) * 2 + bool_byte b = omega (arith, mod-pow-add (w * 2) 63 1) in
    rw e (bits-cons 63 (w % 2 ^ 63) b ∙ ap (λ bs. b ∷ bs) (bits-mod 63 w ∙ sym (take-bits 63 64 w (omega arith))))

pub longer : (l x : ℕ) → l ≤ 64 → x ≡ bool_byte (nat_lt l 64) → l + x ≡ min (l + 1) 64
longer l x few is = grind (arith, nat_tests)

room : (l w : ℕ) → l < 64 → w < 2 ^ l → w * 2 < 2 ^ 64
room l w short small = omega (arith, pow_mono {i = suc l} {j = 64} (omega arith), pow-suc 2 l)

pub pushed : (l w x m : ℕ) (b : Bool) → l ≤ 64 → w < 2 ^ l → x ≡ bool_byte b → m ≡ min (l + 1) 64
    → bits m ((w * 2) % 2 ^ 64 + x) ≡ take 64 (b ∷ bits l w)
pushed l w x m b few small is long = ⊎_elim
    (λ short. let e : m ≡ l + 1 = omega arith in rw (is, e) (pushed_short l w b short small))
    (λ full. let e : m ≡ 64 = omega arith in let f : l ≡ 64 = omega arith in rw (is, e, f) (pushed_full w b))
    (cases_lt l 64)

pub pushed_fits : (l w x m : ℕ) (b : Bool) → l ≤ 64 → w < 2 ^ l → x ≡ bool_byte b → m ≡ min (l + 1) 64
    → (w * 2) % 2 ^ 64 + x < 2 ^ m
pushed_fits l w x m b few small is long = ⊎_elim
    (λ short.
    let e : m ≡ suc l = omega arith in
    rw (is, e, mod-eq_of_lt (room l w short small)) (omega (arith, pow-suc 2 l, bool_small b)))
    (λ full.
    let e : m ≡ 64 = omega arith in
    let half : (w * 2) % 2 ^ 64 ≡ (w % 2 ^ 63) * 2 = omega (arith, mod-pow-add (w * 2) 63 1) in
    rw (is, e, half) (omega (arith, mod_below w (2 ^ 63) (omega arith), bool_small b)))
    (cases_lt l 64)

-- the ones of a number are the outcomes that are failures
ones_more : (b : Bool) (bs : List Bool) → count_ones (number (b ∷ bs)) ≡ cond b (1 + count_ones (number bs)) (count_ones (number bs))
unfolding number
ones_more true bs =
    let n = 1 + 2 * number bs in
    let low : n % 2 ≡ 1 = omega arith in
    let high : n / 2 ≡ number bs = omega arith in
    ones_step n ∙ rw (low, high) refl
ones_more false bs =
    let n = 0 + 2 * number bs in
    let low : n % 2 ≡ 0 = omega arith in
    let high : n / 2 ≡ number bs = omega arith in
    ones_step n ∙ rw (low, high) (zero-add (count_ones (number bs)))

no_ones : count_ones (number []) ≡ 0
unfolding number ones
no_ones = refl

ones-number : (bs : List Bool) → count_ones (number bs) ≡ count_by (λ failure. failure) bs
ones-number bs = is_count_by (λ bs. count_ones (number bs)) (λ failure. failure) no_ones ones_more bs

take_low : (n l w : ℕ) → w < 2 ^ l → number (take n (bits l w)) ≡ w % 2 ^ n
take_low n l w small = ⊎_elim
    (λ longer.
    let e = take_all n (bits l w) (omega (arith, length-bits l w)) in
    let fits : w < 2 ^ n = omega (arith, pow_mono {i = l} {j = n} (omega arith)) in
    ap number e ∙ number-bits l w ∙ mod-eq_of_lt small ∙ sym (mod-eq_of_lt fits))
    (λ shorter. ap number (take-bits n l w shorter) ∙ number-bits n w)
    (cases_lt l n)

-- the failures among the newest outcomes are the ones of the lowest bits
pub counted : (n l w : ℕ) → w < 2 ^ l → count_ones (w % 2 ^ n) ≡ count_by (λ failure. failure) (take n (bits l w))
counted n l w small = ap count_ones (sym (take_low n l w small)) ∙ ones-number (take n (bits l w))

pub counted_all : (l w : ℕ) → l ≤ 64 → w < 2 ^ l → count_ones w ≡ count_by (λ failure. failure) (take 64 (bits l w))
counted_all l w few small =
    let below : w < 2 ^ 64 = omega (arith, pow_mono {i = l} {j = 64} few) in
    ap count_ones (sym (mod-eq_of_lt below)) ∙ counted 64 l w small

-- the same of a number that is the newest outcomes of a window
pub failures_all : (n l w newest : ℕ) → l ≤ 64 → w < 2 ^ l → n ≡ 64 → newest ≡ w → count_ones newest ≡ count_by (λ failure. failure) (take n (bits l w))
failures_all n l w newest few small all is = rw (is, all) (counted_all l w few small)

pub failures_low : (n l w newest : ℕ) → w < 2 ^ l → n < 64 → newest ≡ w % ((1 * 2 ^ n) % 2 ^ 64) → count_ones newest ≡ count_by (λ failure. failure) (take n (bits l w))
failures_low n l w newest small some is =
    let below : 1 * 2 ^ n < 2 ^ 64 = omega (arith, pow_mono {i = suc n} {j = 64} (omega arith), pow-suc 2 n, pow_pos n) in
    let e : newest ≡ w % 2 ^ n = is ∙ ap (λ m. w % m) (mod-eq_of_lt below ∙ one-mul (2 ^ n)) in
    rw e (counted n l w small)

-- a window of no outcomes
pub none_of : (w : Window) → w.length ≡ 0 → outcomes w ≡ []
unfolding outcomes bits
none_of w e = rw e refl
