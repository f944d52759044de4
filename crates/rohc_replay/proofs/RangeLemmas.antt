-- Lemmas on parts of a list between two places.
use Rattle.std.proofs.Common.{◌≡◌, ℕ, zero, suc, ◌+◌, ◌-◌, ◌<◌, ◌≤◌, List, [], ◌∷◌, ◌++◌, length, take, drop, get_or, slice_range, arith, refl, sym, ◌∙◌, ap, length-drop}
use Rattle.std.proofs.Math.Seq.{take-add, take-length}
use Rattle.std.proofs.lemmas.List.{drop-drop, drop_more, drop-take}

-- a part by its length
pub range-ahead : (xs : List ℕ) (i n : ℕ) → slice_range xs i (i + n) ≡ take n (drop i xs)
range-ahead xs i n = let e : i + n - i ≡ n = omega arith in ap (λ k. take k (drop i xs)) e

-- two parts that meet make one
pub range-append : (xs : List ℕ) (i j k : ℕ) → i ≤ j → j ≤ k → slice_range xs i j ++ slice_range xs j k ≡ slice_range xs i k
range-append xs i j k ij jk =
    let m : i + (j - i) ≡ j = omega arith in
    let whole : (j - i) + (k - j) ≡ k - i = omega arith in
    let behind : drop j xs ≡ drop (j - i) (drop i xs) = ap (λ n. drop n xs) (sym m) ∙ sym (drop-drop (j - i) i xs) in
    ap (λ ys. take (j - i) (drop i xs) ++ take (k - j) ys) behind
    ∙ sym (take-add (j - i) (k - j) (drop i xs))
    ∙ ap (λ n. take n (drop i xs)) whole

pub range-front : (xs : List ℕ) (n : ℕ) → slice_range xs 0 n ≡ take n xs
range-front xs n = let e : n - 0 ≡ n = omega arith in ap (λ k. take k xs) e

pub range-none : (xs : List ℕ) (i : ℕ) → slice_range xs i i ≡ []
range-none xs i = let e : i - i ≡ 0 = omega arith in ap (λ k. take k (drop i xs)) e

pub range-end : (xs : List ℕ) (i : ℕ) → slice_range xs i (length xs) ≡ drop i xs
range-end xs i = ap (λ k. take k (drop i xs)) (sym (length-drop i xs)) ∙ take-length (drop i xs)

pub range-one : (xs : List ℕ) (i : ℕ) → i < length xs → slice_range xs i (i + 1) ≡ get_or xs i 0 ∷ []
range-one xs i within = range-ahead xs i 1 ∙ ap (take 1) (drop_more xs i 0 within)

-- a part of a front
pub drop-front : (xs : List ℕ) (i n : ℕ) → i ≤ n → drop i (take n xs) ≡ slice_range xs i n
drop-front xs i n within =
    let e : n ≡ i + (n - i) = omega arith in
    ap (λ m. drop i (take m xs)) e ∙ drop-take i (n - i) xs

pub take-front : (xs : List ℕ) (i n : ℕ) → i ≤ n → take i (take n xs) ≡ take i xs
take-front xs zero n within = refl
take-front xs (suc i) zero within = absurd (omega arith)
take-front [] (suc i) (suc n) within = refl
take-front (x ∷ xs) (suc i) (suc n) within = ap (λ ys. x ∷ ys) (take-front xs i n (omega arith))
