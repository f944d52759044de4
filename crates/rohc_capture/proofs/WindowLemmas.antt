-- Parts of a window's octets between two places.
use Rattle.std.proofs.Common.{◌≡◌, ℕ, ◌+◌, ◌-◌, ◌≤◌, List, ◌++◌, length, take, drop, slice_range, Option, Some, None, arith, sym, ◌∙◌, ap, append_assoc}
use Rattle.std.specs.Io.KnownBytes.{Keeps, Consumes, prepend_known}
use Rattle.std.proofs.Math.Seq.{take-add}
use Rattle.std.proofs.lemmas.List.{drop-drop, drop-take, drop_all, length-drop, length-take, take_all}

-- two parts that meet make one
pub range-append : (xs : List ℕ) (i j k : ℕ) → i ≤ j → j ≤ k → slice_range xs i j ++ slice_range xs j k ≡ slice_range xs i k
range-append xs i j k ij jk =
    let m : i + (j - i) ≡ j = omega arith in
    let whole : (j - i) + (k - j) ≡ k - i = omega arith in
    let behind : drop j xs ≡ drop (j - i) (drop i xs) = ap (λ n. drop n xs) (sym m) ∙ sym (drop-drop (j - i) i xs) in
    ap (λ ys. take (j - i) (drop i xs) ++ take (k - j) ys) behind
    ∙ sym (take-add (j - i) (k - j) (drop i xs))
    ∙ ap (λ n. take n (drop i xs)) whole

pub range-front : (xs : List ℕ) (n : ℕ) → slice_range xs 0 n ≡ take n xs
range-front xs n = let e : n - 0 ≡ n = omega arith in ap (λ k. take k xs) e

-- a part without its front
pub range-drop : (xs : List ℕ) (i j n : ℕ) → n ≤ j - i → drop n (slice_range xs i j) ≡ slice_range xs (i + n) j
range-drop xs i j n within =
    let whole : j - i ≡ n + (j - (i + n)) = omega arith in
    ap (λ m. drop n (take m (drop i xs))) whole ∙ drop-take n (j - (i + n)) (drop i xs)
    ∙ ap (take (j - (i + n))) (drop-drop n i xs)

-- octets were moved to the front, and a piece was read behind them
pub text-read : (a b : Option (List ℕ)) (old read : List ℕ) (start end count : ℕ) →
    take (end - start) read ≡ slice_range old start end →
    Consumes a b (slice_range read (end - start) (end - start + count)) →
    Keeps (prepend_known (slice_range old start end) a) (prepend_known (slice_range read 0 (end - start + count)) b)
text-read None b old read start end count moved p = tt
text-read (Some x) None old read start end count moved p = absurd p
text-read (Some x) (Some y) old read start end count moved p =
    let held = end - start in
    let front : slice_range read 0 held ≡ slice_range old start end = range-front read held ∙ moved in
    ap (λ t. t ++ y) (sym (range-append read 0 held (held + count) (omega arith) (omega arith)) ∙ ap (λ t. t ++ slice_range read held (held + count)) front)
    ∙ append_assoc (slice_range old start end) (slice_range read held (held + count)) y ∙ ap (λ t. slice_range old start end ++ t) (sym p)

-- the same where nothing was read
pub text-moved : (a b : Option (List ℕ)) (old read : List ℕ) (start end : ℕ) →
    take (end - start) read ≡ slice_range old start end → Keeps a b →
    Keeps (prepend_known (slice_range old start end) a) (prepend_known (slice_range read 0 (end - start)) b)
text-moved None b old read start end moved p = tt
text-moved (Some x) None old read start end moved p = absurd p
text-moved (Some x) (Some y) old read start end moved p =
    ap (λ t. t ++ y) (range-front read (end - start) ∙ moved) ∙ ap (λ t. slice_range old start end ++ t) p

-- a part without all of it
pub range-drop-all : (xs : List ℕ) (i j n : ℕ) → i ≤ j → j ≤ length xs → j - i ≤ n → slice_range xs (i + (j - i)) j ≡ drop n (slice_range xs i j)
range-drop-all xs i j n order within many =
    let e : i + (j - i) ≡ j = omega arith in
    let none : j - j ≡ 0 = omega arith in
    ap (λ k. slice_range xs k j) e ∙ ap (λ k. take k (drop j xs)) none
    ∙ sym (drop_all n (slice_range xs i j) (omega (arith, length-take (j - i) (drop i xs))))

-- the part up to the end
pub range-behind : (xs : List ℕ) (i : ℕ) → slice_range xs i (length xs) ≡ drop i xs
range-behind xs i = take_all (length xs - i) (drop i xs) (omega (arith, length-drop i xs))
