-- A header's static and dynamic octets as the ranges that the code takes, where neighbours are one.
use Rattle.std.proofs.Common.{◌≡◌, ℕ, ◌+◌, List, [], ◌++◌, take, drop, take_all, length-drop, append_assoc, append-nil, ap, sym, subst, ◌∙◌, refl, arith}
use Rattle.std.proofs.Math.Seq.{take-add}
use Rattle.std.proofs.lemmas.List.{take-append-drop, drop-drop}
use Rattle.std.proofs.lemmas.List.Sorted.{IsPermutation-refl, IsPermutation-append_left, IsPermutation-append_right, IsPermutation-append_comm, IsPermutation-trans}
use Rattle.std.specs.List.Sorted.{IsPermutation}
use Rattle.rohc_header.specs.Check.{static_octets, dynamic_octets}
use Rattle.rohc_header.specs.Laws.{SplitsWhole}

-- two ranges that touch
touching : (n m k : ℕ) (octets : List ℕ) → take n (drop k octets) ++ take m (drop (k + n) octets) ≡ take (n + m) (drop k octets)
touching n m k octets = ap (λ rest. take n (drop k octets) ++ take m rest) (sym (drop-drop n k octets)) ∙ sym (take-add n m (drop k octets))

static_rows : (a b c d e f : List ℕ) → (a ++ (b ++ (c ++ []))) ++ ((d ++ []) ++ ((e ++ (f ++ [])) ++ [])) ≡ a ++ (b ++ ((c ++ d) ++ (e ++ f)))
static_rows a b c d e f = simp (append_assoc, append-nil) refl

dynamic_rows : (a b c d : List ℕ) → (a ++ (b ++ [])) ++ ((c ++ []) ++ ((d ++ []) ++ [])) ≡ a ++ (b ++ (c ++ d))
dynamic_rows a b c d = simp (append_assoc, append-nil) refl

pub static_ranges : (octets : List ℕ) → static_octets octets
    ≡ take 2 (drop 0 octets) ++ (take 4 (drop 6 octets) ++ (take 12 (drop 12 octets) ++ (take 1 (drop 28 octets) ++ take 4 (drop 36 octets))))
unfolding static_octets
static_ranges octets =
    static_rows (take 2 (drop 0 octets)) (take 4 (drop 6 octets)) (take 8 (drop 12 octets)) (take 4 (drop 20 octets)) (take 1 (drop 28 octets)) (take 4 (drop 36 octets))
    ∙ ap (λ c. take 2 (drop 0 octets) ++ (take 4 (drop 6 octets) ++ (c ++ (take 1 (drop 28 octets) ++ take 4 (drop 36 octets))))) (touching 8 4 12 octets)

pub dynamic_ranges : (octets : List ℕ) → dynamic_octets octets
    ≡ take 4 (drop 2 octets) ++ (take 2 (drop 10 octets) ++ (take 4 (drop 24 octets) ++ take 7 (drop 29 octets)))
unfolding dynamic_octets
dynamic_ranges octets = dynamic_rows (take 4 (drop 2 octets)) (take 2 (drop 10 octets)) (take 4 (drop 24 octets)) (take 7 (drop 29 octets))

-- ---- Each octet is in one of them

-- two pairs of lists in a row, the first of both before the second of both
paired : (a b c d rest : List ℕ) → IsPermutation rest (c ++ d) → IsPermutation (a ++ (b ++ rest)) ((a ++ c) ++ (b ++ d))
paired a b c d rest h =
    let grouped : IsPermutation (b ++ rest) (b ++ (c ++ d)) = IsPermutation-append_right b rest (c ++ d) h in
    let turned : IsPermutation ((b ++ c) ++ d) ((c ++ b) ++ d) = IsPermutation-append_left d (b ++ c) (c ++ b) (IsPermutation-append_comm b c) in
    let moved : IsPermutation (b ++ (c ++ d)) (c ++ (b ++ d)) = rw (← append_assoc b c d, ← append_assoc c b d) turned in
    rw (append_assoc a c (b ++ d)) (IsPermutation-append_right a (b ++ rest) (c ++ (b ++ d)) (IsPermutation-trans (b ++ rest) (b ++ (c ++ d)) (c ++ (b ++ d)) grouped moved))

-- from the place k on there are n static octets, m dynamic ones, and the rest
alternating : (n m k : ℕ) (octets static dynamic : List ℕ) → IsPermutation (drop (k + n + m) octets) (static ++ dynamic)
    → IsPermutation (drop k octets) ((take n (drop k octets) ++ static) ++ (take m (drop (k + n) octets) ++ dynamic))
alternating n m k octets static dynamic h =
    let inner : take m (drop (k + n) octets) ++ drop (k + n + m) octets ≡ drop n (drop k octets) =
    ap (λ rest. take m (drop (k + n) octets) ++ rest) (sym (drop-drop m (k + n) octets)) ∙ take-append-drop m (drop (k + n) octets) ∙ sym (drop-drop n k octets) in
    let whole : take n (drop k octets) ++ (take m (drop (k + n) octets) ++ drop (k + n + m) octets) ≡ drop k octets =
    ap (λ rest. take n (drop k octets) ++ rest) inner ∙ take-append-drop n (drop k octets) in
    subst (λ all. IsPermutation all ((take n (drop k octets) ++ static) ++ (take m (drop (k + n) octets) ++ dynamic))) whole
    (paired (take n (drop k octets)) (take m (drop (k + n) octets)) static dynamic (drop (k + n + m) octets) h)

pub splits_whole : SplitsWhole
splits_whole octets forty =
    let all : take 4 (drop 36 octets) ≡ drop 36 octets = take_all 4 (drop 36 octets) (omega (arith, length-drop 36 octets)) in
    let from36 : IsPermutation (drop 36 octets) (take 4 (drop 36 octets) ++ []) = rw (append-nil (take 4 (drop 36 octets)), all) (IsPermutation-refl (drop 36 octets)) in
    let static36 = take 4 (drop 36 octets) in
    let static28 = take 1 (drop 28 octets) ++ static36 in
    let static12 = take 12 (drop 12 octets) ++ static28 in
    let static6 = take 4 (drop 6 octets) ++ static12 in
    let dynamic28 = take 7 (drop 29 octets) in
    let dynamic12 = take 4 (drop 24 octets) ++ dynamic28 in
    let dynamic6 = take 2 (drop 10 octets) ++ dynamic12 in
    let from28 : IsPermutation (drop 28 octets) (static28 ++ (dynamic28 ++ [])) = alternating 1 7 28 octets static36 [] from36 in
    let from12 = alternating 12 4 12 octets static28 dynamic28 (rw (append-nil dynamic28) at from28) in
    let from6 = alternating 4 2 6 octets static12 dynamic12 from12 in
    rw (static_ranges octets, dynamic_ranges octets) (alternating 2 4 0 octets static6 dynamic6 from6)
