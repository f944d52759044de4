-- Octets that are put in parts.
use Rattle.std.proofs.Common.{◌≡◌, ℕ, ◌+◌, ◌≤◌, List, ◌++◌, length, take, drop, arith, sym, ◌∙◌, ap, append_assoc}
use Rattle.std.proofs.Math.Seq.{take-add, take-append-add}
use Rattle.std.proofs.lemmas.List.{length-take, length-drop, take-append-drop, take-append-le}

-- the front of a front
prefix : (xs : List ℕ) (k e : ℕ) → k ≤ e → e ≤ length xs → take k (take e xs) ≡ take k xs
prefix xs k e below within = sym (take-append-le k (take e xs) (drop e xs) (omega (arith, below, length-take e xs))) ∙ ap (take k) (take-append-drop e xs)

-- a part that begins within what was put
pub part-put : (before octets one two : List ℕ) (used k e : ℕ) → length before ≡ used → k ≤ e → e ≤ length octets → used + e ≤ length one →
    take (used + e) one ≡ before ++ take e octets → take (used + k + 16) two ≡ take (used + k) one ++ take 16 (drop k octets) →
    take (used + k + 16) two ≡ before ++ take (k + 16) octets
part-put before octets one two used k e size below within room p q =
    let front : take (used + k) one ≡ before ++ take k octets =
    sym (prefix one (used + k) (used + e) (omega (arith, below)) room) ∙ ap (take (used + k)) p
    ∙ ap (λ n. take (n + k) (before ++ take e octets)) (sym size) ∙ take-append-add before (take e octets) k
    ∙ ap (λ l. before ++ l) (prefix octets k e below within) in
    q ∙ ap (λ l. l ++ take 16 (drop k octets)) front ∙ append_assoc before (take k octets) (take 16 (drop k octets))
    ∙ ap (λ l. before ++ l) (sym (take-add k 16 octets))

-- a part of 16 octets
pub part-length : (xs : List ℕ) (k : ℕ) → k + 16 ≤ length xs → length (take 16 (drop k xs)) ≡ 16
part-length xs k within = omega (arith, within, length-take 16 (drop k xs), length-drop k xs)
