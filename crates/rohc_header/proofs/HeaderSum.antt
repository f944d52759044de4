-- The header sum of the IPv4 part from its words as numbers.
use Rattle.std.proofs.Common.{◌≡◌, ℕ, ◌+◌, ◌*◌, ◌/◌, ◌%◌, List, [], ◌∷◌, ◌++◌, length, get_or, sum, arith}
use Rattle.std.proofs.lemmas.List.Sums.{sum_by-cons}
use Rattle.rohc_checks.specs.Sum.{words}

cons : (x : ℕ) (xs : List ℕ) → sum (x ∷ xs) ≡ x + sum xs
cons x xs = sum_by-cons (λ y. y) x xs

-- an address has two words
pub two : (l : List ℕ) → length l ≡ 4 → get_or l 0 0 * 256 + get_or l 1 0 + (get_or l 2 0 * 256 + get_or l 3 0) ≡ sum (words l)
unfolding words
two [] e = absurd (omega arith)
two (a ∷ []) e = absurd (omega arith)
two (a ∷ b ∷ []) e = absurd (omega arith)
two (a ∷ b ∷ c ∷ []) e = absurd (omega arith)
two (a ∷ b ∷ c ∷ d ∷ []) e = omega (arith, cons (a * 256 + b) ((c * 256 + d) ∷ []), cons (c * 256 + d) [])
two (a ∷ b ∷ c ∷ d ∷ x ∷ l) e = absurd (omega arith)

-- two addresses have the words of both
pub both : (source destination : List ℕ) → length source ≡ 4 → sum (words source) + sum (words destination) ≡ sum (words (source ++ destination))
unfolding words
both [] l e = absurd (omega arith)
both (a ∷ []) l e = absurd (omega arith)
both (a ∷ b ∷ []) l e = absurd (omega arith)
both (a ∷ b ∷ c ∷ []) l e = absurd (omega arith)
both (a ∷ b ∷ c ∷ d ∷ []) l e =
    omega (
      arith,
      cons (a * 256 + b) ((c * 256 + d) ∷ []),
      cons (c * 256 + d) [],
      cons (a * 256 + b) ((c * 256 + d) ∷ words l),
      cons (c * 256 + d) (words l),
    )
both (a ∷ b ∷ c ∷ d ∷ x ∷ s) l e = absurd (omega arith)

-- what stands before the checksum, and behind it
pub front : (tos len id df ttl : ℕ) (rest : List ℕ)
    → 0x45 * 256 + tos + len + id + df * 256 + (ttl * 256 + 17) + sum (words rest)
    ≡ sum (words (0x45 ∷ tos ∷ len / 256 ∷ len % 256 ∷ id / 256 ∷ id % 256 ∷ df ∷ 0 ∷ ttl ∷ 17 ∷ rest))
unfolding words
front tos len id df ttl rest =
    let fifth : List ℕ = (ttl * 256 + 17) ∷ words rest in
    let fourth : List ℕ = (df * 256 + 0) ∷ fifth in
    let third : List ℕ = (id / 256 * 256 + id % 256) ∷ fourth in
    let second : List ℕ = (len / 256 * 256 + len % 256) ∷ third in
    omega (
      arith,
      cons (0x45 * 256 + tos) second,
      cons (len / 256 * 256 + len % 256) third,
      cons (id / 256 * 256 + id % 256) fourth,
      cons (df * 256 + 0) fifth,
      cons (ttl * 256 + 17) (words rest),
    )

-- the words among them that stay, and those behind
pub staying : (tos df ttl : ℕ) (rest : List ℕ)
    → 0x45 * 256 + tos + df * 256 + (ttl * 256 + 17) + sum (words rest) ≡ sum (words (0x45 ∷ tos ∷ df ∷ 0 ∷ ttl ∷ 17 ∷ rest))
unfolding words
staying tos df ttl rest =
    let third : List ℕ = (ttl * 256 + 17) ∷ words rest in
    let second : List ℕ = (df * 256 + 0) ∷ third in
    omega (
      arith,
      cons (0x45 * 256 + tos) second,
      cons (df * 256 + 0) third,
      cons (ttl * 256 + 17) (words rest),
    )
