-- Self-describing values by arithmetic on their octets.
use Rattle.std.proofs.Common.{◌≡◌, ◌==◌, ℕ, ◌+◌, ◌*◌, ◌/◌, ◌%◌, ◌^◌, ◌<◌, ◌≤◌, ◌⊎◌, inl, inr, Bool, true, false, List, [], ◌∷◌, ◌++◌, length, Option, Some, None, refl, sym, ap, ◌∙◌, arith}
use Rattle.std.specs.Prelude.{All, IfSome}
use Rattle.std.proofs.lemmas.List.{length-append}
use Rattle.std.proofs.lemmas.List.Elements.{All-head, All-tail}
use Rattle.std.proofs.lemmas.Bool.{eq-eqb, ne_eqb}
use Rattle.rohc_bits.specs.Bits.{bits, number, bits_of}
use Rattle.rohc_bits.specs.Spelling.{StandsBehind, Spells, IsSpelled}
use Rattle.rohc_bits.proofs.BitLists.{number-below, number-append, length-bits_of, number-octets}

-- the value of one to four octets
abbrev pub SpelledAs : List ℕ → ℕ → Type 0
SpelledAs [] value = ⊥
SpelledAs (a ∷ []) value = (a / 128 ≡ 0) × (value ≡ a)
SpelledAs (a ∷ b ∷ []) value = (a / 64 ≡ 2) × (value ≡ a % 64 * 256 + b)
SpelledAs (a ∷ b ∷ c ∷ []) value = (a / 32 ≡ 6) × (value ≡ (a % 32 * 256 + b) * 256 + c)
SpelledAs (a ∷ b ∷ c ∷ d ∷ []) value = (a / 32 ≡ 7) × (value ≡ ((a % 32 * 256 + b) * 256 + c) * 256 + d)
SpelledAs (a ∷ b ∷ c ∷ d ∷ e ∷ more) value = ⊥

-- what stands behind the first bits, by its size and by its number
pub record Sized (first : List Bool) (count : ℕ) (text : List ℕ) (value : ℕ) : Type 0 where
  pub size : length first + count ≡ 8 * length text
  pub whole : number (bits_of text) ≡ number first * 2 ^ count + value
  pub below : value < 2 ^ count

pub sized : (first : List Bool) (count : ℕ) (text : List ℕ) (value : ℕ) → StandsBehind first count text value → Sized first count text value
sized first count text value is = record {
  size = rw (← is.counted) (sym (length-append first is.digits)) ∙ ap length (sym is.whole) ∙ length-bits_of text;
  whole = ap number is.whole ∙ number-append first is.digits ∙ rw (is.counted, ← is.number) refl;
  below = rw (is.number, ← is.counted) (number-below is.digits);
}

-- the number of one to four octets
one : (a : ℕ) → a < 256 → number (bits_of (a ∷ [])) ≡ a
unfolding number
one a range =
    let e : number (bits_of (a ∷ [])) ≡ a % 256 * 1 + 0 = number-octets 8 a [] in
    e ∙ omega arith

two : (a b : ℕ) → a < 256 → b < 256 → number (bits_of (a ∷ b ∷ [])) ≡ a * 256 + b
two a b a_range b_range =
    let e : number (bits_of (a ∷ b ∷ [])) ≡ a % 256 * 256 + number (bits_of (b ∷ [])) = number-octets 8 a (b ∷ []) in
    let last : number (bits_of (b ∷ [])) ≡ b = one b b_range in
    e ∙ omega (arith, last)

three : (a b c : ℕ) → a < 256 → b < 256 → c < 256 → number (bits_of (a ∷ b ∷ c ∷ [])) ≡ (a * 256 + b) * 256 + c
three a b c a_range b_range c_range =
    let e : number (bits_of (a ∷ b ∷ c ∷ [])) ≡ a % 256 * 65536 + number (bits_of (b ∷ c ∷ [])) = number-octets 8 a (b ∷ c ∷ []) in
    let last : number (bits_of (b ∷ c ∷ [])) ≡ b * 256 + c = two b c b_range c_range in
    e ∙ omega (arith, last)

four : (a b c d : ℕ) → a < 256 → b < 256 → c < 256 → d < 256 → number (bits_of (a ∷ b ∷ c ∷ d ∷ [])) ≡ ((a * 256 + b) * 256 + c) * 256 + d
four a b c d a_range b_range c_range d_range =
    let e : number (bits_of (a ∷ b ∷ c ∷ d ∷ [])) ≡ a % 256 * 16777216 + number (bits_of (b ∷ c ∷ d ∷ [])) = number-octets 8 a (b ∷ c ∷ d ∷ []) in
    let last : number (bits_of (b ∷ c ∷ d ∷ [])) ≡ (b * 256 + c) * 256 + d = three b c d b_range c_range d_range in
    e ∙ omega (arith, last)

-- the same of the four cases: how many octets, the number of their first bits, and how many values
pub record Figures (count first size : ℕ) (text : List ℕ) (value : ℕ) : Type 0 where
  pub counted : length text ≡ count
  pub whole : number (bits_of text) ≡ first + value
  pub below : value < size

abbrev pub EachFigure : List ℕ → ℕ → Type 0
EachFigure text value =
    Figures 1 0 128 text value ⊎
    Figures 2 32768 16384 text value ⊎
    Figures 3 12582912 2097152 text value ⊎
    Figures 4 3758096384 536870912 text value

pub figures : (text : List ℕ) (value : ℕ) → Spells text value → EachFigure text value
unfolding number
figures text value (inl s) =
    let z = sized (false ∷ []) 7 text value s in
    inl (record { counted = omega (arith, z.size); whole = z.whole ∙ omega arith; below = z.below })
figures text value (inr (inl s)) =
    let z = sized (true ∷ false ∷ []) 14 text value s in
    inr (inl (record { counted = omega (arith, z.size); whole = z.whole ∙ omega arith; below = z.below }))
figures text value (inr (inr (inl s))) =
    let z = sized (true ∷ true ∷ false ∷ []) 21 text value s in
    inr (inr (inl (record { counted = omega (arith, z.size); whole = z.whole ∙ omega arith; below = z.below })))
figures text value (inr (inr (inr s))) =
    let z = sized (true ∷ true ∷ true ∷ []) 29 text value s in
    inr (inr (inr (record { counted = omega (arith, z.size); whole = z.whole ∙ omega arith; below = z.below })))

-- octets below 256
abbrev pub Octets : List ℕ → Type 0
Octets text = All (λ octet. octet < 256) text

head : (a : ℕ) (text : List ℕ) → Octets (a ∷ text) → a < 256
head a text all = All-head (λ octet. octet < 256) a text all

tail : (a : ℕ) (text : List ℕ) → Octets (a ∷ text) → Octets text
tail a text all = All-tail (λ octet. octet < 256) a text all

as_one : (text : List ℕ) (value : ℕ) → Octets text → Figures 1 0 128 text value → SpelledAs text value
as_one [] value all f = absurd (omega (arith, f.counted))
as_one (a ∷ []) value all f =
    let whole = one a (head a [] all) in
    (omega (arith, whole, f.whole, f.below), omega (arith, whole, f.whole))
as_one (a ∷ b ∷ more) value all f = absurd (omega (arith, f.counted))

as_two : (text : List ℕ) (value : ℕ) → Octets text → Figures 2 32768 16384 text value → SpelledAs text value
as_two [] value all f = absurd (omega (arith, f.counted))
as_two (a ∷ []) value all f = absurd (omega (arith, f.counted))
as_two (a ∷ b ∷ []) value all f =
    let a_range = head a (b ∷ []) all in
    let b_range = head b [] (tail a (b ∷ []) all) in
    let whole = two a b a_range b_range in
    (omega (arith, whole, f.whole, f.below, a_range, b_range), omega (arith, whole, f.whole, f.below, a_range, b_range))
as_two (a ∷ b ∷ c ∷ more) value all f = absurd (omega (arith, f.counted))

as_three : (text : List ℕ) (value : ℕ) → Octets text → Figures 3 12582912 2097152 text value → SpelledAs text value
as_three [] value all f = absurd (omega (arith, f.counted))
as_three (a ∷ []) value all f = absurd (omega (arith, f.counted))
as_three (a ∷ b ∷ []) value all f = absurd (omega (arith, f.counted))
as_three (a ∷ b ∷ c ∷ []) value all f =
    let a_range = head a (b ∷ c ∷ []) all in
    let b_range = head b (c ∷ []) (tail a (b ∷ c ∷ []) all) in
    let c_range = head c [] (tail b (c ∷ []) (tail a (b ∷ c ∷ []) all)) in
    let whole = three a b c a_range b_range c_range in
    (omega (arith, whole, f.whole, f.below, a_range, b_range, c_range), omega (arith, whole, f.whole, f.below, a_range, b_range, c_range))
as_three (a ∷ b ∷ c ∷ d ∷ more) value all f = absurd (omega (arith, f.counted))

as_four : (text : List ℕ) (value : ℕ) → Octets text → Figures 4 3758096384 536870912 text value → SpelledAs text value
as_four [] value all f = absurd (omega (arith, f.counted))
as_four (a ∷ []) value all f = absurd (omega (arith, f.counted))
as_four (a ∷ b ∷ []) value all f = absurd (omega (arith, f.counted))
as_four (a ∷ b ∷ c ∷ []) value all f = absurd (omega (arith, f.counted))
as_four (a ∷ b ∷ c ∷ d ∷ []) value all f =
    let a_range = head a (b ∷ c ∷ d ∷ []) all in
    let behind = tail a (b ∷ c ∷ d ∷ []) all in
    let b_range = head b (c ∷ d ∷ []) behind in
    let last = tail b (c ∷ d ∷ []) behind in
    let c_range = head c (d ∷ []) last in
    let d_range = head d [] (tail c (d ∷ []) last) in
    let whole = four a b c d a_range b_range c_range d_range in
    (omega (arith, whole, f.whole, f.below, a_range, b_range, c_range, d_range), omega (arith, whole, f.whole, f.below, a_range, b_range, c_range, d_range))
as_four (a ∷ b ∷ c ∷ d ∷ e ∷ more) value all f = absurd (omega (arith, f.counted))

by_figures : (text : List ℕ) (value : ℕ) → Octets text → EachFigure text value → SpelledAs text value
by_figures text value all (inl f) = as_one text value all f
by_figures text value all (inr (inl f)) = as_two text value all f
by_figures text value all (inr (inr (inl f))) = as_three text value all f
by_figures text value all (inr (inr (inr f))) = as_four text value all f

-- what is spelled in bits, by arithmetic
pub spelled_as : (text : List ℕ) (value : ℕ) → IsSpelled text value → SpelledAs text value
spelled_as text value is = by_figures text value is.octets (figures text value is.spells)

-- and back
by_bits : (text : List ℕ) (value : ℕ) → Octets text → SpelledAs text value → Spells text value
unfolding bits number
by_bits [] value all s = absurd s
by_bits (a ∷ []) value all s =
    let first : (a / 128 % 2 == 1) ≡ false = ne_eqb (a / 128 % 2) 1 (λ e. omega arith) in
    let low : number (bits 7 a ++ bits_of []) ≡ a % 128 * 1 + 0 = number-octets 7 a [] in
    inl (record { digits = bits 7 a ++ bits_of []; whole = λ i. first i ∷ (bits 7 a ++ bits_of []); counted = refl; number = omega (arith, low, s.0, s.1) })
by_bits (a ∷ b ∷ []) value all s =
    let first : (a / 128 % 2 == 1) ≡ true = eq-eqb (a / 128 % 2) 1 (omega arith) in
    let second : (a / 64 % 2 == 1) ≡ false = ne_eqb (a / 64 % 2) 1 (λ e. omega arith) in
    let behind = one b (head b [] (tail a (b ∷ []) all)) in
    let low : number (bits 6 a ++ bits_of (b ∷ [])) ≡ a % 64 * 256 + number (bits_of (b ∷ [])) = number-octets 6 a (b ∷ []) in
    inr (inl (record { digits = bits 6 a ++ bits_of (b ∷ []); whole = λ i. first i ∷ second i ∷ (bits 6 a ++ bits_of (b ∷ [])); counted = refl; number = s.1 ∙ sym (low ∙ ap (λ n. a % 64 * 256 + n) behind) }))
by_bits (a ∷ b ∷ c ∷ []) value all s =
    let first : (a / 128 % 2 == 1) ≡ true = eq-eqb (a / 128 % 2) 1 (omega arith) in
    let second : (a / 64 % 2 == 1) ≡ true = eq-eqb (a / 64 % 2) 1 (omega arith) in
    let third : (a / 32 % 2 == 1) ≡ false = ne_eqb (a / 32 % 2) 1 (λ e. omega arith) in
    let rest = tail a (b ∷ c ∷ []) all in
    let behind = two b c (head b (c ∷ []) rest) (head c [] (tail b (c ∷ []) rest)) in
    let low : number (bits 5 a ++ bits_of (b ∷ c ∷ [])) ≡ a % 32 * 65536 + number (bits_of (b ∷ c ∷ [])) = number-octets 5 a (b ∷ c ∷ []) in
    inr (inr (inl (record { digits = bits 5 a ++ bits_of (b ∷ c ∷ []); whole = λ i. first i ∷ second i ∷ third i ∷ (bits 5 a ++ bits_of (b ∷ c ∷ [])); counted = refl; number = omega (arith, low, behind, s.1) })))
by_bits (a ∷ b ∷ c ∷ d ∷ []) value all s =
    let first : (a / 128 % 2 == 1) ≡ true = eq-eqb (a / 128 % 2) 1 (omega arith) in
    let second : (a / 64 % 2 == 1) ≡ true = eq-eqb (a / 64 % 2) 1 (omega arith) in
    let third : (a / 32 % 2 == 1) ≡ true = eq-eqb (a / 32 % 2) 1 (omega arith) in
    let rest = tail a (b ∷ c ∷ d ∷ []) all in
    let last = tail b (c ∷ d ∷ []) rest in
    let behind = three b c d (head b (c ∷ d ∷ []) rest) (head c (d ∷ []) last) (head d [] (tail c (d ∷ []) last)) in
    let low : number (bits 5 a ++ bits_of (b ∷ c ∷ d ∷ [])) ≡ a % 32 * 16777216 + number (bits_of (b ∷ c ∷ d ∷ [])) = number-octets 5 a (b ∷ c ∷ d ∷ []) in
    inr (inr (inr (record { digits = bits 5 a ++ bits_of (b ∷ c ∷ d ∷ []); whole = λ i. first i ∷ second i ∷ third i ∷ (bits 5 a ++ bits_of (b ∷ c ∷ d ∷ [])); counted = refl; number = omega (arith, low, behind, s.1) })))
by_bits (a ∷ b ∷ c ∷ d ∷ e ∷ more) value all s = absurd s

pub is_spelled : (text : List ℕ) (value : ℕ) → Octets text → SpelledAs text value → IsSpelled text value
is_spelled text value all s = record { octets = all; spells = by_bits text value all s }

-- octets that spell a value, by arithmetic
pub record Reckoned (text : List ℕ) (value : ℕ) : Type 0 where
  pub octets : All (λ octet. octet < 256) text
  pub spells : SpelledAs text value

pub reckoned : (text : List ℕ) (value : ℕ) → IsSpelled text value → Reckoned text value
reckoned text value is = record { octets = is.octets; spells = spelled_as text value is }

pub by_reckoning : (text : List ℕ) (value : ℕ) → Reckoned text value → IsSpelled text value
by_reckoning text value is = is_spelled text value is.octets is.spells

-- the same for what is read, and for what is written
pub each_front : (octets : List ℕ) (read : Option (ℕ × ℕ)) →
    ((text rest : List ℕ) (value : ℕ) → octets ≡ text ++ rest → Reckoned text value → read ≡ Some (value, length text)) →
    (text rest : List ℕ) (value : ℕ) → octets ≡ text ++ rest → IsSpelled text value → read ≡ Some (value, length text)
each_front octets read by text rest value whole is = by text rest value whole (reckoned text value is)

pub written : {A : Type 0} (items : A → List ℕ) (value : ℕ) (text : Option A) →
    IfSome text (λ t. Reckoned (items t) value) → IfSome text (λ t. IsSpelled (items t) value)
written items value None is = is
written items value (Some t) is = by_reckoning (items t) value is

pub shortest : {A : Type 0} (items : A → List ℕ) (value : ℕ) (text : Option A) →
    IfSome text (λ t. (other : List ℕ) → Reckoned other value → length (items t) ≤ length other) →
    IfSome text (λ t. (other : List ℕ) → IsSpelled other value → length (items t) ≤ length other)
shortest items value None is = is
shortest items value (Some t) is = λ other spelled. is other (reckoned other value spelled)
