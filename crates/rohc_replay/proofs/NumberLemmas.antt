-- A number in decimal, by its last digit and those before it.
use Rattle.std.proofs.Common.{◌≡◌, ℕ, List, ◌++◌, ◌+◌, ◌/◌, ◌%◌, ◌<◌, ◌≤◌, ◌^◌, [], ◌∷◌, length, ◌∙◌, ap, arith, length-append}
use Rattle.std.proofs.lemmas.Fmt.{decimal_step, decimal_digit, length-decimal-le}
use Rattle.std.specs.Fmt.{decimal}

-- the last digit of a number of two digits or more makes it one longer
pub one_longer : (n : ℕ) → 10 ≤ n → n < 2 ^ 16 → length (decimal n) ≡ length (decimal (n / 10)) + 1
one_longer n big small =
    ap length (decimal_step n big (omega arith)) ∙ length-append (decimal (n / 10)) ((48 + n % 10) ∷ [])

-- a number below ten is one digit
pub one_digit : (n : ℕ) → n < 10 → decimal n ≡ (48 + n % 10) ∷ []
one_digit n small =
    let same : n ≡ n % 10 = omega arith in
    decimal_digit n small ∙ ap (λ (digit : ℕ). (48 + digit) ∷ []) same

-- a number from ten to ninety-nine is two digits
pub two_digits : (n : ℕ) → 10 ≤ n → n < 100 → decimal n ≡ (48 + n / 10) ∷ (48 + n % 10) ∷ []
two_digits n big small =
    decimal_step n big (omega arith) ∙ ap (λ (front : List ℕ). front ++ (48 + n % 10) ∷ []) (decimal_digit (n / 10) (omega arith))

-- a number from one hundred to 999 is three digits
pub three_digits : (n : ℕ) → 100 ≤ n → n < 1000 → decimal n ≡ (48 + n / 10 / 10) ∷ (48 + n / 10 % 10) ∷ (48 + n % 10) ∷ []
three_digits n big small =
    decimal_step n (omega arith) (omega arith)
    ∙ ap (λ (front : List ℕ). front ++ (48 + n % 10) ∷ []) (two_digits (n / 10) (omega arith) (omega arith))

-- a link or a CID has at most five digits
pub at_most_five : (n : ℕ) → n < 2 ^ 16 → length (decimal n) ≤ 5
at_most_five n small = length-decimal-le 5 n (omega arith) (omega arith) (omega arith)
