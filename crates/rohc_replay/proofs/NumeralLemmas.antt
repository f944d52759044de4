-- What digits in front of a text are, and the number that they spell.
use Rattle.std.proofs.Common.{◌≡◌, ℕ, zero, suc, ◌+◌, ◌-◌, ◌*◌, ◌<◌, ◌≤◌, ◌^◌, true, false, List, [], ◌∷◌, ◌++◌, length, take, drop, get_or, sym, ◌∙◌, ap, refl, arith, inl, inr, length-take}
use Rattle.std.proofs.lemmas.Str.Parse.{IsNumeralModel, numerals_by_value, tells_digits, digit_from_value, digits_value-take-le, digits_value_short}
use Rattle.std.proofs.lemmas.Fmt.{digits_decimal, digits_value-decimal, decimal-digits_value, decimal_digit, first_decimal, decimal_injective}
use Rattle.std.proofs.lemmas.Bool.{cases_lt}
use Rattle.std.proofs.lemmas.List.{take-append-drop, take-append-le, drop_more, drop_all}
use Rattle.std.proofs.lemmas.Int.Digits.{digits_more, digits_value_more}
use Rattle.std.specs.Char.{digit_value, is_ascii_digit}
use Rattle.std.specs.Fmt.{decimal}
use Rattle.std.specs.Str.Parse.{AllDigits, digits_value}
use Rattle.rohc_replay.specs.Numeral.{IsNumberAt, begins_with_digit, is_canonical}

own : IsNumeralModel (AllDigits 10) (digits_value 10)
own = numerals_by_value (AllDigits 10) tells_digits

-- a digit below ten is one of `0` to `9`
pub digit_is : (c : ℕ) → digit_value c < 10 → is_ascii_digit c ≡ true
digit_is c h = let r = digit_from_value c h in grind arith

pub digit_not : (c : ℕ) → digit_value c < 10 → is_ascii_digit c ≡ false → ⊥
digit_not c h e = cc (sym (digit_is c h) ∙ e)

-- the digits in front of a text are one run
pub runs_same : (ds es x y : List ℕ) → AllDigits 10 ds → AllDigits 10 es → begins_with_digit x ≡ false → begins_with_digit y ≡ false
    → ds ++ x ≡ es ++ y → (ds ≡ es) × (x ≡ y)
runs_same [] [] x y hd he ex ey same = (refl, same)
runs_same [] (e ∷ es) x y hd he ex ey same = absurd (digit_not e he.0 (ap begins_with_digit (sym same) ∙ ex))
runs_same (d ∷ ds) [] x y hd he ex ey same = absurd (digit_not d hd.0 (ap begins_with_digit same ∙ ey))
runs_same (d ∷ ds) (e ∷ es) x y hd he ex ey same =
    let tails : ds ++ x ≡ es ++ y = cc in
    let rest = runs_same ds es x y hd.1 he.1 ex ey tails in
    (cc rest.0, rest.1)

-- digits in front of a text are no longer than its run of digits
pub run_within : (es rest : List ℕ) (k : ℕ) → AllDigits 10 (take k (es ++ rest)) → k ≤ length (es ++ rest)
    → begins_with_digit rest ≡ false → k ≤ length es
run_within es rest zero digits within ends = omega arith
run_within [] [] (suc k) digits within ends = omega arith
run_within [] (c ∷ cs) (suc k) digits within ends = absurd (digit_not c digits.0 ends)
run_within (e ∷ es) rest (suc k) digits within ends =
    let ih = run_within es rest k digits.1 (omega (arith, within)) ends in omega (arith, ih)

-- digits that don't begin with `0` are plain
canonical_from : (ds : List ℕ) → AllDigits 10 ds → 48 < get_or ds 0 0 → is_canonical ds ≡ true
canonical_from [] digits first = absurd (omega (arith, first))
canonical_from (d ∷ []) digits first = refl
canonical_from (d ∷ e ∷ ds) digits first = let r = digit_from_value d digits.0 in grind arith

-- a number's digits
number_digits : (n : ℕ) → n < 2 ^ 64 → AllDigits 10 (decimal n)
number_digits n small = digits_decimal own n small

-- a number's digits are plain
pub decimal_canonical : (n : ℕ) → n < 2 ^ 64 → is_canonical (decimal n) ≡ true
decimal_canonical n small = elim (cases_lt n 10) [
  | inl below ↦ rw (decimal_digit n below) refl
  | inr above ↦ canonical_from (decimal n) (number_digits n small) (first_decimal n (omega arith) small)
]

-- plain digits are some
canonical_some : (ds : List ℕ) → is_canonical ds ≡ true → 0 < length ds
canonical_some [] canonical = cc canonical
canonical_some (d ∷ ds) canonical = omega arith

-- plain digits begin with `0` only where that is all
canonical_zero : (ds : List ℕ) → is_canonical ds ≡ true → get_or ds 0 0 ≡ 48 → length ds ≡ 1
canonical_zero [] canonical first = cc canonical
canonical_zero (d ∷ []) canonical first = refl
canonical_zero (d ∷ e ∷ ds) canonical first = grind arith

-- and plain digits are a number's
pub canonical_decimal : (ds : List ℕ) → AllDigits 10 ds → is_canonical ds ≡ true → digits_value 10 ds < 2 ^ 64 → decimal (digits_value 10 ds) ≡ ds
canonical_decimal ds digits canonical small = decimal-digits_value own ds digits (canonical_some ds canonical) (canonical_zero ds canonical) small

-- the run of digits is read
pub number_read : (text : List ℕ) (size number : ℕ) → AllDigits 10 (take size text) → digits_value 10 (take size text) ≡ number → number < 2 ^ 64
    → begins_with_digit (drop size text) ≡ false → is_canonical (take size text) ≡ true → IsNumberAt text number (drop size text)
number_read text size number digits value small ends canonical = record {
  fits = small;
  spelled =
      let spelled = canonical_decimal (take size text) digits canonical (rw value small) in
      sym (take-append-drop size text) ∙ ap (λ (ds : List ℕ). ds ++ drop size text) (sym spelled ∙ ap decimal value);
  ends = ends;
}

-- a run of digits that isn't plain is no number's
pub no_number : (text : List ℕ) (size : ℕ) → AllDigits 10 (take size text) → begins_with_digit (drop size text) ≡ false → is_canonical (take size text) ≡ false
    → (number : ℕ) (rest : List ℕ) → ¬ (IsNumberAt text number rest)
no_number text size digits ends not_canonical number rest h =
    let same = runs_same (take size text) (decimal number) (drop size text) rest digits (number_digits number h.fits) ends h.ends
    (take-append-drop size text ∙ h.spelled) in
    cc (sym not_canonical ∙ ap is_canonical same.0 ∙ decimal_canonical number h.fits)

-- digits of a number that is too great are in front of no number's text
pub too_great : (text : List ℕ) (size : ℕ) → size ≤ length text → AllDigits 10 (take size text) → ¬ (digits_value 10 (take size text) < 2 ^ 64)
    → (number : ℕ) (rest : List ℕ) → ¬ (IsNumberAt text number rest)
too_great text size within digits great number rest h =
    let fits : size ≤ length (decimal number) = run_within (decimal number) rest size (rw h.spelled at digits) (rw h.spelled at within) h.ends in
    let front : take size text ≡ take size (decimal number) = ap (take size) h.spelled ∙ take-append-le size (decimal number) rest fits in
    let less = digits_value-take-le 10 (decimal number) size (omega arith) in
    let whole = digits_value-decimal own number h.fits in
    great (rw front (omega (arith, less, whole, h.fits)))

-- a number in front of a text is one
pub number_unique : (text : List ℕ) (m n : ℕ) (x y : List ℕ) → IsNumberAt text m x → IsNumberAt text n y → (m ≡ n) × (x ≡ y)
number_unique text m n x y hm hn =
    let same = runs_same (decimal m) (decimal n) x y (number_digits m hm.fits) (number_digits n hn.fits) hm.ends hn.ends (sym hm.spelled ∙ hn.spelled) in
    (decimal_injective m n hm.fits hn.fits same.0, same.1)

-- the value of a digit
digit_less : (c : ℕ) → digit_value c < 10 → digit_value c ≡ c - 48
digit_less c h = let r = digit_from_value c h in grind arith

-- one digit more
pub digit_more : (text : List ℕ) (size number : ℕ) → size < length text → AllDigits 10 (take size text) → digits_value 10 (take size text) ≡ number
    → digit_value (get_or text size 0) < 10
    → AllDigits 10 (take (size + 1) text) × (digits_value 10 (take (size + 1) text) ≡ number * 10 + (get_or text size 0 - 48))
digit_more text size number within digits value digit = (
  digits_more 10 text size within digits digit,
  digits_value_more 10 text size within ∙ ap (λ (n : ℕ). n * 10 + digit_value (get_or text size 0)) value
      ∙ ap (λ (d : ℕ). number * 10 + d) (digit_less (get_or text size 0) digit),
)

-- eighteen digits are a number below the greatest of them
pub few_digits : (text : List ℕ) (size : ℕ) → AllDigits 10 (take size text) → size < 19 → digits_value 10 (take size text) < 10 ^ 18
few_digits text size digits few = digits_value_short own (take size text) 18 digits (omega (arith, few, length-take size text))

-- where the text ends or has no digit, the run ends
pub run_ends : (text : List ℕ) (size : ℕ) → (size < length text → is_ascii_digit (get_or text size 0) ≡ false) → begins_with_digit (drop size text) ≡ false
run_ends text size other = elim (cases_lt size (length text)) [
  | inl within ↦ ap begins_with_digit (drop_more text size 0 within) ∙ other within
  | inr past ↦ ap begins_with_digit (drop_all size text past)
]
