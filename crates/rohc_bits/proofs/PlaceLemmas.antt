-- What fields cut a number into is what stands at their places.
use Rattle.std.proofs.Common.{◌≡◌, ℕ, ◌+◌, ◌*◌, ◌/◌, ◌%◌, ◌^◌, ◌<◌, Bool, List, [], ◌∷◌, ◌++◌, length, take, drop, refl, sym, ap, subst, ◌∙◌, arith}
use Rattle.std.specs.Prelude.{map}
use Rattle.std.proofs.lemmas.List.{take-append-drop, drop-take, length-drop, length-take-le}
use Rattle.std.proofs.lemmas.Nat.{div-mul-add}
use Rattle.std.proofs.Math.Nat.{mul-add-mod_self_right, mod-eq_of_lt}
use Rattle.rohc_bits.specs.Bits.{bits_of, number}
use Rattle.rohc_bits.specs.Places.{row_places, shown_at, widths, cut}
use Rattle.rohc_bits.proofs.BitLists.{number-below, number-append, length-bits_of}

-- c bits, with k bits before them and w bits behind
slice_at : (xs : List Bool) (k c w : ℕ) → length xs ≡ k + c + w → number xs / 2 ^ w % 2 ^ c ≡ number (take c (drop k xs))
slice_at xs k c w l =
    let front : List Bool = take (k + c) xs in
    let behind : List Bool = drop (k + c) xs in
    let last : length behind ≡ w = omega (arith, length-drop (k + c) xs, l) in
    let below : number behind < 2 ^ w = subst (λ j. number behind < 2 ^ j) last (number-below behind) in
    let whole : number xs ≡ number front * 2 ^ w + number behind =
    ap number (sym (take-append-drop (k + c) xs)) ∙ number-append front behind ∙ ap (λ j. number front * 2 ^ j + number behind) last in
    let middle : List Bool = take c (drop k xs) in
    let counted : length middle ≡ c = length-take-le c (drop k xs) (omega (arith, length-drop k xs, l)) in
    let small : number middle < 2 ^ c = subst (λ j. number middle < 2 ^ j) counted (number-below middle) in
    let parts : number front ≡ number (take k front) * 2 ^ c + number middle =
    ap number (sym (take-append-drop k front)) ∙ ap (λ (m : List Bool). number (take k front ++ m)) (drop-take k c xs)
    ∙ number-append (take k front) middle ∙ ap (λ j. number (take k front) * 2 ^ j + number middle) counted in
    ap (λ n. n / 2 ^ w % 2 ^ c) whole ∙ ap (λ n. n % 2 ^ c) (div-mul-add (number front) (2 ^ w) (number behind) below)
    ∙ ap (λ n. n % 2 ^ c) parts ∙ mul-add-mod_self_right (number (take k front)) (2 ^ c) (number middle) ∙ mod-eq_of_lt small

row_stands : {N : Type 0} (row : List (N × ℕ)) (octets : List ℕ) (first : ℕ) → 8 * length octets ≡ first + widths row →
    map (shown_at octets) (row_places first row) ≡ cut row (number (bits_of octets))
row_stands [] octets first l = refl
row_stands ((name, count) ∷ more) octets first l =
    let here : number (bits_of octets) / 2 ^ widths more % 2 ^ count ≡ number (take count (drop first (bits_of octets))) =
    slice_at (bits_of octets) first count (widths more) (length-bits_of octets ∙ l ∙ omega arith) in
    let there = row_stands more octets (first + count) (l ∙ omega arith) in
    ap (λ n. (name, n) ∷ map (shown_at octets) (row_places (first + count) more)) (sym here)
    ∙ ap (λ ns. (name, number (bits_of octets) / 2 ^ widths more % 2 ^ count) ∷ ns) there

-- Fields of whole octets cut the number of these octets into what stands at their places.
pub stands : {N : Type 0} (row : List (N × ℕ)) (octets : List ℕ) → widths row ≡ 8 * length octets → map (shown_at octets) (row_places 0 row) ≡ cut row (number (bits_of octets))
stands row octets l = row_stands row octets 0 (sym l ∙ omega arith)
