-- What is said of an octet with several fields stands at their places.
use Rattle.std.proofs.Common.{◌≡◌, ℕ, ◌+◌, ◌*◌, ◌/◌, ◌%◌, ◌^◌, ◌<◌, List, [], ◌∷◌, refl, ap, ◌∙◌, arith}
use Rattle.std.proofs.Math.Nat.{mod-eq_of_lt}
use Rattle.rohc_bits.specs.Bits.{bits_of, number}
use Rattle.rohc_bits.specs.Places.{widths, cut}
use Rattle.rohc_bits.proofs.BitLists.{number-octets}
use Rattle.rohc_bits.proofs.PlaceLemmas.{stands}
use Rattle.rohc_chain.specs.Octets.{Name, Reserved, Version, Df, Rnd, Nbo, V, P, Rx, Cc, M, Pt, X, Mode, Tis, Tss}
use Rattle.rohc_chain.specs.Chains.{version_row, ip_row, rtp_row, type_row, given_row}
use Rattle.rohc_chain.specs.Laws.{fields_of, RowsInPlace}

octet_is : (n : ℕ) → n < 256 → number (bits_of (n ∷ [])) ≡ n
unfolding number
octet_is n small = let low : n % 2 ^ 8 ≡ n = mod-eq_of_lt small in number-octets 8 n [] ∙ ap (λ k. k * 1 + 0) low ∙ omega arith

cut_of : (row : List (Name × ℕ)) (n : ℕ) → n < 256 → widths row ≡ 8 → fields_of n row ≡ cut row n
cut_of row n small whole = stands row (n ∷ []) whole ∙ ap (cut row) (octet_is n small)

pub rows_in_place : RowsInPlace
rows_in_place = λ n small.
    let version : n / 16 % 16 ≡ n / 16 = omega arith in
    let top : n / 128 % 2 ≡ n / 128 = omega arith in
    let two : n / 64 % 4 ≡ n / 64 = omega arith in
    let three : n / 32 % 8 ≡ n / 32 = omega arith in
    let last : n / 1 ≡ n = omega arith in
    record {
      version = cut_of version_row n small refl ∙ ap (λ a. (Version, a) ∷ (Reserved, n / 1 % 16) ∷ []) version ∙ ap (λ b. (Version, n / 16) ∷ (Reserved, b % 16) ∷ []) last;
      ip = cut_of ip_row n small refl ∙ ap (λ a. (Df, a) ∷ (Rnd, n / 64 % 2) ∷ (Nbo, n / 32 % 2) ∷ (Reserved, n / 1 % 32) ∷ []) top
          ∙ ap (λ b. (Df, n / 128) ∷ (Rnd, n / 64 % 2) ∷ (Nbo, n / 32 % 2) ∷ (Reserved, b % 32) ∷ []) last;
      rtp = cut_of rtp_row n small refl ∙ ap (λ a. (V, a) ∷ (P, n / 32 % 2) ∷ (Rx, n / 16 % 2) ∷ (Cc, n / 1 % 16) ∷ []) two
          ∙ ap (λ b. (V, n / 64) ∷ (P, n / 32 % 2) ∷ (Rx, n / 16 % 2) ∷ (Cc, b % 16) ∷ []) last;
      type = cut_of type_row n small refl ∙ ap (λ a. (M, a) ∷ (Pt, n / 1 % 128) ∷ []) top ∙ ap (λ b. (M, n / 128) ∷ (Pt, b % 128) ∷ []) last;
      given = cut_of given_row n small refl ∙ ap (λ a. (Reserved, a) ∷ (X, n / 16 % 2) ∷ (Mode, n / 4 % 4) ∷ (Tis, n / 2 % 2) ∷ (Tss, n / 1 % 2) ∷ []) three
          ∙ ap (λ b. (Reserved, n / 32) ∷ (X, n / 16 % 2) ∷ (Mode, n / 4 % 4) ∷ (Tis, n / 2 % 2) ∷ (Tss, b % 2) ∷ []) last;
    }
