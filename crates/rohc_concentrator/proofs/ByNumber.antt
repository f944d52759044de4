-- One number and each other one.
use Rattle.std.proofs.Common.{◌≡◌, ◌≢◌, ℕ, Bool, true, false, nat_eq, refl, sym, subst, arith}
use Rattle.std.proofs.lemmas.Bool.Decides.{nat_tests}

-- what holds of one number and of each other one holds of all
pub by_number : (P : ℕ → Type 0) (one : ℕ) → P one → ((n : ℕ) → n ≢ one → P n) → (n : ℕ) → P n
by_number P one here elsewhere n = by (nat_eq n one) refl
  where
    by : (b : Bool) → nat_eq n one ≡ b → P n
    by true e = let is : n ≡ one = grind (arith, nat_tests) in subst P (sym is) here
    by false e = elsewhere n (grind (arith, nat_tests))
