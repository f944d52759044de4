use Rattle.std.proofs.Common.{◌≡◌, ℕ, ◌+◌, ◌*◌, ◌^◌, ◌%◌, ◌<◌, ◌≤◌, min, ⊎_elim, ◌∙◌, arith}
use Rattle.std.proofs.lemmas.Nat.{mul-add-lt, pow-add, mod_below}
use Rattle.std.proofs.Math.Nat.{mod-le, min-eq_left, min-eq_right, mul_comm}
use Rattle.std.proofs.lemmas.Bool.{cases_lt}

-- a value of m bits and a value of k bits behind it have m + k bits
pub joined_below : (high low m k : ℕ) → high < 2 ^ m → low < 2 ^ k → high * 2 ^ k + low < 2 ^ (m + k)
joined_below high low m k h l =
    let e : 2 ^ (m + k) ≡ 2 ^ k * 2 ^ m = pow-add 2 m k ∙ mul_comm (2 ^ m) (2 ^ k) in
    rw e (mul-add-lt high (2 ^ k) low (2 ^ m) h l)

-- and kept to the low 32, they have as many as there are, or 32
kept_fits : (high low m k : ℕ) → high < 2 ^ m → low < 2 ^ k → (high * 2 ^ k + low) % 2 ^ 32 < 2 ^ min (m + k) 32
kept_fits high low m k h l = ⊎_elim
    (λ (wide : 32 < m + k). rw (min-eq_right {n = 32} {m = m + k} (omega arith)) (mod_below (high * 2 ^ k + low) (2 ^ 32) (omega arith)))
    (λ (narrow : m + k ≤ 32). rw (min-eq_left {n = m + k} {m = 32} narrow)
    (omega (arith, mod-le (high * 2 ^ k + low) (2 ^ 32), joined_below high low m k h l)))
    (cases_lt 32 (m + k))

-- the same of any number that is these, and of as many bits
pub joined_fits : (joined count high low m k : ℕ) → joined ≡ (high * 2 ^ k + low) % 2 ^ 32 → count ≡ min (m + k) 32 → high < 2 ^ m → low < 2 ^ k → joined < 2 ^ count
joined_fits joined count high low m k is counted h l = rw (is, counted) (kept_fits high low m k h l)
