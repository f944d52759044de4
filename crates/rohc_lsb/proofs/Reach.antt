use Rattle.std.proofs.Common.{ℕ, ◌-◌, ◌^◌, ◌<◌, ◌≤◌, arith}
use Rattle.std.proofs.lemmas.Nat.{pow_pos}
use Rattle.std.proofs.lemmas.Bool.Decides.{nat_tests}
use Rattle.std.proofs.Math.Nat.{pow-le-pow_right}
use Rattle.rohc_lsb.specs.Interval.{p_of_sn}

lower : (k n : ℕ) → 2 ^ (k - n) ≤ 2 ^ k
lower k n = pow-le-pow_right {n = 2} (omega arith) {i = k - n} {j = k} (omega arith)

two : (k : ℕ) → 1 ≤ k → 2 ≤ 2 ^ k
two k some = pow-le-pow_right {n = 2} (omega arith) {i = 1} {j = k} some

-- p of a sequence number's interval is below its size
pub p_of_sn_below : (k : ℕ) → 1 ≤ k → p_of_sn k < 2 ^ k
p_of_sn_below k some = grind (arith, nat_tests, lower k 5, two k some, pow_pos (k - 5))
