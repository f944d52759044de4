use Rattle.std.proofs.Common.{◌≡◌, ℕ, zero, suc, get_or, replicate, refl}
use Rattle.rohc_counts.proofs.counts.Counts.new.Goals as goal

none_at : (n k : ℕ) → ◌≡◌ {A = ℕ} (get_or (replicate n 0) k 0) 0
none_at zero k = refl
none_at (suc n) zero = refl
none_at (suc n) (suc k) = none_at n k

pub returns-clause-outcomes : goal.returns-clause-outcomes
returns-clause-outcomes c = λ k. none_at 32 k
