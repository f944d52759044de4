use Rattle.std.proofs.Common.{◌≡◌, ℕ, ◌<◌, ◌^◌, arith}
use Rattle.rohc_links.specs.Limits.{counted}

-- nothing more leaves a count as it was
pub counted_none : (n : ℕ) → n < 2 ^ 64 → n ≡ counted n 0
counted_none n fits = omega arith
