-- The last slash of a path, and what is before it.
use Rattle.std.proofs.Common.{◌≡◌, ◌≤◌, ◌+◌, ℕ, List, length, take, Bor, ◌∙◌, ap, arith}
use Rattle.std.specs.Prelude.{Option, Some, None, MatchOption, unwrap_or}
use Rattle.std.specs.List.{slice_range}
use Rattle.std.specs.Str.{IsCharBoundary}

-- the front of a text that is cut where a character begins
pub got_front : (path : List ℕ) (k : ℕ) (got : Option (Bor (List ℕ))) (other : Bor (List ℕ)) → IsCharBoundary path 0 → IsCharBoundary path k →
    MatchOption got (0 ≤ k → IsCharBoundary path 0 → IsCharBoundary path k → ⊥)
    (λ x. (x.now ≡ slice_range path 0 k) × (length x.now + 0 ≡ k) × (k ≤ length path)) →
    (unwrap_or got other).now ≡ take k path
got_front path k None other start at h = absurd (h (omega arith) start at)
got_front path k (Some x) other start at h = h.0 ∙ ap (λ (n : ℕ). take n path) (omega arith)
