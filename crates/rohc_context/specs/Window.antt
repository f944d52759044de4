-- Recent outcomes. A window is the list of the outcomes since it was last empty, at most the last 64.
-- Words: and_outcome, is_filled, outcomes.
use Rattle.std.specs.Prelude.{ℕ, List, ◌∷◌, take, Bool, count_by, nat_le}
use Rattle.rohc_checks.specs.Division.{bits}
use Rattle.rohc_context.specs.declared.window.Window.{Window}

-- one more outcome, a failure or a success; the newest comes first
unfoldable pub and_outcome : Bool → List Bool → List Bool
and_outcome failure window = take 64 (failure ∷ window)

-- at least k of the last n outcomes are failures
unfoldable pub is_filled : ℕ → ℕ → List Bool → Bool
is_filled k n window = nat_le k (count_by (λ failure. failure) (take n window))

-- the outcomes that a word and a length stand for: one bit for each, the newest in the lowest; 1 is a failure
unfoldable pub outcomes : Window → List Bool
outcomes w = bits w.length w.word
