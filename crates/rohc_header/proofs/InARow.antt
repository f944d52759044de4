-- Lists that are written one after the other.
use Rattle.std.proofs.Common.{◌≡◌, ℕ, List, ◌++◌, append_assoc, ap, ◌∙◌}

-- two and three lists in a row
pub two_written : (old a b first second : List ℕ) → first ≡ old ++ a → second ≡ first ++ b → second ≡ old ++ (a ++ b)
two_written old a b first second e f = f ∙ ap (λ all. all ++ b) e ∙ append_assoc old a b

pub three_written : (old a b c first second third : List ℕ) → first ≡ old ++ a → second ≡ first ++ b → third ≡ second ++ c
    → third ≡ old ++ (a ++ b ++ c)
three_written old a b c first second third e f g = two_written old (a ++ b) c second third (two_written old a b first second e f) g
