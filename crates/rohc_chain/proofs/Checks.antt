use Rattle.std.proofs.Common.{◌≡◌, ℕ, List, ◌++◌, Bool, ◌∙◌}
use Rattle.rohc_checks.specs.Division.{check}
use Rattle.rohc_checks.proofs.Division.{check-append}

-- the check of two parts in turn is that of the whole
pub check_of_two : (poly : List Bool) (reg : ℕ) (a b : List ℕ) → check poly (check poly reg a) b ≡ check poly reg (a ++ b)
check_of_two = check-append

-- and of three
pub check_of_three : (poly : List Bool) (reg : ℕ) (a b c : List ℕ) → check poly (check poly (check poly reg a) b) c ≡ check poly reg (a ++ (b ++ c))
check_of_three poly reg a b c = check_of_two poly (check poly reg a) b c ∙ check_of_two poly reg a (b ++ c)
