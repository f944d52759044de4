-- Parts that are put one behind the other.
use Rattle.std.proofs.Common.{◌≡◌, ℕ, List, ◌++◌, ap, ◌∙◌, append_assoc}

pub two_parts : (before mid after x y : List ℕ) → mid ≡ before ++ x → after ≡ mid ++ y → after ≡ before ++ (x ++ y)
two_parts before mid after x y p q = q ∙ ap (λ l. l ++ y) p ∙ append_assoc before x y
