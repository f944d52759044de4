-- Acts, and then more of them.
use Rattle.std.proofs.Common.{◌≡◌, ◌<◌, ℕ, refl, arith, List, [], ◌++◌, append_assoc, append-nil, sym, ◌∙◌, ap}
use Rattle.std.specs.Prelude.{Option, Some, None, zero, suc}
use Rattle.rohc_world.specs.Acts.{Act, AddsActs}

pub adds_none : (acts : Option (List Act)) → AddsActs acts acts []
adds_none None = tt
adds_none (Some acts) = sym (append-nil acts)

pub adds_more : (before mid after : Option (List Act)) (a b : List Act) → AddsActs before mid a → AddsActs mid after b →
    AddsActs before after (a ++ b)
adds_more None None None a b ha hb = tt
adds_more None None (Some z) a b ha hb = hb
adds_more None (Some y) after a b ha hb = absurd ha
adds_more (Some x) (Some y) (Some z) a b ha hb = hb ∙ ap (λ (l : List Act). l ++ b) ha ∙ append_assoc x a b
adds_more (Some x) None (Some z) a b ha hb = absurd hb
adds_more (Some x) mid None a b ha hb = tt

pub positive : (n : ℕ) → (n ≡ 0 → ⊥) → 0 < n
positive zero h = absurd (h refl)
positive (suc n) h = omega arith
