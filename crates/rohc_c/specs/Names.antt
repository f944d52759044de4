-- The names of refusals as C reads them. Word: IsNamed.
use Rattle.std.specs.Prelude.{◌≡◌, ◌≢◌, ℕ, ◌+◌, ◌≤◌, List, [], ◌∷◌, ◌++◌, length, ◌⊎◌}
use Rattle.rohc_context.specs.Refusal.{name_of, number_of}
use Rattle.rohc_context.specs.declared.refusal.Refusal.{Refusal}
use Rattle.rohc_c.specs.Written.{StandsIn}

-- no refusal has the number
abbrev pub NamesNone : ℕ → Type 0
NamesNone number = (r : Refusal) → number ≢ number_of r

-- The name of the refusal with this number stands at the start of a buffer, followed by an octet 0.
abbrev pub IsNamed : (number result : ℕ) → List ℕ → Type 0
IsNamed number result place =
    (r : Refusal) × (number ≡ number_of r) × StandsIn (name_of r ++ 0 ∷ []) (result + 1) place

-- there is no such refusal, or no room for its name and the octet after it
abbrev pub IsUnnamed : (number : ℕ) → List ℕ → Type 0
IsUnnamed number place =
    NamesNone number ⊎ ((r : Refusal) × (number ≡ number_of r) × (length place ≤ length (name_of r)))
