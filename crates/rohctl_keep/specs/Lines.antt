-- The two lines in which a gateway says where its newest save is, and where the copy belongs. Words:
-- AreLines.
use Rattle.std.specs.Prelude.{◌⊎◌, ◌≡◌, ◌≢◌, ℕ, List, [], ◌∷◌, ◌++◌}

-- octets are these two lines; the last line end may be missing
abbrev pub AreLines : List ℕ → (latest kept : List ℕ) → Type 0
AreLines octets latest kept =
    (latest ≢ []) × (kept ≢ [])
    × ((octets ≡ latest ++ 10 ∷ kept) ⊎ (octets ≡ latest ++ 10 ∷ (kept ++ 10 ∷ [])))
