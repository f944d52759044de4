-- Lines as a text, one behind the other.
use Rattle.std.proofs.Common.{◌≡◌, ℕ, List, [], ◌∷◌, ◌++◌, append_assoc, map, ap}
use Rattle.std.proofs.lemmas.List.Concat.{flat_map-append}
use Rattle.rohc_replay.specs.AnswerLines.{relay_line, text_of}

-- the text of two lists of lines
pub text-append : (xs ys : List (List ℕ)) → text_of (xs ++ ys) ≡ text_of xs ++ text_of ys
text-append xs ys = flat_map-append (λ (line : List ℕ). line ++ 10 ∷ []) xs ys

-- the text of lines, and of three more lists of lines behind them
pub text-four : (xs ys zs ws : List (List ℕ)) → text_of (xs ++ ys ++ zs ++ ws) ≡ text_of xs ++ (text_of ys ++ text_of zs ++ text_of ws)
text-four xs ys zs ws = rw (text-append (xs ++ ys ++ zs) ws, text-append (xs ++ ys) zs, text-append xs ys) (simp append_assoc)

-- the lines of the first element that is relayed, and of the others
pub text-relays : (link : ℕ) (all : List (List ℕ)) (feedback : List ℕ) (others : List (List ℕ)) → all ≡ feedback ∷ others
    → text_of (map (relay_line link) all) ≡ (relay_line link feedback ++ 10 ∷ []) ++ text_of (map (relay_line link) others)
text-relays link all feedback others cut = ap (λ (elements : List (List ℕ)). text_of (map (relay_line link) elements)) cut

-- the lines of none
pub text-no_relays : (link : ℕ) (all : List (List ℕ)) → all ≡ [] → text_of (map (relay_line link) all) ≡ []
text-no_relays link all none = ap (λ (elements : List (List ℕ)). text_of (map (relay_line link) elements)) none
