-- What the spelling of an event begins with.
use Rattle.std.proofs.Common.{◌≡◌, ◌≢◌, ℕ, ◌<◌, ◌^◌, List, [], ◌∷◌, ◌++◌, get_or, take, Option, Some, None, append_assoc, append-nil, sym, ◌∙◌, ap, refl, arith}
use Rattle.std.specs.Prelude.{codes, All, IfNone}
use Rattle.std.specs.Option.{SomeIff}
use Rattle.std.proofs.lemmas.List.Elements.{All-take, All-from_get_or}
use Rattle.rohc_frame.specs.Laws.{IsOctet}
use Rattle.rohc_replay.proofs.NumeralLemmas.{number_unique}
use Rattle.std.specs.Fmt.{decimal}
use Rattle.rohc_replay.specs.Numeral.{IsNumberAt}
use Rattle.rohc_concentrator.specs.Events.{Event, Arrive, Reset}
use Rattle.rohc_replay.specs.Script.{IsEvent, spelling, hex_text}

-- what stands behind `arrive `
pub after_arrive : (text : List ℕ) (link moment : ℕ) (octets : List ℕ) → codes "arrive " ++ text ≡ spelling (Arrive link moment octets)
    → text ≡ decimal link ++ 32 ∷ (decimal moment ++ 32 ∷ hex_text octets)
after_arrive text link moment octets same =
    let tails : text ≡ decimal link ++ (32 ∷ []) ++ decimal moment ++ (32 ∷ []) ++ hex_text octets = cc same in
    tails ∙ simp append_assoc

-- A text that spells no arrival behind `arrive ` spells no event.
pub no_event : (text : List ℕ)
    → ((link moment : ℕ) (octets : List ℕ) → IsEvent (Arrive link moment octets)
    → IsNumberAt text link (32 ∷ (decimal moment ++ 32 ∷ hex_text octets)) → IsNumberAt (decimal moment ++ 32 ∷ hex_text octets) moment (32 ∷ hex_text octets) → ⊥)
    → (e : Event) → IsEvent e → codes "arrive " ++ text ≢ spelling e
no_event text none (Arrive link moment octets) good same =
    none link moment octets good
    (record { fits = omega (arith, good.0); spelled = after_arrive text link moment octets same; ends = refl })
    (record { fits = good.1; spelled = refl; ends = refl })
no_event text none (Reset link) good same =
    let heads : ◌≡◌ {A = ℕ} 97 114 = ap (λ (l : List ℕ). get_or l 0 0) same in
    omega arith

-- a text that is a number and nothing else
pub number_alone : (text : List ℕ) (number : ℕ) → number < 2 ^ 64 → text ≡ decimal number → IsNumberAt text number []
number_alone text number small same = record { fits = small; spelled = same ∙ sym (append-nil (decimal number)); ends = refl }

-- a number that is all of a text and no link's is of no link
pub no_link : (text : List ℕ) (number : ℕ) (rest : List ℕ) (r : Option ℕ) → SomeIff r (number < 2 ^ 16) number → IsNumberAt text number rest
    → IfNone r ((link : ℕ) → link < 2 ^ 16 → text ≢ decimal link)
no_link text number rest None great h = λ link small same.
    let unique = number_unique text number link rest [] h (number_alone text link (omega arith) same) in
    great (rw unique.0 small)
no_link text number rest (Some n) fits h = tt

-- the items of a slice of octets are octets
pub octets_small : (octets : List ℕ) (size : ℕ) → ((i : ℕ) → get_or octets i 0 < 256) → All IsOctet (take size octets)
octets_small octets size small =
    All-take IsOctet size octets (All-from_get_or IsOctet octets 0 (λ i within. small i))
