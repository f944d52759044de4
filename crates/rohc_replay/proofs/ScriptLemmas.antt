-- A text is one script: no line is two things, and no event has the spelling of another.
use Rattle.std.proofs.Common.{◌≡◌, ℕ, ◌*◌, List, [], ◌∷◌, ◌++◌, get_or, length, All, arith, refl, sym, ◌∙◌, ap}
use Rattle.std.specs.Fmt.{decimal}
use Rattle.hex.specs.Hex.{decode_of}
use Rattle.hex.proofs.HexLemmas.{decode_of-encode_lower, length-encode_with}
use Rattle.rohc_frame.specs.Laws.{IsOctet}
use Rattle.rohc_replay.specs.Laws.{HasOneScript}
use Rattle.rohc_concentrator.specs.Events.{Event, Arrive, Reset}
use Rattle.rohc_replay.specs.Script.{IsEvent, Line, Good, Bad, Long, IsLine, AreLines, lines_of, hex_text, spelling}
use Rattle.rohc_replay.proofs.DigitLemmas.{octets_are_bytes}
use Rattle.rohc_replay.proofs.NumeralLemmas.{number_unique}
use Rattle.rohc_replay.proofs.SpellingLemmas.{after_arrive, number_alone}

-- octets have one spelling each
hex_one : (xs ys : List ℕ) → All IsOctet xs → All IsOctet ys → hex_text xs ≡ hex_text ys → xs ≡ ys
hex_one [] [] p q e = refl
hex_one [] (y ∷ ys) p q e = absurd (let n : 1 ≡ 2 * length (y ∷ ys) = ap length e ∙ length-encode_with _ (y ∷ ys) in omega (arith, n))
hex_one (x ∷ xs) [] p q e = absurd (let n : 1 ≡ 2 * length (x ∷ xs) = ap length (sym e) ∙ length-encode_with _ (x ∷ xs) in omega (arith, n))
hex_one (x ∷ xs) (y ∷ ys) p q e = let same = sym (decode_of-encode_lower (x ∷ xs) (octets_are_bytes (x ∷ xs) p)) ∙ ap decode_of e ∙ decode_of-encode_lower (y ∷ ys) (octets_are_bytes (y ∷ ys) q) in cc

-- an event has one spelling
spelling_one : (e f : Event) → IsEvent e → IsEvent f → spelling e ≡ spelling f → e ≡ f
spelling_one (Arrive l m xs) (Arrive k n ys) p q same =
    let behind : decimal l ++ 32 ∷ (decimal m ++ 32 ∷ hex_text xs) ≡ decimal k ++ 32 ∷ (decimal n ++ 32 ∷ hex_text ys) =
    sym (after_arrive _ l m xs refl) ∙ after_arrive _ k n ys same in
    let links = number_unique (decimal l ++ 32 ∷ (decimal m ++ 32 ∷ hex_text xs)) l k (32 ∷ (decimal m ++ 32 ∷ hex_text xs)) (32 ∷ (decimal n ++ 32 ∷ hex_text ys))
    (record { fits = omega (arith, p.0); spelled = refl; ends = refl }) (record { fits = omega (arith, q.0); spelled = behind; ends = refl }) in
    let moments_text : decimal m ++ 32 ∷ hex_text xs ≡ decimal n ++ 32 ∷ hex_text ys = let h = links.1 in cc in
    let moments = number_unique (decimal m ++ 32 ∷ hex_text xs) m n (32 ∷ hex_text xs) (32 ∷ hex_text ys)
    (record { fits = p.1; spelled = refl; ends = refl }) (record { fits = q.1; spelled = moments_text; ends = refl }) in
    let octets : hex_text xs ≡ hex_text ys = let h = moments.1 in cc in
    rw (links.0, moments.0, hex_one xs ys p.3 q.3 octets) refl
spelling_one (Arrive l m xs) (Reset k) p q same = absurd (let heads : ◌≡◌ {A = ℕ} 97 114 = ap (λ (t : List ℕ). get_or t 0 0) same in omega arith)
spelling_one (Reset l) (Arrive k n ys) p q same = absurd (let heads : ◌≡◌ {A = ℕ} 114 97 = ap (λ (t : List ℕ). get_or t 0 0) same in omega arith)
spelling_one (Reset l) (Reset k) p q same =
    let numbers : decimal l ≡ decimal k = cc same in
    ap (λ n. Reset n) (number_unique (decimal l) l k [] [] (number_alone (decimal l) l (omega (arith, p)) refl) (number_alone (decimal l) k (omega (arith, q)) numbers)).0

line_one : (octets : List ℕ) (a b : Line) → IsLine octets a → IsLine octets b → a ≡ b
line_one octets (Good e) (Good f) p q = ap (λ x. Good x) (spelling_one e f p.0 q.0 (sym p.1 ∙ q.1))
line_one octets (Good e) Bad p q = absurd (q.1 e p.0 p.1)
line_one octets (Good e) Long p q = absurd (omega (arith, p.2, q))
line_one octets Bad (Good e) p q = absurd (p.1 e q.0 q.1)
line_one octets Bad Bad p q = refl
line_one octets Bad Long p q = absurd (omega (arith, p.0, q))
line_one octets Long (Good e) p q = absurd (omega (arith, q.2, p))
line_one octets Long Bad p q = absurd (omega (arith, q.0, p))
line_one octets Long Long p q = refl

pub lines_one : (texts : List (List ℕ)) (a b : List Line) → AreLines texts a → AreLines texts b → a ≡ b
lines_one [] [] [] p q = refl
lines_one [] (x ∷ a) b p q = absurd p
lines_one [] [] (y ∷ b) p q = absurd q
lines_one (t ∷ texts) [] b p q = absurd p
lines_one (t ∷ texts) (x ∷ a) [] p q = absurd q
lines_one (t ∷ texts) (x ∷ a) (y ∷ b) p q = ap (λ z. z ∷ a) (line_one t x y p.0 q.0) ∙ ap (λ z. y ∷ z) (lines_one texts a b p.1 q.1)

pub one_script : HasOneScript
one_script text a b p q = lines_one (lines_of text) a b p q
