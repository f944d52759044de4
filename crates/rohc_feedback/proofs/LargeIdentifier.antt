use Rattle.std.proofs.Common.{◌≡◌, ℕ, ◌+◌, ◌-◌, ◌/◌, ◌%◌, ◌<◌, ◌≤◌, true, false, List, [], ◌∷◌, ◌++◌, length, take, drop, take_all, refl, sym, ap, ◌∙◌, length-drop, ⊎_elim, arith}
use Rattle.std.proofs.Math.Seq.{drop-append_seam}
use Rattle.std.specs.Prelude.{Option, Some, None, nat_lt}
use Rattle.std.proofs.lemmas.Bool.Decides.{nat_tests}
use Rattle.std.proofs.lemmas.Bool.{cases_lt}
use Rattle.std.proofs.lemmas.List.Elements.{All-nil, All-cons}
use Rattle.rohc_bits.specs.Spelling.{IsSpelled}
use Rattle.rohc_bits.proofs.Arithmetic.{spelled_as, is_spelled}
use Rattle.rohc_frame.specs.declared.header.CidKind.TheVariants.{Large}
use Rattle.rohc_feedback.specs.Element.{identifier_octets}

-- The octets of a large identifier that the definition gives spell it, no fewer do, and they are read as it.

one_octet : (cid : ℕ) → cid < 128 → IsSpelled (cid ∷ []) cid
one_octet cid low =
    is_spelled (cid ∷ []) cid (All-cons (λ octet. octet < 256) cid [] (omega arith) (All-nil (λ octet. octet < 256))) (omega arith, refl)

two_octets : (cid : ℕ) → 128 ≤ cid → cid ≤ 16383 → IsSpelled ((128 + cid / 256) ∷ (cid % 256) ∷ []) cid
two_octets cid high low =
    let P : ℕ → Type 0 = λ octet. octet < 256 in
    is_spelled ((128 + cid / 256) ∷ (cid % 256) ∷ []) cid
    (All-cons P (128 + cid / 256) (cid % 256 ∷ []) (omega arith) (All-cons P (cid % 256) [] (omega arith) (All-nil P)))
    (omega arith, omega arith)

-- the definition's octets spell the identifier
pub spelled_identifier : (cid : ℕ) → cid ≤ 16383 → IsSpelled (identifier_octets Large cid) cid
spelled_identifier cid fits = ⊎_elim
    (λ (low : cid < 128).
    let test : nat_lt cid 128 ≡ true = grind (arith, nat_tests) in
    rw test (one_octet cid low))
    (λ (high : 128 ≤ cid).
    let test : nat_lt cid 128 ≡ false = grind (arith, nat_tests) in
    rw test (two_octets cid high fits))
    (cases_lt cid 128)

-- no octet spells nothing, and one octet spells less than 128
some_octets : (text : List ℕ) (cid : ℕ) → IsSpelled text cid → 1 ≤ length text
some_octets [] cid is = absurd (spelled_as [] cid is)
some_octets (a ∷ text) cid is = omega arith

more_octets : (text : List ℕ) (cid : ℕ) → 128 ≤ cid → IsSpelled text cid → 2 ≤ length text
more_octets [] cid high is = absurd (spelled_as [] cid is)
more_octets (a ∷ []) cid high is = let s = spelled_as (a ∷ []) cid is in absurd (omega (arith, high, s.0, s.1))
more_octets (a ∷ b ∷ text) cid high is = omega arith

pub shortest : (cid : ℕ) (text : List ℕ) → IsSpelled text cid → length (identifier_octets Large cid) ≤ length text
shortest cid text is = ⊎_elim
    (λ (low : cid < 128).
    let test : nat_lt cid 128 ≡ true = grind (arith, nat_tests) in
    rw test (some_octets text cid is))
    (λ (high : 128 ≤ cid).
    let test : nat_lt cid 128 ≡ false = grind (arith, nat_tests) in
    rw test (more_octets text cid high is))
    (cases_lt cid 128)

-- what is read where the octets of an identifier stand in front of feedback
abbrev ReadsFront : Option (ℕ × ℕ) → List ℕ → Type 0
ReadsFront read octets = (text rest : List ℕ) (value : ℕ) → octets ≡ text ++ rest → IsSpelled text value → read ≡ Some (value, length text)

-- it isn't none
pub read_some : (read : Option (ℕ × ℕ)) (octets feedback : List ℕ) (cid : ℕ) → ReadsFront read octets → cid ≤ 16383 → octets ≡ identifier_octets Large cid ++ feedback → read ≡ None → ⊥
read_some read octets feedback cid every fits is none =
    let front : read ≡ Some (cid, length (identifier_octets Large cid)) = every (identifier_octets Large cid) feedback cid is (spelled_identifier cid fits) in
    cc

-- and it is no greater value
pub read_within : (read : Option (ℕ × ℕ)) (octets feedback : List ℕ) (cid v n : ℕ) → ReadsFront read octets → cid ≤ 16383 →
    octets ≡ identifier_octets Large cid ++ feedback → read ≡ Some (v, n) → v ≤ 16383
read_within read octets feedback cid v n every fits is read_is =
    let front : read ≡ Some (cid, length (identifier_octets Large cid)) = every (identifier_octets Large cid) feedback cid is (spelled_identifier cid fits) in
    let both : ◌≡◌ {A = ℕ × ℕ} (v, n) (cid, length (identifier_octets Large cid)) = cc in
    let same : v ≡ cid = ap (λ (p : ℕ × ℕ). p.0) both in
    omega (arith, same)

pub behind_front : (octets identifier feedback : List ℕ) (count : ℕ) → octets ≡ identifier ++ feedback → count ≡ length identifier → take (length octets - count) (drop count octets) ≡ feedback
behind_front octets identifier feedback count is counted =
    let behind : drop count octets ≡ feedback = rw (counted, is) (drop-append_seam identifier feedback) in
    let left : length feedback ≡ length octets - count = sym (ap length behind) ∙ length-drop count octets in
    rw behind (take_all (length octets - count) feedback (omega arith))

-- it is the identifier, and the feedback stands behind
pub read_identifier : (read : Option (ℕ × ℕ)) (octets feedback : List ℕ) (cid value count : ℕ) → ReadsFront read octets → cid ≤ 16383 → octets ≡ identifier_octets Large cid ++ feedback → read ≡ Some (value, count)
    → ◌≡◌ {A = Option (ℕ × List ℕ)} (Some (value, take (length octets - count) (drop count octets))) (Some (cid, feedback))
read_identifier read octets feedback cid value count every fits is some =
    let identifier : List ℕ = identifier_octets Large cid in
    let front : read ≡ Some (cid, length identifier) = every identifier feedback cid is (spelled_identifier cid fits) in
    let same : ◌≡◌ {A = ℕ × ℕ} (value, count) (cid, length identifier) = cc in
    let number : value ≡ cid = ap (λ (p : ℕ × ℕ). p.0) same in
    let counted : count ≡ length identifier = ap (λ (p : ℕ × ℕ). p.1) same in
    let behind = behind_front octets identifier feedback count is counted in
    cc
