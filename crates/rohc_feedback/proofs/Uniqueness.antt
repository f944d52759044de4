-- An element's octets have one meaning at most: identifiers are told from one another and from feedback, and words by
-- their feedback.
use Rattle.std.proofs.Common.{◌≡◌, ℕ, ◌+◌, ◌*◌, ◌/◌, ◌%◌, ◌<◌, ◌≤◌, true, false, List, [], ◌∷◌, ◌++◌, Option, Some, None, ◌==◌, if◌then◌else◌, zero, suc, refl, sym, ap, ◌∙◌, inl, inr, ◌⊎◌, ⊎_elim, arith}
use Rattle.std.specs.Prelude.{nat_lt}
use Rattle.std.proofs.lemmas.Bool.Decides.{nat_tests}
use Rattle.std.proofs.lemmas.Bool.{cases_lt}
use Rattle.rohc_frame.specs.declared.header.CidKind.{CidKind}
use Rattle.rohc_frame.specs.declared.header.CidKind.TheVariants.{Small, Large}
use Rattle.rohc_frame.specs.Header.{greatest_cid}
use Rattle.rohc_feedback.specs.declared.meaning.Word.{Word}
use Rattle.rohc_feedback.specs.declared.meaning.Word.TheVariants.{Ack, Nack, StaticNack, Plain}
use Rattle.rohc_feedback.specs.declared.meaning.Reading.{Reading}
use Rattle.rohc_feedback.specs.Element.{GoesWith, IsMeaning, feedback_check, feedback_octets, identifier_octets, octets_of_meaning}
use Rattle.rohc_feedback.specs.Split.{BeginsFeedback, feedback_numbers}
use Rattle.rohc_feedback.proofs.Spelled.{add_cid_is, feedback_is}
use Rattle.rohc_feedback.proofs.Parts.{begins_feedback, data_once, word_parts, same_meaning}

-- ---- words by their feedback

abbrev acknowledged : ℕ → Word
acknowledged acktype = if acktype == 0 then Ack else Nack

abbrev unnumbered : ℕ → Word
unnumbered acktype = if acktype == 1 then Nack else StaticNack

-- the word and the number of feedback, by its length
abbrev said : List ℕ → Word × Option ℕ
said [] = (Plain, None)
said (a ∷ []) = (Plain, None)
said (a ∷ b ∷ []) = (Plain, None)
said (a ∷ b ∷ c ∷ []) = (Plain, None)
said (a ∷ b ∷ c ∷ d ∷ []) = (acknowledged (a / 64), Some (a % 16 * 256 + b))
said (a ∷ b ∷ c ∷ d ∷ e ∷ octets) = (unnumbered (a / 64), None)

said_numbers : (word : Word) (sn : Option ℕ) (crc : ℕ) → GoesWith word sn → said (feedback_numbers word sn crc) ≡ (word, sn)
said_numbers Ack (Some sn) crc low =
    let acktype : (0 * 64 + 2 * 16 + sn / 256) / 64 ≡ 0 = omega arith in
    let number : (0 * 64 + 2 * 16 + sn / 256) % 16 * 256 + sn % 256 ≡ sn = omega arith in
    rw (acktype, number) refl
said_numbers Ack None crc low = absurd low
said_numbers Nack (Some sn) crc low =
    let acktype : (1 * 64 + 2 * 16 + sn / 256) / 64 ≡ 1 = omega arith in
    let number : (1 * 64 + 2 * 16 + sn / 256) % 16 * 256 + sn % 256 ≡ sn = omega arith in
    rw (acktype, number) refl
said_numbers Nack None crc low = refl
said_numbers StaticNack (Some sn) crc none = absurd cc
said_numbers StaticNack None crc none = refl
said_numbers Plain sn crc none = rw none refl

said_feedback : (word : Word) (sn : Option ℕ) (crc : ℕ) → GoesWith word sn → said (feedback_octets word sn crc) ≡ (word, sn)
said_feedback word sn crc good = ap said (feedback_is word sn crc good) ∙ said_numbers word sn (crc % 256) good

feedback_once : (word other_word : Word) (sn other_sn : Option ℕ) (crc other_crc : ℕ) → GoesWith word sn → GoesWith other_word other_sn
    → feedback_octets word sn crc ≡ feedback_octets other_word other_sn other_crc → (word ≡ other_word) × (sn ≡ other_sn)
feedback_once word other_word sn other_sn crc other_crc good other_good is =
    word_parts word other_word sn other_sn
    (ap Some (sym (said_feedback word sn crc good) ∙ ap said is ∙ said_feedback other_word other_sn other_crc other_good))

-- ---- identifiers in front of feedback

abbrev IsOnce : CidKind → Type 0
IsOnce size = (cid other : ℕ) (feedback other_feedback : List ℕ) → cid ≤ greatest_cid size → other ≤ greatest_cid size →
    BeginsFeedback feedback → BeginsFeedback other_feedback →
    identifier_octets size cid ++ feedback ≡ identifier_octets size other ++ other_feedback → (cid ≡ other) × (feedback ≡ other_feedback)

-- a small identifier has no octet, or one
small_shape : (cid : ℕ) → ((cid ≡ 0) × (identifier_octets Small cid ≡ [])) ⊎ (identifier_octets Small cid ≡ (224 + cid % 16) ∷ [])
small_shape zero = inl (refl, refl)
small_shape (suc n) = inr (let test : (suc n == 0) ≡ false = grind (arith, nat_tests) in rw test (add_cid_is (suc n)))

-- feedback isn't an Add-CID octet with other feedback behind
not_add_cid : (feedback other_feedback : List ℕ) (cid : ℕ) → BeginsFeedback feedback → feedback ≡ (224 + cid % 16) ∷ other_feedback → ⊥
not_add_cid [] other_feedback cid begins is = begins
not_add_cid (first ∷ rest) other_feedback cid begins is = let same : first ≡ 224 + cid % 16 = cc in absurd (omega arith)

small_once : IsOnce Small
small_once cid other feedback other_feedback fits other_fits begins other_begins is = ⊎_elim
    (λ (none : (cid ≡ 0) × (identifier_octets Small cid ≡ [])). ⊎_elim
    (λ (other_none : (other ≡ 0) × (identifier_octets Small other ≡ [])). (none.0 ∙ sym other_none.0, rw (none.1, other_none.1) at is))
    (λ (other_one : identifier_octets Small other ≡ (224 + other % 16) ∷ []).
    absurd (not_add_cid feedback other_feedback other begins (rw (none.1, other_one) at is)))
    (small_shape other))
    (λ (one : identifier_octets Small cid ≡ (224 + cid % 16) ∷ []). ⊎_elim
    (λ (other_none : (other ≡ 0) × (identifier_octets Small other ≡ [])).
    absurd (not_add_cid other_feedback feedback cid other_begins (sym (rw (one, other_none.1) at is))))
    (λ (other_one : identifier_octets Small other ≡ (224 + other % 16) ∷ []).
    let octets : (224 + cid % 16) ∷ feedback ≡ (224 + other % 16) ∷ other_feedback = rw (one, other_one) at is in
    let same : 224 + cid % 16 ≡ 224 + other % 16 = cc in
    (omega arith, cc))
    (small_shape other))
    (small_shape cid)

-- a large identifier has one octet, or two
large_shape : (cid : ℕ) → ((cid < 128) × (identifier_octets Large cid ≡ cid ∷ [])) ⊎ ((128 ≤ cid) × (identifier_octets Large cid ≡ (128 + cid / 256) ∷ (cid % 256) ∷ []))
large_shape cid = ⊎_elim
    (λ (low : cid < 128). inl (low, (let test : nat_lt cid 128 ≡ true = grind (arith, nat_tests) in rw test refl)))
    (λ (high : 128 ≤ cid). inr (high, (let test : nat_lt cid 128 ≡ false = grind (arith, nat_tests) in rw test refl)))
    (cases_lt cid 128)

large_once : IsOnce Large
large_once cid other feedback other_feedback fits other_fits begins other_begins is = ⊎_elim
    (λ (one : (cid < 128) × (identifier_octets Large cid ≡ cid ∷ [])). ⊎_elim
    (λ (other_one : (other < 128) × (identifier_octets Large other ≡ other ∷ [])).
    let octets : cid ∷ feedback ≡ other ∷ other_feedback = rw (one.1, other_one.1) at is in
    (cc, cc))
    (λ (other_two : (128 ≤ other) × (identifier_octets Large other ≡ (128 + other / 256) ∷ (other % 256) ∷ [])).
    let octets : cid ∷ feedback ≡ (128 + other / 256) ∷ (other % 256) ∷ other_feedback = rw (one.1, other_two.1) at is in
    let first : cid ≡ 128 + other / 256 = cc in
    absurd (omega arith))
    (large_shape other))
    (λ (two : (128 ≤ cid) × (identifier_octets Large cid ≡ (128 + cid / 256) ∷ (cid % 256) ∷ [])). ⊎_elim
    (λ (other_one : (other < 128) × (identifier_octets Large other ≡ other ∷ [])).
    let octets : (128 + cid / 256) ∷ (cid % 256) ∷ feedback ≡ other ∷ other_feedback = rw (two.1, other_one.1) at is in
    let first : 128 + cid / 256 ≡ other = cc in
    absurd (omega arith))
    (λ (other_two : (128 ≤ other) × (identifier_octets Large other ≡ (128 + other / 256) ∷ (other % 256) ∷ [])).
    let octets : (128 + cid / 256) ∷ (cid % 256) ∷ feedback ≡ (128 + other / 256) ∷ (other % 256) ∷ other_feedback = rw (two.1, other_two.1) at is in
    let first : 128 + cid / 256 ≡ 128 + other / 256 = cc in
    let second : cid % 256 ≡ other % 256 = cc in
    (omega arith, cc))
    (large_shape other))
    (large_shape cid)

identifier_once : (size : CidKind) → IsOnce size
identifier_once Small = small_once
identifier_once Large = large_once

-- ---- the meaning of an element

pub meaning_once : (size : CidKind) (a b : Reading) → IsMeaning size a → IsMeaning size b → octets_of_meaning size a ≡ octets_of_meaning size b → a ≡ b
meaning_once size a b good other_good is =
    let crc : ℕ = feedback_check (identifier_octets size a.cid) a.word a.sn in
    let other_crc : ℕ = feedback_check (identifier_octets size b.cid) b.word b.sn in
    let split = identifier_once size a.cid b.cid (feedback_octets a.word a.sn crc) (feedback_octets b.word b.sn other_crc) good.within other_good.within
    (begins_feedback a.word a.sn crc good.number) (begins_feedback b.word b.sn other_crc other_good.number) (data_once size a b is) in
    let words = feedback_once a.word b.word a.sn b.sn crc other_crc good.number other_good.number split.1 in
    same_meaning a.cid a.word a.sn b split.0 words.0 words.1
