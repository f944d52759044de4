use Rattle.std.proofs.Common.{◌≡◌, ℕ, ◌%◌, List, ◌∷◌, length, Option, Some, None, sym, subst, ap, ◌∙◌, arith}
use Rattle.rohc_frame.specs.declared.header.CidKind.{CidKind}
use Rattle.rohc_feedback.specs.declared.meaning.Word.{Word}
use Rattle.rohc_feedback.specs.declared.meaning.Word.TheVariants.{Ack, Nack, StaticNack, Plain}
use Rattle.rohc_feedback.specs.declared.meaning.Reading.{Reading}
use Rattle.rohc_feedback.specs.Element.{GoesWith, feedback_octets, meaning, identifier_octets, data_octets, octets_of_meaning}
use Rattle.rohc_feedback.specs.Split.{BeginsFeedback, feedback_numbers}
use Rattle.rohc_feedback.proofs.Spelled.{element_is, feedback_is}

-- no word's feedback begins like an Add-CID octet
numbers_begin : (word : Word) (sn : Option ℕ) (crc : ℕ) → GoesWith word sn → BeginsFeedback (feedback_numbers word sn crc)
numbers_begin Ack (Some sn) crc low = omega arith
numbers_begin Ack None crc low = absurd low
numbers_begin Nack (Some sn) crc low = omega arith
numbers_begin Nack None crc low = omega arith
numbers_begin StaticNack (Some sn) crc none = absurd cc
numbers_begin StaticNack None crc none = omega arith
numbers_begin Plain sn crc none = omega arith

pub begins_feedback : (word : Word) (sn : Option ℕ) (crc : ℕ) → GoesWith word sn → BeginsFeedback (feedback_octets word sn crc)
begins_feedback word sn crc good = subst BeginsFeedback (sym (feedback_is word sn crc good)) (numbers_begin word sn (crc % 256) good)

-- the parts of an identifier and feedback, and of a word and a number
pub split_parts : (cid other_cid : ℕ) (feedback other_feedback : List ℕ) → ◌≡◌ {A = Option (ℕ × List ℕ)} (Some (cid, feedback)) (Some (other_cid, other_feedback))
    → (cid ≡ other_cid) × (feedback ≡ other_feedback)
split_parts cid other_cid feedback other_feedback is =
    let same : ◌≡◌ {A = ℕ × List ℕ} (cid, feedback) (other_cid, other_feedback) = cc in
    (ap (λ (p : ℕ × List ℕ). p.0) same, ap (λ (p : ℕ × List ℕ). p.1) same)

pub word_parts : (word other_word : Word) (sn other_sn : Option ℕ) → ◌≡◌ {A = Option (Word × Option ℕ)} (Some (word, sn)) (Some (other_word, other_sn))
    → (word ≡ other_word) × (sn ≡ other_sn)
word_parts word other_word sn other_sn is =
    let same : ◌≡◌ {A = Word × Option ℕ} (word, sn) (other_word, other_sn) = cc in
    (ap (λ (p : Word × Option ℕ). p.0) same, ap (λ (p : Word × Option ℕ). p.1) same)

-- what has the same parts is the same
pub same_meaning : (cid : ℕ) (word : Word) (sn : Option ℕ) (m : Reading) → cid ≡ m.cid → word ≡ m.word → sn ≡ m.sn → meaning cid word sn ≡ m
same_meaning cid word sn m same_cid same_word same_sn =
    ap (λ c. meaning c word sn) same_cid
    ∙ ap (λ w. meaning m.cid w sn) same_word
    ∙ ap (λ s. meaning m.cid m.word s) same_sn

-- an element has a type octet, and behind it its data
pub octets_some : (size : CidKind) (m : Reading) (text : List ℕ) → text ≡ octets_of_meaning size m → length text ≡ 0 → ⊥
unfolding octets_of_meaning
octets_some size m text is none =
    let e = ap length (is ∙ element_is (data_octets (identifier_octets size m.cid) m.word m.sn)) in cc

pub octets_behind : (size : CidKind) (m : Reading) (text : List ℕ) (first : ℕ) (rest : List ℕ) → text ≡ octets_of_meaning size m → text ≡ first ∷ rest → rest ≡ data_octets (identifier_octets size m.cid) m.word m.sn
unfolding octets_of_meaning
octets_behind size m text first rest is split =
    let whole = is ∙ element_is (data_octets (identifier_octets size m.cid) m.word m.sn) in cc

-- two elements with the same octets have the same data
pub data_once : (size : CidKind) (a b : Reading) → octets_of_meaning size a ≡ octets_of_meaning size b
    → data_octets (identifier_octets size a.cid) a.word a.sn ≡ data_octets (identifier_octets size b.cid) b.word b.sn
unfolding octets_of_meaning
data_once size a b is =
    let one = element_is (data_octets (identifier_octets size a.cid) a.word a.sn) in
    let other = element_is (data_octets (identifier_octets size b.cid) b.word b.sn) in cc
