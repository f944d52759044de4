-- The octets that spell fields, by arithmetic on their numbers.
use Rattle.std.proofs.Common.{◌≡◌, ℕ, ◌+◌, ◌*◌, ◌/◌, ◌%◌, ◌^◌, ◌<◌, ◌≤◌, List, [], ◌∷◌, ◌++◌, length, Option, Some, None, refl, ap, ◌∙◌, append_assoc, arith}
use Rattle.std.proofs.lemmas.List.{length-append}
use Rattle.rohc_bits.specs.Bits.{bits, number}
use Rattle.rohc_bits.proofs.BitLists.{length-bits, number-bits, number-append, bits-split}
use Rattle.rohc_feedback.specs.Fields.{Fields, spelled, octets_in, bits_in}
use Rattle.rohc_feedback.specs.declared.meaning.Word.{Word}
use Rattle.rohc_feedback.specs.declared.meaning.Word.TheVariants.{Ack, Nack, StaticNack, Plain}
use Rattle.rohc_feedback.specs.Split.{feedback_numbers}
use Rattle.rohc_feedback.specs.Element.{type_octet, add_cid, feedback_2, crc_option, sn_not_valid, acknowledgement, element_octets, feedback_octets, GoesWith}

-- the number of two fields
two : (j m k n : ℕ) → number (bits j m ++ bits k n) ≡ m % 2 ^ j * 2 ^ k + n % 2 ^ k
two j m k n = number-append (bits j m) (bits k n) ∙ rw (number-bits j m, number-bits k n, length-bits k n) refl

pub type_octet_is : (size : ℕ) → spelled (type_octet size) ≡ (240 + size % 8) ∷ []
unfolding spelled bits
type_octet_is size = ap (λ n. n ∷ []) (two 5 30 3 size ∙ omega arith)

-- a code of three bits
pub type_octet_of : (size : ℕ) → size ≤ 7 → spelled (type_octet size) ≡ (240 + size) ∷ []
type_octet_of size three_bits = type_octet_is size ∙ ap (λ n. (240 + n) ∷ []) (omega arith)

pub add_cid_is : (cid : ℕ) → spelled (add_cid cid) ≡ (224 + cid % 16) ∷ []
unfolding spelled bits
add_cid_is cid = ap (λ n. n ∷ []) (two 4 14 4 cid ∙ omega arith)

-- an identifier of four bits
pub add_cid_of : (cid : ℕ) → cid ≤ 15 → spelled (add_cid cid) ≡ (224 + cid) ∷ []
add_cid_of cid four_bits = add_cid_is cid ∙ ap (λ n. (224 + n) ∷ []) (omega arith)

pub crc_option_is : (crc : ℕ) → spelled (crc_option crc) ≡ 17 ∷ (crc % 256) ∷ []
unfolding spelled bits number
crc_option_is crc = ap (λ n. 17 ∷ n ∷ []) (number-bits 8 crc)

pub sn_not_valid_is : (options : Fields) → spelled (sn_not_valid options) ≡ 48 ∷ spelled options
unfolding spelled bits number
sn_not_valid_is options = refl

-- two bits of Acktype, two of Mode, and the four high ones of SN
first_octet : (acktype mode high : ℕ) → number (bits 2 acktype ++ (bits 2 mode ++ bits 4 high)) ≡ acktype % 4 * 64 + (mode % 4 * 16 + high % 16)
first_octet acktype mode high =
    number-append (bits 2 acktype) (bits 2 mode ++ bits 4 high)
    ∙ rw (number-bits 2 acktype, two 2 mode 4 high, length-append (bits 2 mode) (bits 4 high), length-bits 2 mode, length-bits 4 high) refl

pub feedback_2_is : (acktype sn : ℕ) (options : Fields) → acktype < 4 → sn < 4096 →
    spelled (feedback_2 acktype sn options) ≡ (acktype * 64 + 2 * 16 + sn / 256) ∷ (sn % 256) ∷ spelled options
unfolding spelled bits
feedback_2_is acktype sn options two_bits twelve_bits =
    let high : number (bits 2 acktype ++ (bits 2 2 ++ bits 4 (sn / 256))) ≡ acktype * 64 + 2 * 16 + sn / 256 = first_octet acktype 2 (sn / 256) ∙ omega arith in
    ap (λ bs. octets_in (bits 2 acktype ++ (bits 2 2 ++ (bs ++ bits_in options)))) (bits-split 4 8 sn)
    ∙ ap (λ n. n ∷ number (bits 8 sn) ∷ octets_in (bits_in options)) high
    ∙ ap (λ n. (acktype * 64 + 2 * 16 + sn / 256) ∷ n ∷ octets_in (bits_in options)) (number-bits 8 sn)

pub feedback_2_alone : (acktype sn : ℕ) → acktype < 4 → sn < 4096 → spelled (feedback_2 acktype sn []) ≡ (acktype * 64 + 2 * 16 + sn / 256) ∷ (sn % 256) ∷ []
unfolding spelled
feedback_2_alone acktype sn two_bits twelve_bits = feedback_2_is acktype sn [] two_bits twelve_bits

-- options stand behind the number
pub options_behind : (acktype sn : ℕ) (options : Fields) → spelled (feedback_2 acktype sn options) ≡ spelled (feedback_2 acktype sn []) ++ spelled options
unfolding spelled bits
options_behind acktype sn options = refl

-- feedback with a number, and without one
with_number : (acktype sn crc : ℕ) → acktype < 4 → sn < 4096 →
    acknowledgement acktype (Some sn) crc ≡ (acktype * 64 + 2 * 16 + sn / 256) ∷ (sn % 256) ∷ 17 ∷ (crc % 256) ∷ []
with_number acktype sn crc two_bits twelve_bits =
    feedback_2_is acktype sn (crc_option crc) two_bits twelve_bits
    ∙ ap (λ xs. (acktype * 64 + 2 * 16 + sn / 256) ∷ (sn % 256) ∷ xs) (crc_option_is crc)

without_number : (acktype crc : ℕ) → acktype < 4 → acknowledgement acktype None crc ≡ (acktype * 64 + 2 * 16) ∷ 0 ∷ 48 ∷ 17 ∷ (crc % 256) ∷ []
without_number acktype crc two_bits =
    feedback_2_is acktype 0 (sn_not_valid (crc_option crc)) two_bits (omega arith)
    ∙ ap (λ n. n ∷ 0 ∷ spelled (sn_not_valid (crc_option crc))) (omega arith)
    ∙ ap (λ xs. (acktype * 64 + 2 * 16) ∷ 0 ∷ xs) (sn_not_valid_is (crc_option crc) ∙ ap (λ xs. 48 ∷ xs) (crc_option_is crc))

-- feedback by arithmetic on its octets
pub feedback_is : (word : Word) (sn : Option ℕ) (crc : ℕ) → GoesWith word sn → feedback_octets word sn crc ≡ feedback_numbers word sn (crc % 256)
feedback_is Ack (Some sn) crc low = with_number 0 sn crc (omega arith) low
feedback_is Ack None crc low = absurd low
feedback_is Nack (Some sn) crc low = with_number 1 sn crc (omega arith) low
feedback_is Nack None crc low = without_number 1 crc (omega arith)
feedback_is StaticNack (Some sn) crc none = absurd cc
feedback_is StaticNack None crc none = without_number 2 crc (omega arith)
feedback_is Plain sn crc none = refl

-- an element is its type octet, and its data
pub element_is : (octets : List ℕ) → element_octets octets ≡ (240 + length octets % 8) ∷ octets
element_is octets = ap (λ xs. xs ++ octets) (type_octet_is (length octets))

pub sn_not_valid_behind : (acktype : ℕ) (options : Fields) → spelled (feedback_2 acktype 0 (sn_not_valid options)) ≡ (spelled (feedback_2 acktype 0 []) ++ 48 ∷ []) ++ spelled options
unfolding spelled bits number
sn_not_valid_behind acktype options = refl

-- two octets behind others
pub two_pushed : (old middle new : List ℕ) (x y a b : ℕ) → middle ≡ old ++ x ∷ [] → new ≡ middle ++ y ∷ [] → x ≡ a → y ≡ b → new ≡ old ++ a ∷ b ∷ []
two_pushed old middle new x y a b first second is_a is_b =
    second ∙ ap (λ xs. xs ++ y ∷ []) first ∙ append_assoc old (x ∷ []) (y ∷ []) ∙ ap (λ n. old ++ n ∷ y ∷ []) is_a ∙ ap (λ n. old ++ a ∷ n ∷ []) is_b
