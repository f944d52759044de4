-- Feedback in the forms in which the code splits and writes it.
use Rattle.std.specs.Prelude.{ℕ, ◌+◌, ◌*◌, ◌/◌, ◌%◌, ◌<◌, List, [], ◌∷◌, Option, Some, None}
use Rattle.std.specs.Borrow.{Bor}
use Rattle.rohc_feedback.specs.declared.meaning.Word.{Word}
use Rattle.rohc_feedback.specs.declared.meaning.Word.TheVariants.{Ack, Nack, StaticNack, Plain}

-- feedback starts with an octet below E0, so it isn't taken for an Add-CID octet (RFC 5795 5.2.1.2)
abbrev pub BeginsFeedback : List ℕ → Type 0
BeginsFeedback [] = ⊥
BeginsFeedback (first ∷ rest) = first < 0xe0

-- a CID and the feedback after it, as the code returns them
abbrev pub split_in : Option (ℕ × Bor (List ℕ)) → Option (ℕ × List ℕ)
split_in None = None
split_in (Some (cid, feedback)) = Some (cid, feedback.now)

-- FEEDBACK-2 with a number and without one, with its octets given as numbers
abbrev pub acknowledgement_numbers : ℕ → Option ℕ → ℕ → List ℕ
acknowledgement_numbers acktype (Some sn) crc =
    (acktype * 64 + 2 * 16 + sn / 256) ∷ (sn % 256) ∷ 0x11 ∷ crc ∷ []
acknowledgement_numbers acktype None crc = (acktype * 64 + 2 * 16) ∷ 0 ∷ 0x30 ∷ 0x11 ∷ crc ∷ []

-- the feedback for a word, in the same way
abbrev pub feedback_numbers : Word → Option ℕ → ℕ → List ℕ
feedback_numbers Ack sn crc = acknowledgement_numbers 0 sn crc
feedback_numbers Nack sn crc = acknowledgement_numbers 1 sn crc
feedback_numbers StaticNack sn crc = acknowledgement_numbers 2 sn crc
feedback_numbers Plain sn crc = 0x00 ∷ []
