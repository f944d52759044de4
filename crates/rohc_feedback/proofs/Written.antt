-- The texts with a meaning are those that the four calls write.
use Rattle.std.proofs.Common.{◌≡◌, ℕ, ◌%◌, ◌<◌, ◌≤◌, inl, inr, List, Option, Some, None, ap, ◌∙◌, refl, arith}
use Rattle.rohc_frame.specs.declared.header.CidKind.{CidKind}
use Rattle.rohc_frame.specs.Header.{greatest_cid}
use Rattle.rohc_feedback.specs.declared.meaning.Word.{Word}
use Rattle.rohc_feedback.specs.declared.meaning.Word.TheVariants.{Ack, Nack, StaticNack, Plain}
use Rattle.rohc_feedback.specs.declared.meaning.Reading.{Reading}
use Rattle.rohc_feedback.specs.Element.{GoesWith, IsMeaning, meaning, nack_octets, octets_of_meaning}
use Rattle.rohc_feedback.specs.Laws.{IsWrittenFor, MeaningsAreWritten}

abbrev HasMeaning : CidKind → List ℕ → Type 0
HasMeaning size text = (m : Reading) × IsMeaning size m × (text ≡ octets_of_meaning size m)

-- a text with these parts is written
parts_written : (size : CidKind) (cid : ℕ) (word : Word) (sn : Option ℕ) (text : List ℕ) → GoesWith word sn → text ≡ octets_of_meaning size (meaning cid word sn) → IsWrittenFor size cid text
parts_written size cid Ack (Some sn) text low is =
    let same : sn ≡ sn % 4096 = omega arith in
    inl (sn, is ∙ ap (λ n. octets_of_meaning size (meaning cid Ack (Some n))) same)
parts_written size cid Ack None text low is = absurd low
parts_written size cid Nack (Some sn) text low is =
    let same : sn ≡ sn % 4096 = omega arith in
    inr (inl (Some sn, is ∙ ap (λ n. octets_of_meaning size (meaning cid Nack (Some n))) same))
parts_written size cid Nack None text low is = inr (inl (None, is))
parts_written size cid StaticNack sn text none is = inr (inr (inl (is ∙ ap (λ n. octets_of_meaning size (meaning cid StaticNack n)) none)))
parts_written size cid Plain sn text none is = inr (inr (inr (is ∙ ap (λ n. octets_of_meaning size (meaning cid Plain n)) none)))

low_number : (sn : ℕ) → sn % 4096 < 4096
low_number sn = omega arith

nack_meaning : (size : CidKind) (cid : ℕ) (sn : Option ℕ) (text : List ℕ) → cid ≤ greatest_cid size → text ≡ nack_octets size cid sn → HasMeaning size text
nack_meaning size cid None text fits is = (meaning cid Nack None, record { within = fits; number = tt }, is)
nack_meaning size cid (Some sn) text fits is = (meaning cid Nack (Some (sn % 4096)), record { within = fits; number = low_number sn }, is)

-- and what is written has a meaning
written_meaning : (size : CidKind) (cid : ℕ) (text : List ℕ) → cid ≤ greatest_cid size → IsWrittenFor size cid text → HasMeaning size text
written_meaning size cid text fits (inl ack) =
    (meaning cid Ack (Some (ack.0 % 4096)), record { within = fits; number = low_number ack.0 }, ack.1)
written_meaning size cid text fits (inr (inl nack)) = nack_meaning size cid nack.0 text fits nack.1
written_meaning size cid text fits (inr (inr (inl static_nack))) =
    (meaning cid StaticNack None, record { within = fits; number = refl }, static_nack)
written_meaning size cid text fits (inr (inr (inr plain_ack))) =
    (meaning cid Plain None, record { within = fits; number = refl }, plain_ack)

pub meanings_written : MeaningsAreWritten
meanings_written size text = (
  λ has. (has.0.cid, has.1.within, parts_written size has.0.cid has.0.word has.0.sn text has.1.number has.2),
  λ written. written_meaning size written.0 text written.1 written.2,
)
