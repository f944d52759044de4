-- Counts, with one answer more. Words: stored_number, outcome_number, word_number; counted;
-- IsElement, IsFed; is_number; OutcomeCounted, FeedbackCounted; IsCounted.
use Rattle.std.specs.Prelude.{◌≡◌, ℕ, ◌+◌, ◌-◌, ◌^◌, ◌<◌, List, length, Bool, false, ◌==◌, if◌then◌else◌, Option, Some, None, min, slice_index}
use Rattle.rohc_frame.specs.declared.header.CidKind.{CidKind}
use Rattle.rohc_feedback.specs.Element.{IsMeaning, octets_of_meaning}
use Rattle.rohc_feedback.specs.declared.meaning.Reading.{Reading}
use Rattle.rohc_feedback.specs.declared.meaning.Word.{Word}
use Rattle.rohc_feedback.specs.declared.meaning.Word.TheVariants.{Ack, Nack, StaticNack, Plain}
use Rattle.rohc_context.specs.Refusal.{number_of}
use Rattle.rohc_context.specs.declared.reply.Outcome.{Outcome}
use Rattle.rohc_context.specs.declared.reply.Outcome.TheVariants.{Delivered, Stored}
use Rattle.rohc_context.specs.declared.reply.Outcome.TheVariants as outcomes
use Rattle.rohc_concentrator.specs.Report.{Report, Arrived, OnlyFront, Refused}
use Rattle.rohc_counts.specs.declared.counts.Counts.{Counts}

-- the number of an outcome: 0 for a packet, 31 if a context was made or renewed without one, else the
-- refusal's, 1 to 30
abbrev pub outcome_number : Outcome → ℕ
outcome_number Delivered = 0
outcome_number Stored = 31
outcome_number (outcomes.Refused refusal) = number_of refusal

-- the number of a feedback's kind
abbrev pub word_number : Word → ℕ
word_number Ack = 0
word_number Nack = 1
word_number StaticNack = 2
word_number Plain = 3

-- a count and so many more; it stays at the greatest `u64`
abbrev pub counted : ℕ → ℕ → ℕ
counted before more = min (before + more) (2 ^ 64 - 1)

-- the octets are an element for this CID, of this kind
abbrev pub IsElement : ℕ → List ℕ → Word → Type 0
IsElement cid octets word = (size : CidKind) × (m : Reading) × IsMeaning size m
    × (m.cid ≡ cid) × (m.word ≡ word) × (octets ≡ octets_of_meaning size m)

-- the kind of the feedback for this CID: none if there is no feedback, or octets that are no element
abbrev pub IsFed : ℕ → Option (List ℕ) → Option Word → Type 0
IsFed cid None word = word ≡ None
IsFed cid (Some octets) (Some word) = IsElement cid octets word
IsFed cid (Some octets) None = (word : Word) → ¬ IsElement cid octets word

-- the number is this one
abbrev pub is_number : Option ℕ → ℕ → Bool
is_number None k = false
is_number (Some number) k = number == k

-- the count one more if this holds
abbrev pub counted_at : Bool → ℕ → ℕ
counted_at at before = if at then counted before 1 else before

-- one more at a number, or none more, among so many counts; all others as before
abbrev pub MoreAt : ℕ → Option ℕ → List ℕ → List ℕ → Type 0
MoreAt size number before after =
    (k : ℕ) → k < size → slice_index after k ≡ counted_at (is_number number k) (slice_index before k)

-- the number of a kind, if there is one
abbrev pub number_of_word : Option Word → Option ℕ
number_of_word None = None
number_of_word (Some word) = Some (word_number word)

-- how many packets of padding and feedback alone an answer is, by its outcome's number
abbrev pub front_count : Option ℕ → ℕ
front_count None = 1
front_count (Some outcome) = 0

-- counts, with an answer of these parts more: the outcome's number, or none for padding and feedback alone;
-- the kind of the feedback for the compressor; and how many elements are for this side's
pub record HasParts (outcome : Option ℕ) (word : Option Word) (relayed : ℕ) (before after : Counts) :
    Type 0 where
  pub outcomes : MoreAt 32 outcome before.outcomes after.outcomes
  pub words : MoreAt 4 (number_of_word word) before.words after.words
  pub fronts_counted : after.fronts ≡ counted before.fronts (front_count outcome)
  pub relayed_counted : after.relayed ≡ counted before.relayed relayed

-- counts, with this answer more
abbrev pub IsCounted : Report → Counts → Counts → Type 0
IsCounted (Arrived cid r relayed) before after = (word : Option Word) × IsFed cid r.feedback word
    × HasParts (Some (outcome_number r.outcome)) word (length relayed) before after
IsCounted (OnlyFront relayed) before after = HasParts None None (length relayed) before after
IsCounted (Refused refusal) before after = HasParts (Some (number_of refusal)) None 0 before after
