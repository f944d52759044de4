use Rattle.std.proofs.Common.{◌≡◌, ℕ, List, Option, Some, None, ap, ◌∙◌, ◌%◌}
use Rattle.rohc_feedback.specs.declared.meaning.Word.{Word}
use Rattle.rohc_feedback.specs.Element.{feedback_check, feedback_octets, identifier_octets}
use Rattle.rohc_feedback.proofs.Spelled.{feedback_is}
use Rattle.rohc_feedback.proofs.Parts.{begins_feedback, split_parts, word_parts, same_meaning}
use Rattle.rohc_feedback.proofs.reader.fields.Goals as goal

pub returns-in_err-cid-clause-every : goal.returns-in_err-cid-clause-every
returns-in_err-cid-clause-every c = λ m good is.
    let crc = feedback_check (identifier_octets c.args.size m.cid) m.word m.sn in
    let split : ◌≡◌ {A = Option (ℕ × List ℕ)} None (Some (m.cid, feedback_octets m.word m.sn crc)) =
    c.in_err-cid.ensures.every m.cid _ good.within (begins_feedback m.word m.sn crc good.number) is in
    absurd cc

pub returns-in_err-word-clause-every : goal.returns-in_err-word-clause-every
returns-in_err-word-clause-every c = λ m good is.
    let crc = feedback_check (identifier_octets c.args.size m.cid) m.word m.sn in
    let split = split_parts _ m.cid _ (feedback_octets m.word m.sn crc) (c.in_ok-cid.ensures.every m.cid _ good.within (begins_feedback m.word m.sn crc good.number) is) in
    let said : ◌≡◌ {A = Option (Word × Option ℕ)} None (Some (m.word, m.sn)) = c.in_err-word.ensures.every m.word m.sn (crc % 256) good.number (split.1 ∙ feedback_is m.word m.sn crc good.number) in
    absurd cc

pub returns-clause-every : goal.returns-clause-every
returns-clause-every c = λ m good is.
    let crc = feedback_check (identifier_octets c.args.size m.cid) m.word m.sn in
    let split = split_parts _ m.cid _ (feedback_octets m.word m.sn crc) (c.in_ok-cid.ensures.every m.cid _ good.within (begins_feedback m.word m.sn crc good.number) is) in
    let said = word_parts _ m.word _ m.sn (c.in_ok-word.ensures.every m.word m.sn (crc % 256) good.number (split.1 ∙ feedback_is m.word m.sn crc good.number)) in
    ap Some (same_meaning _ _ _ m split.0 said.0 said.1)
