use Rattle.std.proofs.Common.{Some, None, ap, ◌∙◌, ◌∷◌, [], ◌++◌, append_assoc, ◌≡◌}
use Rattle.rohc_feedback.specs.Fields.{spelled}
use Rattle.rohc_feedback.specs.Element.{acknowledgement, feedback_2, crc_option}
use Rattle.rohc_feedback.proofs.Spelled.{options_behind, sn_not_valid_behind}
use Rattle.rohc_feedback.proofs.Checked.{in_one}
use Rattle.rohc_feedback.proofs.element.push_acknowledgement.Goals as goal
use Rattle.rohc_feedback.proofs.element.push_acknowledgement.Goals.{in-Some, in-None}

pub returns-clause-items : goal.returns-clause-items
returns-clause-items c = elim c.match-sn.branch [
  | in-Some w ↦
      let middle : c.match-sn.octets.items ≡ c.args.octets.now.items ++ spelled (feedback_2 c.args.acktype w.in-Some.sn []) = ap (λ o. o.items) w.octets-is ∙ w.push_fields.ensures.items in
      rw w.in-Some.is (in_one c.args.octets.now.items c.match-sn.octets.items c.push_check.new.octets.items _ (acknowledgement c.args.acktype (Some w.in-Some.sn)) middle
      (λ crc. options_behind c.args.acktype w.in-Some.sn (crc_option crc)) c.push_check.ensures.items)
  | in-None w ↦
      let middle : c.match-sn.octets.items ≡ c.args.octets.now.items ++ (spelled (feedback_2 c.args.acktype 0 []) ++ 48 ∷ []) =
      ap (λ o. o.items) w.octets-is ∙ w.push.ensures.items ∙ ap (λ xs. xs ++ 48 ∷ []) w.push_fields-in-None.ensures.items
      ∙ append_assoc c.args.octets.now.items (spelled (feedback_2 c.args.acktype 0 [])) (48 ∷ []) in
      rw w.in-None.is (in_one c.args.octets.now.items c.match-sn.octets.items c.push_check.new.octets.items _ (acknowledgement c.args.acktype None) middle
      (λ crc. sn_not_valid_behind c.args.acktype (crc_option crc)) c.push_check.ensures.items)
]
