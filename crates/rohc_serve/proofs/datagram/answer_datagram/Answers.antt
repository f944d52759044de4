use Rattle.std.proofs.Common.{rules, sym, ◌∙◌}
use Rattle.rohc_concentrator.specs.Report.{report_of}
use Rattle.rohc_concentrator.proofs.ArrivedLemmas.{arrival_settings}
use Rattle.rohc_serve.proofs.AbsentLemmas.{answers_absent}
use Rattle.rohc_serve.proofs.datagram.answer_datagram.Goals as goal

pub returns-in_default-ports_of-clause-answer : goal.returns-in_default-ports_of-clause-answer
returns-in_default-ports_of-clause-answer c =
    answers_absent _ _ _ c.in-Some.link _ _ c.requires c.in-Some.ensures.named.0 c.in_default-ports_of.ensures.absent
    (sym c.in_default-ports_of.ensures.ports) c.refused-in_default-ports_of.ensures

pub returns-clause-answer : goal.returns-clause-answer
returns-clause-answer c =
    let named = c.in-Some.ensures.named in
    rw (named.0, named.1) (
      report_of c.arrive.result,
      c.arrive.ensures.event,
      search rules,
    )

pub returns-clause-settings : goal.returns-clause-settings
returns-clause-settings c =
    let keeps = arrival_settings _ _ _ _ _ _ c.arrive.ensures.event in
    record { in_order = keeps.in_order ∙ c.requires.in_order; each = λ l. keeps.each l ∙ c.requires.each l }
