use Rattle.std.proofs.Common.{Some, refl}
use Rattle.rohc_concentrator.specs.Calls.{plain_answer}
use Rattle.rohc_saved.specs.Form.{contexts_in}
use Rattle.rohc_saved.specs.Restoring.{up_to}
use Rattle.rohc_saved.proofs.PutLemmas.{stops_reset}
use Rattle.rohc_saved.proofs.link_restoring.fill.Goals as goal

pub returns-in-Err-clause-stops : goal.returns-in-Err-clause-stops
returns-in-Err-clause-stops c = (
  refl,
  c.in-Err.field-0,
  c.reset.result,
  stops_reset c.args.number (up_to (Some c.args.greatest) (contexts_in c.args.contexts.now)) c.in-Err.field-0 (plain_answer c.reset.result) c.args.concentrator.now c.put_contexts.new.concentrator c.reset.new.self c.in-Err.ensures.stops
      c.reset.ensures.event,
)
