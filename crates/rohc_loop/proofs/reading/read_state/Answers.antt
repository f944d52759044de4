use Rattle.std.proofs.Common.{subst}
use Rattle.std.specs.Prelude.{Err}
use Rattle.rohc_text.specs.declared.reason.Reason.{Reason}
use Rattle.rohc_world.specs.Acts.{Asks}
use Rattle.rohc_loop.specs.Reading.{Reads}
use Rattle.rohc_loop.proofs.reading.read_state.Goals as goal

pub returns-in-Err-Missing : goal.returns-in-Err-Missing
returns-in-Err-Missing g c = subst
    (λ (r : Reason). Asks (g.W.Traced.acts c.args.world.now) (g.W.Traced.acts c.read_file.new.world) (Reads c.args.path.now 1073741824 (Err r)))
    c.in-Err-Missing.field-0-is c.in-Err-Missing.ensures
