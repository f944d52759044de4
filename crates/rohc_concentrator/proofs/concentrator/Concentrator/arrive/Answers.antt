use Rattle.std.proofs.Common.{sym, subst}
use Rattle.rohc_concentrator.specs.Events.{Arrives}
use Rattle.rohc_concentrator.proofs.concentrator.Concentrator.arrive.Goals as goal

pub returns : goal.returns
returns c = record {
  event =
      subst (λ report. Arrives c.args.self.now c.args.link c.args.moment c.args.octets.now report c.arrive_into.new.self)
      (sym c.arrive_into.ensures.event.4) c.arrive_into.ensures.event.2;
}
