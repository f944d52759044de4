use Rattle.rohc_serve.specs.Datagram.{AreSettingsOf}
use Rattle.rohc_serve.specs.Turns.{service, Serves}
use Rattle.rohc_serve.proofs.server.take_turns.Given as goal

-- so many turns were served
abbrev pub invariant-loop : goal.invariant-loop
invariant-loop g l = record {
  settings : AreSettingsOf l.concentrator l.links.settings;
  served : Serves l.links (service l.initial.concentrator l.concentrator (g.F.Front.acts l.initial.front) (g.F.Front.acts l.front)) l.counter l.tally;
}
