use Rattle.std.proofs.Common.{refl, ap, sym, ◌∙◌}
use Rattle.rohc_context.specs.Record.{record_of}
use Rattle.rohc_c.specs.Standing.{profile_number, state_number}
use Rattle.rohc_c.proofs.standing.context_at.Goals as goal

pub returns-clause-shown : goal.returns-clause-shown
returns-clause-shown c = record {
  concentrator = c.args.concentrator.now;
  its_record = record_of c.in_ok-cid.context.now;
  there = refl;
  identifier = sym c.in_ok-cid.ensures.identifier;
  stands = c.in_ok-cid.ensures.record;
  profile = c.profile_number.ensures ∙ ap profile_number c.profile.ensures;
  state = c.state_number.ensures ∙ ap state_number c.state.ensures;
  accepted = c.accepted.ensures;
}
