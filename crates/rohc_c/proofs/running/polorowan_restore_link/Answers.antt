use Rattle.std.proofs.Common.{refl, sym}
use Rattle.rohc_c.proofs.running.polorowan_restore_link.Goals as goal

pub returns-in-Ok-clause-back : goal.returns-in-Ok-clause-back
returns-in-Ok-clause-back c = λ _. (
  record {
    before = c.lend.result.now;
    after = c.restore_link.new.concentrator;
    was = sym c.lend.ensures.value;
    is = refl;
    holds = record { tally = c.in-Ok.told; restores = c.in-Ok.ensures.restores; shown = c.tell.ensures };
  },
  refl,
)

pub returns-in-Err-clause-fault : goal.returns-in-Err-clause-fault
returns-in-Err-clause-fault c = λ _ _. record {
  before = c.lend.result.now;
  after = c.restore_link.new.concentrator;
  was = sym c.lend.ensures.value;
  is = refl;
  holds = record { fault = c.in-Err.fault; first = c.in-Err.ensures.fault; number = c.link_back_number.ensures.number; at = c.link_back_place.ensures; stays = c.in-Err.ensures.stays };
}
