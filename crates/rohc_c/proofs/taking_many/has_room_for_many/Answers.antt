use Rattle.std.proofs.Common.{rules, arith}
use Rattle.rohc_c.proofs.ManyLemmas.{needed_by_all}
use Rattle.rohc_c.proofs.taking_many.has_room_for_many.Goals as goal

pub returns-then-room-apart : goal.returns-then-room-apart
returns-then-room-apart c = (
  (λ yes. search rules),
  (λ has. absurd (omega (arith, has.fits, needed_by_all c.args.packets.now, c.if-room-apart.true))),
)

pub returns : goal.returns
returns c =
    let all = needed_by_all c.args.packets.now in
    let within = c.are_within.ensures in (
      (λ yes. record {
        few = search rules;
        structs = search rules;
        within = within.within yes;
        fits = omega (arith, within.count yes, all, c.if-room-apart.false);
      }),
      (λ has. within.only has.within (omega (arith, has.fits, all))),
    )
