use Rattle.std.proofs.Common.{length, ◌≡◌, [], ◌∷◌, refl, ap, rules, arith}
use Rattle.rohc_header.specs.Original.{flag, addresses}
use Rattle.rohc_header.proofs.HeaderSum.{two, both, staying}
use Rattle.rohc_header.proofs.prepared.Prepared.of.Goals as goal

pub returns : goal.returns
returns c =
    let fixed = c.args.fixed.now in
    let moving = c.args.moving.now in
    let four : length fixed.source ≡ 4 = search rules in
    record {
      middle = ap (λ df. df ∷ 0 ∷ moving.ttl ∷ 17 ∷ []) c.flag.ensures;
      rtp = omega (arith, c.flag-2.ensures, c.flag-3.ensures);
      rest =
          omega (
            arith,
            staying moving.tos (flag moving.df 64) moving.ttl (addresses fixed),
            two (c.flag.result ∷ 0 ∷ moving.ttl ∷ 17 ∷ []) refl,
            both fixed.source fixed.destination four,
            c.flag.ensures,
            c.from.ensures,
            c.two_exchanged.ensures.rest,
            c.two_exchanged-2.ensures.rest,
            c.two_exchanged-3.ensures.rest,
            c.with_carries.ensures.rest,
          );
    }
