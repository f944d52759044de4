use Rattle.std.proofs.Common.{◌≡◌, true, arith}
use Rattle.std.specs.Prelude.{nat_le}
use Rattle.std.proofs.lemmas.Bool.Decides.{nat_tests}
use Rattle.rohc_context.specs.Record.{record_of}
use Rattle.rohc_saved.proofs.PutLemmas.{one_put}
use Rattle.rohc_saved.proofs.restoring.put_context.Goals as goal

pub returns : goal.returns
returns c =
    let within : nat_le c.args.cid c.args.greatest ≡ true = let low = c.if-cid-greatest.false in grind (arith, nat_tests) in
    let both = one_put c.args.number c.args.greatest (c.args.cid, record_of c.args.context) c.args.concentrator.now c.put.new.self within c.put.result c.put.ensures.event in
    record { puts = both.0; stops = both.1 }
