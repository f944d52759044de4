use Rattle.std.proofs.Common.{length, drop, arith, ap}
use Rattle.std.proofs.lemmas.List.{length-take}
use Rattle.rohc_piecewise.proofs.saver.Saver.piece.Goals as goal

pub returns-in-Waiting-clause-few : goal.returns-in-Waiting-clause-few
returns-in-Waiting-clause-few c = omega (arith, ap length c.piece_from.ensures, length-take 65536 (drop c.args.self.now.sent c.as_slice.result.now))
