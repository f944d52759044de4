use Rattle.std.proofs.Common.{refl, arith}
use Rattle.rohc_replay.specs.Run.{change}
use Rattle.rohc_trace.proofs.TraceLemmas.{stands_kept, stands_full}
use Rattle.rohc_trace.proofs.tracer.Tracer.keep.Goals as goal

pub returns-then-len-gt-LONGEST_LINE : goal.returns-then-len-gt-LONGEST_LINE
returns-then-len-gt-LONGEST_LINE c = λ first held now holding seen.
    stands_full (change first held now holding) seen c.args.octet c.args.self.now c.requires (omega arith)

pub returns-in-Ok : goal.returns-in-Ok
returns-in-Ok c = λ first held now holding seen.
    stands_kept (change first held now holding) seen c.args.octet c.args.self.now _ c.requires (omega arith) refl c.in-Ok.ensures.items
