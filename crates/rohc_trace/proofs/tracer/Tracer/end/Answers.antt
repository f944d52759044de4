use Rattle.std.proofs.Common.{rules}
use Rattle.rohc_replay.specs.Run.{change}
use Rattle.rohc_trace.proofs.TraceLemmas.{stands_end, stands_whole}
use Rattle.rohc_trace.proofs.tracer.Tracer.end.Goals as goal

pub returns-then-is_empty : goal.returns-then-is_empty
returns-then-is_empty g c = λ first held seen.
    stands_whole (change first held c.args.concentrator.now (g.W.Write.contents c.args.writer.now)) seen c.args.self.now (search rules)

pub returns : goal.returns
returns g c = λ first held seen.
    let ran = c.in_ok-run_kept.ensures.ran in
    stands_end first c.args.concentrator.now c.run_kept.new.concentrator held (g.W.Write.contents c.args.writer.now) ran.between (g.W.Write.contents c.run_kept.new.writer)
    seen c.args.self.now _ c.in_ok-run_kept.ensures.lines ran.shown ran.ran (search rules)
