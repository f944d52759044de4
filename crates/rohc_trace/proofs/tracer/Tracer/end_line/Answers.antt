use Rattle.rohc_trace.proofs.TraceLemmas.{stands_newline}
use Rattle.rohc_trace.proofs.tracer.Tracer.end_line.Goals as goal

pub returns : goal.returns
returns g c = λ first held seen.
    let ran = c.in_ok-run_kept.ensures.ran in
    stands_newline first c.args.concentrator.now c.run_kept.new.concentrator held (g.W.Write.contents c.args.writer.now) ran.between (g.W.Write.contents c.run_kept.new.writer)
    seen c.args.self.now _ c.in_ok-run_kept.ensures.lines ran.shown ran.ran c.clear.ensures.items
