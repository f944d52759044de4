use Rattle.std.proofs.Common.{◌+◌, arith, ap, sym, ◌∙◌}
use Rattle.std.specs.List.{slice_range}
use Rattle.rohc_capture.proofs.WindowLemmas.{range-drop, range-drop-all}
use Rattle.rohc_capture.proofs.window.Window.pass.Goals as goal
use Rattle.rohc_capture.proofs.window.Window.pass.Goals.{then-count-ahead, else-count-ahead}

pub returns-clause-ahead : goal.returns-clause-ahead
returns-clause-ahead g c =
    let w = c.args.self.now in
    elim c.if-count-ahead.branch [
      | then-count-ahead t ↦
          ap (λ n. slice_range w.octets.items (w.start + n) w.end) t.passed-is ∙ sym (range-drop w.octets.items w.start w.end c.args.count (omega arith))
      | else-count-ahead t ↦
          ap (λ n. slice_range w.octets.items (w.start + n) w.end) t.passed-is ∙ range-drop-all w.octets.items w.start w.end c.args.count (omega arith) (omega arith) (omega arith)
    ]
