use Rattle.std.proofs.Common.{ap, drop}
use Rattle.rohc_capture.specs.Window.{ahead_of}
use Rattle.rohc_capture.proofs.ReaderLemmas.{known-ahead}
use Rattle.rohc_capture.proofs.reader.Capture.next_ahead_in_blocks.Goals as goal

pub returns-clause-some : goal.returns-clause-some
returns-clause-some g c =
    known-ahead (drop c.args.self.now.span.all (ahead_of c.args.self.now.window)) (drop c.in_ok-record.span.all (ahead_of c.pass.new.self)) _ _ (ap g.R.Read.remaining c.pass.ensures.reader)
