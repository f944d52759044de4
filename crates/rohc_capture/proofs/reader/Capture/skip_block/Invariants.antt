use Rattle.rohc_capture.specs.Window.{StaysKnown}
use Rattle.rohc_capture.proofs.reader.Capture.skip_block.Given as goal

-- what is known of the reader's octets stays known
abbrev pub invariant-loop : goal.invariant-loop
invariant-loop g l = StaysKnown (g.R.Read.remaining l.fn.self.window.reader) (g.R.Read.remaining l.self.window.reader)
