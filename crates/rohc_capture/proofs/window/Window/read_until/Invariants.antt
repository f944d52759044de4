use Rattle.std.proofs.Common.{◌≡◌}
use Rattle.std.specs.Io.KnownBytes.{Keeps}
use Rattle.rohc_capture.specs.Window.{text_in}
use Rattle.rohc_capture.proofs.window.Window.read_until.Given as goal

-- what was read stands behind what was ahead
abbrev pub invariant-loop : goal.invariant-loop
invariant-loop g l = record {
  text : Keeps (text_in g.R.Read.remaining l.fn.self) (text_in g.R.Read.remaining l.self);
  place : l.self.place ≡ l.fn.self.place;
}
