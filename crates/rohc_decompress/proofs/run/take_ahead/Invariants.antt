use Rattle.std.proofs.Common.{List}
use Rattle.std.specs.Option.{option_map}
use Rattle.std.specs.Io.KnownBytes.{append_known}
use Rattle.rohc_capture.specs.Records.{Entry, standing}
use Rattle.rohc_capture.specs.Standing.{rest_of, place_of}
use Rattle.rohc_decompress.specs.Written.{work}
use Rattle.rohc_decompress.specs.Run.{how, Runs, IsLed}
use Rattle.rohc_decompress.proofs.run.take_ahead.Given as goal

-- records were read, and their arrivals answered and written
abbrev pub invariant-loop : goal.invariant-loop
invariant-loop g l =
    (es : List Entry)
    × IsLed (option_map (standing l.fn.capture.kind (place_of l.fn.capture)) (rest_of g.R.Read.remaining l.fn.capture)) es
    l.capture.kind (place_of l.capture) (rest_of g.R.Read.remaining l.capture)
    × Runs (how l.fn.bulk) es (work l.fn.concentrator (append_known (g.W.Write.contents l.fn.packets) l.fn.batch) (g.V.Write.contents l.fn.feedback))
    (work l.concentrator (append_known (g.W.Write.contents l.packets) l.batch) (g.V.Write.contents l.feedback))
