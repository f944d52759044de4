use Rattle.std.proofs.Common.{sym}
use Rattle.std.proofs.lemmas.Result.{on_ok_weaker}
use Rattle.rohc_capture.specs.Standing.{entry_of}
use Rattle.rohc_decompress.specs.Run.{how}
use Rattle.rohc_decompress.proofs.RunLemmas.{one-turn}
use Rattle.rohc_decompress.proofs.run.take_any_frame.Goals as goal

pub returns-in-Ok-Some : goal.returns-in-Ok-Some
returns-in-Ok-Some g c =
    on_ok_weaker c.take_packet.result
    (one-turn (how c.args.bulk.now) (entry_of c.args.record c.args.frame.now) c.in-Ok-Some.link c.in-Ok-Some.packet.now _ _
    (sym (rw c.in-Ok-Some.field-0-is at c.in-Ok-Some.ensures)))
    c.take_packet.ensures
