use Rattle.std.proofs.lemmas.Result.{on_ok_weaker}
use Rattle.std.proofs.Common.{refl}
use Rattle.std.specs.Io.KnownBytes.{append_known}
use Rattle.std.proofs.KnownBytes.{Appends-nil}
use Rattle.rohc_decompress.specs.Written.{work}
use Rattle.rohc_decompress.proofs.RunLemmas.{takes_after}
use Rattle.rohc_decompress.proofs.run.take_packet.Goals as goal

pub returns-in-None : goal.returns-in-None
returns-in-None g c =
    on_ok_weaker c.take_later.result
    (takes_after c.args.bulk.now.format c.args.bulk.now.padded c.args.link c.args.nanos c.args.packet.now
    (work c.args.concentrator.now (append_known (g.W.Write.contents c.args.packets.now) c.args.batch.now) (g.V.Write.contents c.args.feedback.now)) c.take_first.new.self _
    c.in-None.ensures.stays)
    c.take_later.ensures

pub returns-in-Some : goal.returns-in-Some
returns-in-Some g c =
    on_ok_weaker c.put_at_once.result (λ put. record {
      report = _;
      arrives = c.in-Some.ensures.event;
      packets = put;
      feedback = Appends-nil (g.V.Write.contents c.args.feedback.now);
    })
    c.put_at_once.ensures
