use Rattle.std.proofs.Common.{◌≡◌, Some, Ok, sym, subst}
use Rattle.std.proofs.lemmas.Result.{on_ok_weaker}
use Rattle.rohc_capture.specs.Choice.{packet_in}
use Rattle.rohc_capture.specs.Standing.{entry_of}
use Rattle.rohc_decompress.specs.Run.{how}
use Rattle.rohc_decompress.proofs.RunLemmas.{one-turn}
use Rattle.rohc_decompress.proofs.run.take_frame.Goals as goal

pub returns-in-Some : goal.returns-in-Some
returns-in-Some g c =
    on_ok_weaker c.take_packet.result
    (one-turn (how c.args.bulk.now) (entry_of c.args.record.now c.args.frame.now) c.in-Some.link c.in-Some.packet.now _ _
    (subst (λ f. packet_in c.args.bulk.now.rules.now f c.args.record.now.link_type c.args.record.now.original c.args.frame.now ≡ Ok (Some (c.in-Some.link, c.in-Some.packet.now)))
    (sym c.requires) c.in-Some.ensures))
    c.take_packet.ensures
