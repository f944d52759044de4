use Rattle.std.proofs.Common.{rules}
use Rattle.rohc_c.proofs.caller.CallerSink.rebuilt.Goals as goal

pub returns : goal.returns
returns c =
    let written = c.tell_alone-self.ensures c.args.packet.head.items c.args.packet.payload.now _ c.args.self.now.feedback.now c.args.self.now.relayed.now c.put_long.ensures in
    search rules
