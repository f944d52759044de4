use Rattle.std.proofs.Common.{sym}
use Rattle.rohc_frame.specs.Reading.{header_of}
use Rattle.rohc_context.specs.Record.{record_of}
use Rattle.rohc_context.specs.Response.{response_of}
use Rattle.rohc_context.proofs.Taken.{settles_static, settles_full}
use Rattle.rohc_context.proofs.record.Context.refresh.Goals as goal

pub returns-in-Static : goal.returns-in-Static
unfolding record_of
returns-in-Static c =
    let r = c.refresh-refreshed in
    settles_static c.args.self.now.state c.in-Static.context c.in-Static.is c.args.self.now.accepted c.args.moment c.args.settings.now (header_of c.args.forward.now) c.args.forward.now.first
    r.result (response_of c.settle.new.reply) (record_of c.settle.new.self)
    (rw (sym c.empty.ensures.none) r.ensures.taken) r.ensures.fault c.settle.ensures.reply c.settle.ensures.record c.settle.ensures.refused

pub returns-in-Full : goal.returns-in-Full
unfolding record_of
returns-in-Full c =
    let r = c.refresh-refreshed-in-Full in
    settles_full c.args.self.now.state c.in-Full.context c.in-Full.is c.args.self.now.accepted c.args.moment c.args.settings.now (header_of c.args.forward.now) c.args.forward.now.first
    r.result (response_of c.settle-in-Full.new.reply) (record_of c.settle-in-Full.new.self)
    (rw (sym c.and.ensures) r.ensures.taken) r.ensures.fault c.settle-in-Full.ensures.reply c.settle-in-Full.ensures.record c.settle-in-Full.ensures.refused
