use Rattle.std.proofs.Common.{rules}
use Rattle.std.proofs.Common.{option_map}
use Rattle.rohc_frame.specs.Reading.{header_of}
use Rattle.rohc_context.specs.Record.{record_of, state_of}
use Rattle.rohc_context.proofs.Taken.{renews, renews_refused}
use Rattle.rohc_context.proofs.record.Context.renew.Goals as goal

pub returns-in-Ok : goal.returns-in-Ok
unfolding record_of
returns-in-Ok c =
    let taken = c.in-Ok.ensures.taken in
    renews c.args.settings.now c.args.moment (header_of c.args.forward.now) c.args.counts (record_of c.args.self.now) (option_map state_of c.counting.result) taken.0 _ _
    c.counting.ensures taken.1 (taken.2 c.args.moment)

pub returns-then-counts : goal.returns-then-counts
unfolding record_of
returns-then-counts c = search rules

pub returns-else-counts : goal.returns-else-counts
unfolding record_of
returns-else-counts c =
    let f = c.in-Err.ensures.fault in
    renews_refused c.args.settings.now c.args.moment (header_of c.args.forward.now) c.args.counts (record_of c.args.self.now) f.0 c.in-Err.fault _ _ c.if-counts.false f.1 f.2
    (search rules) (search rules)
