use Rattle.rohc_frame.specs.Reading.{header_of}
use Rattle.rohc_chain.specs.Packets.{kept_values}
use Rattle.rohc_chain.proofs.GoodLemmas.{dyn_good_said}
use Rattle.rohc_chain.proofs.TextLemmas.{dyn_said, dyn_short, dyn_only, dyn_refused}
use Rattle.rohc_chain.proofs.ir_dyn.read_ir_dyn.Goals as goal

pub returns-clause-text : goal.returns-clause-text
returns-clause-text c = dyn_said (header_of c.args.forward.now) c.args.profile (kept_values c.args.extension c.args.stride) c.in_order.result c.in_order.ensures.reads c.requires.kind c.requires.profile c.in_order.ensures.octets

pub returns-clause-short : goal.returns-clause-short
returns-clause-short c = dyn_short (header_of c.args.forward.now) c.args.profile (kept_values c.args.extension c.args.stride) c.in_order.result c.in_order.ensures.reads c.requires.kind c.requires.profile c.in_order.ensures.octets

pub returns-clause-only : goal.returns-clause-only
returns-clause-only c = dyn_only (header_of c.args.forward.now) c.args.profile (kept_values c.args.extension c.args.stride) c.in_order.result c.in_order.ensures.reads

pub returns-clause-fault : goal.returns-clause-fault
returns-clause-fault c = dyn_refused (header_of c.args.forward.now) c.args.profile (kept_values c.args.extension c.args.stride) c.in_order.result c.in_order.ensures.reads

pub returns-clause-good : goal.returns-clause-good
returns-clause-good c =
    let h = header_of c.args.forward.now in
    let kept = kept_values c.args.extension c.args.stride in
    dyn_good_said h c.args.profile kept c.in_order.result c.in_order.ensures.octets (dyn_said h c.args.profile kept c.in_order.result c.in_order.ensures.reads c.requires.kind c.requires.profile c.in_order.ensures.octets)
