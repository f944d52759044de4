use Rattle.rohc_frame.specs.Reading.{header_of}
use Rattle.rohc_chain.proofs.GoodLemmas.{ir_good_said}
use Rattle.rohc_chain.proofs.TextLemmas.{ir_said, ir_short, ir_only, ir_refused}
use Rattle.rohc_chain.proofs.ir.read_ir.Goals as goal

pub returns-clause-text : goal.returns-clause-text
returns-clause-text c = ir_said (header_of c.args.forward.now) c.read_by_profile.result c.read_by_profile.ensures.reads c.requires c.read_by_profile.ensures.octets

pub returns-clause-short : goal.returns-clause-short
returns-clause-short c = ir_short (header_of c.args.forward.now) c.read_by_profile.result c.read_by_profile.ensures.reads c.requires c.read_by_profile.ensures.octets

pub returns-clause-only : goal.returns-clause-only
returns-clause-only c = ir_only (header_of c.args.forward.now) c.read_by_profile.result c.read_by_profile.ensures.reads

pub returns-clause-fault : goal.returns-clause-fault
returns-clause-fault c = ir_refused (header_of c.args.forward.now) c.read_by_profile.result c.read_by_profile.ensures.reads

pub returns-clause-good : goal.returns-clause-good
returns-clause-good c =
    let h = header_of c.args.forward.now in
    ir_good_said h c.read_by_profile.result c.read_by_profile.ensures.octets (ir_said h c.read_by_profile.result c.read_by_profile.ensures.reads c.requires c.read_by_profile.ensures.octets)
