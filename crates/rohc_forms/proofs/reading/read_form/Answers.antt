use Rattle.rohc_frame.specs.Reading.{header_of}
use Rattle.rohc_forms.specs.Packets.{content}
use Rattle.rohc_forms.proofs.FormLemmas.{carried, scaled}
use Rattle.rohc_forms.proofs.SaysLemmas.{said, only, refused}
use Rattle.rohc_forms.proofs.reading.read_form.Goals as goal

pub returns-clause-says : goal.returns-clause-says
returns-clause-says c = said content (header_of c.args.forward.now) c.args.rnd c.args.udp_sum c.args.stride_known c.in_order.result c.in_order.ensures.reads

pub returns-clause-only : goal.returns-clause-only
returns-clause-only c = only content (header_of c.args.forward.now) c.args.rnd c.args.udp_sum c.args.stride_known c.in_order.result c.in_order.ensures.reads

pub returns-clause-fault : goal.returns-clause-fault
returns-clause-fault c = refused content (header_of c.args.forward.now) c.args.rnd c.args.udp_sum c.args.stride_known c.in_order.result c.in_order.ensures.reads

pub returns-clause-carried : goal.returns-clause-carried
returns-clause-carried c = carried (header_of c.args.forward.now) c.args.rnd c.args.udp_sum c.args.stride_known c.in_order.result c.in_order.ensures.octets c.in_order.ensures.reads

pub returns-clause-scaled : goal.returns-clause-scaled
returns-clause-scaled c = scaled (header_of c.args.forward.now) c.args.rnd c.args.udp_sum c.args.stride_known c.in_order.result c.in_order.ensures.octets c.in_order.ensures.reads
