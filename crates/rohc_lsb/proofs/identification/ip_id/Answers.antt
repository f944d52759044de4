use Rattle.rohc_lsb.proofs.Offsets.{offset_is, offset_back}
use Rattle.rohc_lsb.proofs.identification.ip_id.Goals as goal

pub returns : goal.returns
returns c =
    rw (c.network_order-2.ensures, offset_back c.args.nbo c.args.sn c.offset_meant.result c.ranges.sn.fits c.offset_meant.type_inv, offset_is c.args.nbo c.args.reference_sn c.args.reference_id c.ranges.reference_sn.fits, ← c.network_order.ensures)
    c.offset_meant.ensures
