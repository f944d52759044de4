use Rattle.rohc_frame.proofs.HeaderLemmas.{large_header_fits, large_header_bound}
use Rattle.rohc_frame.proofs.cutting.large_header.Goals as goal

pub invariant_of-result : goal.invariant_of-result
invariant_of-result c = record {
  is_header = rw c.split_at.ensures.front (large_header_fits c.in-Some.behind.now c.in_ok-cid.cid c.in_ok-cid.count c.in-Some.first.now c.in_ok-kind.kind c.in_ok-cid.ensures c.in_ok-kind.ensures);
  in_range = large_header_bound c.args.octets.now c.in-Some.first.now c.in-Some.behind.now c.in_ok-cid.cid c.in_ok-cid.count c.type_inv.octets c.in-Some.ensures.cases.0 c.in_ok-cid.ensures;
}
