use Rattle.rohc_frame.specs.Parts.{header_parts}
use Rattle.rohc_frame.proofs.LawLemmas.{parts_of_plain}
use Rattle.rohc_frame.proofs.cutting.plain_header.Goals as goal

pub returns-in-Small-clause-parts : goal.returns-in-Small-clause-parts
unfolding header_parts
returns-in-Small-clause-parts c =
    let found = c.small_plain.ensures in
    parts_of_plain c.args.size c.args.max_cid c.args.octets.now c.small_plain.result found.front found.elements (rw c.in-Small.is found.header)

pub returns-in-Large-clause-parts : goal.returns-in-Large-clause-parts
unfolding header_parts
returns-in-Large-clause-parts c =
    let found = c.large_plain.ensures in
    parts_of_plain c.args.size c.args.max_cid c.args.octets.now c.large_plain.result found.front found.elements (rw c.in-Large.is found.header)
