use Rattle.rohc_concentrator.proofs.PlaceLemmas.{found_by_key}
use Rattle.rohc_concentrator.proofs.place.place_by_hash.Goals as goal

pub returns-clause-there : goal.returns-clause-there
returns-clause-there g c =
    let e = c.get_index_of.ensures in
    found_by_key c.args.map.now c.args.key c.get_index_of.result e.index e.within e.value e.found
