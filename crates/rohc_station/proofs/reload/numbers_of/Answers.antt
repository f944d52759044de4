use Rattle.rohc_station.proofs.NumberLemmas.{numbers_if}
use Rattle.rohc_station.proofs.reload.numbers_of.Goals as goal

pub returns : goal.returns
returns c = numbers_if c.args.concentrator.now c.tables.result.now c.tables.ensures.tables (λ v. v.items) c.keys_of.result c.keys_of.ensures.keys c.keys_of.ensures.apart
