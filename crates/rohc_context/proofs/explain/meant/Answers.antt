use Rattle.std.proofs.lemmas.Int.{ints}
use Rattle.std.proofs.Common.{rules}
use Rattle.rohc_context.proofs.explain.meant.Goals as goal

pub returns-clause-means : goal.returns-clause-means
returns-clause-means c = search (ints, rules, c.timestamp.ensures)
