use Rattle.rohc_replay.proofs.SearchLemmas.{first_found, none_found}
use Rattle.rohc_replay.proofs.stream.first_newline.Goals as goal

pub returns-clause-found : goal.returns-clause-found
returns-clause-found c = first_found c.args.octets.now c.memchr.result c.memchr.ensures

pub returns-clause-none : goal.returns-clause-none
returns-clause-none c = none_found c.args.octets.now c.memchr.result c.memchr.ensures
