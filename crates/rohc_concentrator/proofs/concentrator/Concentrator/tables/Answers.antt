use Rattle.rohc_concentrator.proofs.TableLemmas.{tell_all}
use Rattle.rohc_concentrator.proofs.concentrator.Concentrator.tables.Goals as goal

pub returns-clause-all : goal.returns-clause-all
returns-clause-all c = tell_all c.args.self.now
