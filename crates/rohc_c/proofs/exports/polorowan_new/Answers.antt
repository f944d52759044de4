use Rattle.std.proofs.Common.{rules}
use Rattle.rohc_c.proofs.exports.polorowan_new.Goals as goal

pub returns-in-Err-clause-kept : goal.returns-in-Err-clause-kept
returns-in-Err-clause-kept c = search rules
