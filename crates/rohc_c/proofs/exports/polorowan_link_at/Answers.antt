use Rattle.std.proofs.Common.{rules}
use Rattle.rohc_c.proofs.exports.polorowan_link_at.Goals as goal

pub returns-clause-shown : goal.returns-clause-shown
returns-clause-shown c = search rules
