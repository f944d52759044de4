use Rattle.std.proofs.Common.{rules}
use Rattle.rohc_c.proofs.exports.polorowan_free.Goals as goal

pub returns-then-gateway : goal.returns-then-gateway
returns-then-gateway c = search rules
