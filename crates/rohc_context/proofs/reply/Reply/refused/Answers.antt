use Rattle.std.proofs.Common.{refl}
use Rattle.rohc_context.proofs.reply.Reply.refused.Goals as goal

pub returns : goal.returns
returns c = refl
