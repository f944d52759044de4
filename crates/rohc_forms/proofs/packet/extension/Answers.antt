use Rattle.std.proofs.Common.{rules}
use Rattle.rohc_forms.specs.Packets.{extension_at}
use Rattle.rohc_forms.proofs.packet.extension.Goals as goal

pub returns-then-first-ge192 : goal.returns-then-first-ge192
unfolding extension_at
returns-then-first-ge192 c = search rules
