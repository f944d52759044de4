use Rattle.std.proofs.Common.{rules}
use Rattle.rohc_forms.specs.Packets.{extension_3_at}
use Rattle.rohc_forms.proofs.packet.extension_3.Goals as goal

pub returns-in_err-extended : goal.returns-in_err-extended
unfolding extension_3_at
returns-in_err-extended c = search rules

pub returns : goal.returns
unfolding extension_3_at
returns c = search rules
