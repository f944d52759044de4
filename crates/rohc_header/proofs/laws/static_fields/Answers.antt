use Rattle.rohc_header.proofs.StaticFields.{has_static_fields}
use Rattle.rohc_header.proofs.laws.static_fields.Goals as goal

pub returns : goal.returns
returns c = has_static_fields
