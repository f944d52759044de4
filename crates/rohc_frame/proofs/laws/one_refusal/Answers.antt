use Rattle.rohc_frame.proofs.LawLemmas.{refused_from_parts, parts_from_refused}
use Rattle.rohc_frame.proofs.laws.one_refusal.Goals as goal

pub returns : goal.returns
returns c = λ size max_cid octets refusal. (refused_from_parts size max_cid octets refusal, parts_from_refused size max_cid octets refusal)
