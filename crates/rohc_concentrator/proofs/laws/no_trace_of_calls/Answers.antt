use Rattle.rohc_concentrator.proofs.TraceLemmas.{no_trace_of_calls}
use Rattle.rohc_concentrator.proofs.laws.no_trace_of_calls.Goals as goal

pub returns : goal.returns
returns c = no_trace_of_calls
