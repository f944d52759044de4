use Rattle.rohc_chain.specs.Packets.{ir_at}
use Rattle.rohc_chain.specs.Texts.{ir_fault}
use Rattle.rohc_chain.proofs.FaultLemmas.{ir_faults, refused}
use Rattle.rohc_chain.proofs.TextLemmas.{ir_text, ir_from_text, ir_one}
use Rattle.rohc_chain.proofs.GoodLemmas.{ir_good}
use Rattle.rohc_chain.proofs.laws.one_ir.Goals as goal

pub returns-clause-reads : goal.returns-clause-reads
returns-clause-reads c = λ h content is all. (ir_text h content is all, λ text. ir_from_text h content text.0 text.1)

pub returns-clause-refuses : goal.returns-clause-refuses
returns-clause-refuses c = λ h refusal. refused (ir_at h) (ir_fault h) refusal (ir_faults h)

pub returns-clause-unique : goal.returns-clause-unique
returns-clause-unique c = ir_one

pub returns-clause-good : goal.returns-clause-good
returns-clause-good c = ir_good
