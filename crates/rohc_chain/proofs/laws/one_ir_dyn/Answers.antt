use Rattle.rohc_chain.specs.Packets.{ir_dyn_at}
use Rattle.rohc_chain.specs.Texts.{ir_dyn_fault}
use Rattle.rohc_chain.proofs.FaultLemmas.{ir_dyn_faults, refused}
use Rattle.rohc_chain.proofs.TextLemmas.{dyn_text, dyn_from_text, dyn_one}
use Rattle.rohc_chain.proofs.GoodLemmas.{dyn_good}
use Rattle.rohc_chain.proofs.laws.one_ir_dyn.Goals as goal

pub returns-clause-reads : goal.returns-clause-reads
returns-clause-reads c = λ h profile kept packet is low all. (dyn_text h profile kept packet is low all, λ text. dyn_from_text h profile kept packet text.0 text.1)

pub returns-clause-refuses : goal.returns-clause-refuses
returns-clause-refuses c = λ h profile kept refusal. refused (ir_dyn_at h profile kept) (ir_dyn_fault h profile) refusal (ir_dyn_faults h profile kept)

pub returns-clause-unique : goal.returns-clause-unique
returns-clause-unique c = dyn_one

pub returns-clause-good : goal.returns-clause-good
returns-clause-good c = dyn_good
