use Rattle.std.proofs.Common.{◌++◌, true, false, subst}
use Rattle.sha2.specs.Sha256.{sha256}
use Rattle.rohc_saved.specs.Form.{signed}
use Rattle.rohc_saved.specs.Output.{IsTaken}
use Rattle.rohc_saved.proofs.OutputLemmas.{whole_written, whole_kept}
use Rattle.rohc_saved.proofs.output.Output.finish.Goals as goal

pub returns-then-self-clause-fault : goal.returns-then-self-clause-fault
unfolding signed
returns-then-self-clause-fault g c held text put =
    let digest = c.finalize_reset-digest.ensures.digest text put.hashed in
    let taken = c.write.ensures.taken held text put.taken in
    subst (λ d. IsTaken true held (g.W.Write.contents c.write.new.writer) (text ++ d) c.write.new.self.written) digest
    (subst (λ stopped. IsTaken stopped held (g.W.Write.contents c.write.new.writer) (text ++ c.finalize_reset-digest.result) c.write.new.self.written) c.if-self.true taken)

pub returns-in-Ok-clause-whole : goal.returns-in-Ok-clause-whole
unfolding signed
returns-in-Ok-clause-whole g c held text put =
    let digest = c.finalize_reset-digest.ensures.digest text put.hashed in
    let taken = c.write.ensures.taken held text put.taken in
    whole_kept held (g.W.Write.contents c.write.new.writer) (g.W.Write.contents c.flush.new.self) (text ++ sha256 text) c.write.new.self.written c.flush.ensures.bytes
    (subst (λ d. IsTaken false held (g.W.Write.contents c.write.new.writer) (text ++ d) c.write.new.self.written) digest
    (subst (λ stopped. IsTaken stopped held (g.W.Write.contents c.write.new.writer) (text ++ c.finalize_reset-digest.result) c.write.new.self.written) c.if-self.false taken))

pub returns-in-Err-clause-fault : goal.returns-in-Err-clause-fault
unfolding signed
returns-in-Err-clause-fault g c held text put =
    let digest = c.finalize_reset-digest.ensures.digest text put.hashed in
    let taken = c.write.ensures.taken held text put.taken in
    whole_written held (g.W.Write.contents c.flush.new.self) (text ++ sha256 text) c.write.new.self.written
    (whole_kept held (g.W.Write.contents c.write.new.writer) (g.W.Write.contents c.flush.new.self) (text ++ sha256 text) c.write.new.self.written c.flush.ensures.bytes
    (subst (λ d. IsTaken false held (g.W.Write.contents c.write.new.writer) (text ++ d) c.write.new.self.written) digest
    (subst (λ stopped. IsTaken stopped held (g.W.Write.contents c.write.new.writer) (text ++ c.finalize_reset-digest.result) c.write.new.self.written) c.if-self.false taken)))
