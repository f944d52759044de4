use Rattle.std.proofs.Common.{Ok, OnOk, IfErr, subst}
use Rattle.std.proofs.lemmas.Result.{on_ok_weaker, IfErr-weaker}
use Rattle.std.specs.Option.{option_map}
use Rattle.std.specs.Io.KnownBytes.{append_known}
use Rattle.rohc_capture.specs.Records.{standing}
use Rattle.rohc_capture.specs.Standing.{rest_of, place_of}
use Rattle.rohc_decompress.specs.Written.{work}
use Rattle.rohc_decompress.specs.Run.{how, Decompresses, Stops}
use Rattle.rohc_decompress.proofs.RunLemmas.{append_known-none, whole-poured, stop-poured}
use Rattle.rohc_decompress.proofs.run.decompress.Goals as goal

pub returns-clause-whole : goal.returns-clause-whole
returns-clause-whole g c =
    let first = c.args.capture.now in
    let s = option_map (standing first.kind (place_of first)) (rest_of g.R.Read.remaining first) in
    let contents = g.W.Write.contents in
    let feedback = g.V.Write.contents c.args.feedback.now in
    let ran = c.take_records-ran.new in
    let new = work ran.concentrator (append_known (contents ran.packets) ran.batch) (g.V.Write.contents ran.feedback) in
    let none = append_known-none (contents c.args.packets.now) c.new-batch.result c.new-batch.ensures in
    on_ok_weaker c.take_records-ran.result
    (whole-poured (how c.args.bulk.now) s (Ok tt) (work c.args.concentrator.now (contents c.args.packets.now) feedback) new (contents c.pour.new.writer) c.in-Ok.ensures.kept)
    (subst (λ k. OnOk c.take_records-ran.result (Decompresses (how c.args.bulk.now) s (Ok tt) (work c.args.concentrator.now k feedback) new)) none c.take_records-ran.ensures.whole)

pub returns-clause-fault : goal.returns-clause-fault
returns-clause-fault g c =
    let first = c.args.capture.now in
    let s = option_map (standing first.kind (place_of first)) (rest_of g.R.Read.remaining first) in
    let contents = g.W.Write.contents in
    let feedback = g.V.Write.contents c.args.feedback.now in
    let ran = c.take_records-ran.new in
    let new = work ran.concentrator (append_known (contents ran.packets) ran.batch) (g.V.Write.contents ran.feedback) in
    let none = append_known-none (contents c.args.packets.now) c.new-batch.result c.new-batch.ensures in
    let old = work c.args.concentrator.now (contents c.args.packets.now) feedback in
    let after = work ran.concentrator (contents c.pour.new.writer) (g.V.Write.contents ran.feedback) in
    IfErr-weaker c.take_records-ran.result (λ fault. Stops (how c.args.bulk.now) s fault old new) (λ fault. Stops (how c.args.bulk.now) s fault old after)
    (λ fault. stop-poured (how c.args.bulk.now) s fault (work c.args.concentrator.now (contents c.args.packets.now) feedback) new (contents c.pour.new.writer) c.in-Ok.ensures.kept)
    (subst (λ k. IfErr c.take_records-ran.result (λ fault. Stops (how c.args.bulk.now) s fault (work c.args.concentrator.now k feedback) new)) none c.take_records-ran.ensures.fault)
