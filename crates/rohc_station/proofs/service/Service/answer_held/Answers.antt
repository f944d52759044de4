use Rattle.std.proofs.Common.{refl, arith}
use Rattle.rohc_station.specs.Told.{told_of}
use Rattle.rohc_station.specs.Service.{View, view}
use Rattle.rohc_station.proofs.ServiceLemmas.{answers_next}
use Rattle.rohc_station.proofs.service.Service.answer_held.Goals as goal

pub loop-mark-preserved : goal.loop-mark-preserved
loop-mark-preserved g c new rest =
    let mid : View = record { station = c.answer.new.self; moves = c.loop-mark.self.moves; acts = g.F.Front.acts c.answer.new.front } in
    c.loop-mark.invariant new (answers_next c.args.duty (view c.loop-mark.self (g.F.Front.acts c.loop-mark.front)) mid new c.args.held.now c.as_slice-mark-items.result.now c.deref.result.now c.loop-mark.mark-index (told_of c.answer.result) _ c.as_slice-mark-items.ensures.value c.deref.ensures.value (omega arith) c.arrival_in-read.ensures c.answer.ensures refl rest)
