use Rattle.std.proofs.Common.{arith, sym}
use Rattle.rohc_station.proofs.RemoveLemmas.{is_there, named_stays, one_removed}
use Rattle.rohc_station.proofs.reload.remove_links.Goals as goal
use Rattle.rohc_station.proofs.reload.remove_links.Goals.{then-not-names_link, else-not-names_link}

pub remove-gone-requires : goal.remove-gone-requires
remove-gone-requires c = record {
  there = is_there c.args.concentrator.now c.loop-link.concentrator c.args.settings.now c.args.numbers.now c.requires.links c.loop-link.link-index (omega arith) c.loop-link.tally.links c.loop-link.tally.contexts c.loop-link.invariant;
}

pub loop-link-preserved : goal.loop-link-preserved
loop-link-preserved c = elim c.if-not-names_link.branch [
  | then-not-names_link w ↦
      let few = c.requires.few in
      rw (w.concentrator-is, w.tally-is)
      (one_removed c.args.concentrator.now c.loop-link.concentrator c.args.settings.now c.args.numbers.now c.requires.links c.loop-link.link-index (omega arith) c.loop-link.tally.links c.loop-link.tally.contexts c.loop-link.invariant
      w.remove-gone.result w.add.new.self.links w.add.new.self.contexts w.remove-gone.new.concentrator
      (sym w.if-not-names_link.ensures) w.remove-gone.ensures.call w.remove-gone.ensures.gone w.add.ensures.links w.add.ensures.contexts (omega arith))
  | else-not-names_link w ↦
      rw (w.concentrator-is, w.tally-is)
      (named_stays c.args.concentrator.now c.loop-link.concentrator c.args.settings.now c.args.numbers.now c.requires.links c.loop-link.link-index (omega arith) c.loop-link.tally.links c.loop-link.tally.contexts c.loop-link.invariant
      (sym w.if-not-names_link.ensures))
]
