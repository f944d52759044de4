use Rattle.std.proofs.Common.{ap, inl}
use Rattle.std.specs.Option.{option_map}
use Rattle.indexmap.proofs.CallerLemmas.{keys-with_value_at}
use Rattle.rohc_context.specs.Record.{record_of}
use Rattle.rohc_concentrator.proofs.PlaceLemmas.{same_value, own_written, others_kept}
use Rattle.rohc_concentrator.proofs.link.step_at.Goals as goal

pub step-requires-clause-missed : goal.step-requires-clause-missed
step-requires-clause-missed c = λ plain.
    let s = c.in-Some-place_of.ensures.there in
    let same = same_value _ _ _ _ _ s.entry c.pair_mut-context.ensures.value in
    rw c.settings_of-settings.ensures (rw (s.found, same) at (c.requires.missed plain))

pub returns-clause-own : goal.returns-clause-own
returns-clause-own c =
    let s = c.in-Some-place_of.ensures.there in
    let lent = c.pair_mut-context.ensures in
    let written = own_written c.args.records.now.contexts c.in-Some-place_of.place c.args.packet.now.forward.cid s.value c.step.new.self lent.unique s.entry in
    let same = same_value _ _ _ _ _ s.entry lent.value in
    rw (s.found, written, same) (inl (rw c.settings_of-settings.ensures at c.step.ensures.step))

pub returns-clause-others : goal.returns-clause-others
returns-clause-others c = λ other is.
    let s = c.in-Some-place_of.ensures.there in
    ap (option_map record_of) (others_kept c.args.records.now.contexts c.in-Some-place_of.place c.args.packet.now.forward.cid s.value c.step.new.self c.pair_mut-context.ensures.unique s.entry other is)

pub returns-clause-order : goal.returns-clause-order
returns-clause-order c =
    let s = c.in-Some-place_of.ensures.there in
    rw s.found (keys-with_value_at c.args.records.now.contexts c.in-Some-place_of.place c.step.new.self)

pub returns-clause-repaired : goal.returns-clause-repaired
returns-clause-repaired c =
    let s = c.in-Some-place_of.ensures.there in
    let same = same_value _ _ _ _ _ s.entry c.pair_mut-context.ensures.value in
    rw (s.found, same) (rw c.settings_of-settings.ensures at c.step.ensures.repaired)
