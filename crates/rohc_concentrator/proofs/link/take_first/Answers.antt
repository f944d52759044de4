use Rattle.std.proofs.Common.{rules, refl, ap, inl}
use Rattle.std.specs.Option.{option_map}
use Rattle.indexmap.proofs.CallerLemmas.{keys-with_value_at}
use Rattle.rohc_context.specs.Record.{record_of}
use Rattle.rohc_concentrator.specs.Setting.{settings_of}
use Rattle.rohc_concentrator.proofs.PlaceLemmas.{same_value, own_written, others_kept}
use Rattle.rohc_concentrator.proofs.ByNumber.{by_number}
use Rattle.rohc_concentrator.proofs.link.take_first.Goals as goal

pub returns-clause-taken : goal.returns-clause-taken
returns-clause-taken c =
    let contexts = c.args.records.now.contexts in
    let place = c.in-Some-place_of.place in
    let cid = c.in-Some.forward.cid in
    let s = c.in-Some-place_of.ensures.there in
    let lent = c.pair_mut-context.ensures in
    let written = own_written contexts place cid s.value c.take_first.new.self lent.unique s.entry in
    let value = same_value _ _ _ _ _ s.entry lent.value in
    let lone = c.in-Some-take_first.ensures.taken (settings_of c.args.records.now.setting cid) refl in
    record {
      answer = rw c.in-Some.ensures.parts (_, refl, rw (s.found, written, value) (inl lone));
      setting = refl;
      others = λ other is. ap (option_map record_of) (others_kept contexts place cid s.value c.take_first.new.self lent.unique s.entry other (λ same. is (search rules)));
      order = rw (c.in-Some.ensures.parts, s.found) (keys-with_value_at contexts place c.take_first.new.self);
    }

pub returns-in_default-take_first-clause-stays : goal.returns-in_default-take_first-clause-stays
returns-in_default-take_first-clause-stays c =
    let contexts = c.args.records.now.contexts in
    let place = c.in-Some-place_of.place in
    let cid = c.in-Some.forward.cid in
    let s = c.in-Some-place_of.ensures.there in
    let lent = c.pair_mut-context.ensures in
    let written = own_written contexts place cid s.value c.take_first.new.self lent.unique s.entry in
    let value = same_value _ _ _ _ _ s.entry lent.value in
    record {
      setting = refl;
      records = by_number (λ n. _) cid (rw (s.found, written, value, ap record_of c.in_default-take_first.ensures.stays) refl)
          (λ other is. ap (option_map record_of) (others_kept contexts place cid s.value c.take_first.new.self lent.unique s.entry other is));
      order = keys-with_value_at contexts place c.take_first.new.self;
    }

pub returns-clause-first : goal.returns-clause-first
returns-clause-first c =
    let cid = c.in-Some.forward.cid in
    let s = c.in-Some-place_of.ensures.there in
    let value = same_value _ _ _ _ _ s.entry c.pair_mut-context.ensures.value in
    rw c.in-Some.ensures.parts (rw (s.found, value) (c.in-Some-take_first.ensures.first (settings_of c.args.records.now.setting cid) refl))
