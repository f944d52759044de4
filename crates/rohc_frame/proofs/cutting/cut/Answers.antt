use Rattle.std.proofs.Common.{refl}
use Rattle.std.proofs.lemmas.Result.{err_from_is_err_and}
use Rattle.rohc_frame.specs.Items.{after_items}
use Rattle.rohc_frame.specs.Reading.{option_header, elements_of}
use Rattle.rohc_frame.proofs.LawLemmas.{cut_refused, cut_only, cut_reading, cut_sized, cut_within}
use Rattle.rohc_frame.proofs.cutting.cut.Goals as goal

pub returns-in_err-forward-clause-only : goal.returns-in_err-forward-clause-only
returns-in_err-forward-clause-only c = λ r is.
    absurd (cut_only c.args.size c.args.max_cid c.args.octets.now (after_items c.args.octets.now) c.if-is_empty.ensures refl c.in_err-forward.field-0.0 c.in_err-forward.ensures r is)

pub returns-in_err-forward-clause-refusal : goal.returns-in_err-forward-clause-refusal
returns-in_err-forward-clause-refusal c =
    let p = err_from_is_err_and c.from_residual.result c.from_residual.ensures.1 in
    rw (p.1, p.2) (cut_refused c.args.size c.args.max_cid c.args.octets.now (after_items c.args.octets.now) c.if-is_empty.ensures refl c.in_err-forward.field-0.0 c.in_err-forward.ensures)

pub returns-clause-reading : goal.returns-clause-reading
returns-clause-reading c =
    cut_reading c.args.size c.args.max_cid c.args.octets.now (after_items c.args.octets.now) c.if-is_empty.ensures refl (elements_of c.at_front_of.result) (option_header c.in_ok-forward.forward) c.at_front_of.ensures c.in_ok-forward.ensures

pub returns-clause-sized : goal.returns-clause-sized
returns-clause-sized c = cut_sized c.args.size c.args.max_cid (after_items c.args.octets.now) c.in_ok-forward.forward c.in_ok-forward.ensures

pub returns-clause-within : goal.returns-clause-within
returns-clause-within c = cut_within c.args.size c.args.max_cid (after_items c.args.octets.now) c.in_ok-forward.forward c.in_ok-forward.ensures
