use Rattle.std.proofs.Common.{◌∙◌, ◌<◌, ap, sym, take, get_or, Bool, if◌then◌else◌, arith}
use Rattle.std.proofs.lemmas.List.Folds.{list_all_more}
use Rattle.std.specs.Int.Bits.{bit_and}
use Rattle.std.specs.List.{list_all}
use Rattle.rohc_replay.specs.LowerCase.{has_lower_bit}
use Rattle.rohc_replay.proofs.DigitLemmas.{common_more}
use Rattle.rohc_replay.proofs.hex_octets.common_bit.Goals as goal

pub loop-octet-preserved : goal.loop-octet-preserved
loop-octet-preserved c =
    let l = c.loop-octet in
    let text = c.args.text.now in
    let octet = get_or text l.octet-index 0 in
    let small : octet < 256 = omega (arith, c.type_inv.text l.octet-index) in
    let so_far = list_all has_lower_bit (take l.octet-index text) in
    ap (λ n. bit_and n octet) l.invariant
    ∙ common_more so_far octet small
    ∙ ap (λ (all : Bool). if all then 32 else 0) (sym (list_all_more has_lower_bit text l.octet-index 0 c.loop-octet-test.true))
