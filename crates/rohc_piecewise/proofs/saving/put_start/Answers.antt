use Rattle.std.proofs.Common.{◌≡◌, ◌++◌, length, ap, ◌∙◌, arith}
use Rattle.rohc_piecewise.proofs.TextLemmas.{start_items, start_length}
use Rattle.rohc_piecewise.proofs.saving.put_start.Goals as goal

pub put-requires : goal.put-requires
put-requires c =
    let few : length c.as_slice.result.now ≡ 21 = ap length (c.as_slice.ensures.value ∙ start_items c.args.moment c.args.count c.start_part-start.result.items c.start_part-start.ensures) ∙ start_length c.args.moment c.args.count in
    let none : length c.clear.new.self.octets.items ≡ 0 = ap length c.clear.ensures.none in
    omega (arith, few, none)

pub returns-clause-text : goal.returns-clause-text
returns-clause-text c =
    c.put.ensures.text ∙ ap (λ t. t ++ c.as_slice.result.now) c.clear.ensures.none ∙ c.as_slice.ensures.value ∙ start_items c.args.moment c.args.count c.start_part-start.result.items c.start_part-start.ensures
