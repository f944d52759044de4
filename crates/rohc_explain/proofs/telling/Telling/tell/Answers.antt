use Rattle.std.proofs.Common.{◌≡◌, ◌+◌, [], ◌∷◌, ◌++◌, refl, arith}
use Rattle.rohc_explain.specs.declared.field.Field.{Field}
use Rattle.rohc_explain.proofs.ToldLemmas.{stay_in_turn, stay_in_place}
use Rattle.rohc_explain.proofs.telling.Telling.tell.Goals as goal

pub invariant_of-self-2 : goal.invariant_of-self-2
invariant_of-self-2 c =
    let f : Field = record { name = c.args.name; first = c.args.self.now.at; count = c.args.count; value = c.in-Some.value } in
    let pushed : c.push.new.self.items ≡ c.args.self.now.fields.items ++ f ∷ [] = grind (arith, c.in-Ok.ensures.items) in
    let behind : c.in-Some-checked_add.behind ≡ c.args.self.now.at + c.args.count = grind (arith, c.in-Some-checked_add.ensures, c.from.ensures) in
    record {
      stand = stay_in_place c.args.self.now.octets.now c.args.self.now.fields.items c.push.new.self.items f c.args.self.now.stand pushed c.in-Some.ensures;
      in_turn = stay_in_turn c.args.self.now.fields.items c.push.new.self.items f c.args.self.now.at c.in-Some-checked_add.behind c.args.self.now.in_turn pushed refl behind;
    }
