use Rattle.std.proofs.Common.{rules, ◌≡◌, arith}
use Rattle.std.proofs.lemmas.Bool.Decides.{nat_tests}
use Rattle.rohc_concentrator.proofs.place.stands_at.Goals as goal

pub returns : goal.returns
returns g c = λ test.
    let is : c.in-Some.found.now ≡ c.args.key = grind (arith, nat_tests) in
    record {
      value = c.in-Some.field-0-1.now;
      entry = rw (← is) (search rules);
      found = rw (← is) (search rules);
      inside = search rules;
    }
