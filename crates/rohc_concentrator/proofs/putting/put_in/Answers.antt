use Rattle.std.proofs.Common.{rules, ◌≡◌, None, nat_eq, refl, ap}
use Rattle.std.specs.Option.{option_map}
use Rattle.std.specs.HashMap.{get}
use Rattle.rohc_context.specs.Record.{record_of}
use Rattle.rohc_concentrator.proofs.OrderLemmas.{goes_last}
use Rattle.rohc_concentrator.proofs.putting.put_in.Goals as goal

pub returns-in-Ok-clause-put : goal.returns-in-Ok-clause-put
returns-in-Ok-clause-put c =
    let none : get nat_eq c.args.records.now.contexts c.args.cid ≡ None = search rules in
    record {
      free = record { within = search rules; none = ap (option_map record_of) none };
      put = search rules;
      setting = refl;
      others = search rules;
      order = goes_last c.args.records.now.contexts c.insert.new.self c.args.cid c.args.context none (search rules);
    }
