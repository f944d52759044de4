use Rattle.std.proofs.Common.{rules, ◌≡◌, Some, nat_eq}
use Rattle.std.specs.Map.{lookup}
use Rattle.std.proofs.lemmas.Map.Entries.{lookup_from_place}
use Rattle.std.specs.Cmp.{nat_eq_equiv}
use Rattle.rohc_concentrator.proofs.concentrator.Concentrator.context_at.Goals as goal

-- src/standing.rt:23:5
pub returns-clause-record : goal.returns-clause-record
returns-clause-record c =
    let own : lookup (nat_eq c.in_ok-cid.cid.now) c.in_ok-records.records.now.contexts.entries ≡ Some c.in_ok-cid.context.now
    = lookup_from_place nat_eq_equiv _ c.args.place _ _ c.as_slice.ensures.unique (search rules) in
    search rules
