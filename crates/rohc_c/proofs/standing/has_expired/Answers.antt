use Rattle.std.proofs.Common.{rules, ◌≡◌, Some, None, nat_eq, refl}
use Rattle.indexmap.specs.IndexMap.{get}
use Rattle.rohc_c.proofs.standing.has_expired.Goals as goal

pub returns-in-Some-get : goal.returns-in-Some-get
returns-in-Some-get c =
    let found : get nat_eq c.tables.result.now c.args.link ≡ Some c.in-Some.records.now = search rules in
    let is = c.tables.ensures.tables.there c.args.link c.in-Some.records.now found in
    let own : get nat_eq c.in-Some.records.now.contexts c.args.cid ≡ Some c.in-Some-get.context.now = search rules in
    rw (is.setting, is.records c.args.cid, own) c.has_expired.ensures

pub returns-in-None : goal.returns-in-None
returns-in-None c =
    let found : get nat_eq c.tables.result.now c.args.link ≡ Some c.in-Some.records.now = search rules in
    let is = c.tables.ensures.tables.there c.args.link c.in-Some.records.now found in
    let own : get nat_eq c.in-Some.records.now.contexts c.args.cid ≡ None = search rules in
    rw (is.setting, is.records c.args.cid, own) refl
