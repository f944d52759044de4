use Rattle.std.proofs.Common.{sym, arith}
use Rattle.rohc_frame.proofs.Identifier.{read_agrees, read_fits}
use Rattle.rohc_frame.proofs.cutting.large_identifier.Goals as goal

pub returns-in_default-read_value : goal.returns-in_default-read_value
returns-in_default-read_value c =
    let agrees = read_agrees c.args.octets.now c.in-Some.first.now _ c.read_value.result c.in-Some.ensures.cases.0 c.if-first-ge-FIRST_BITS_11.false c.type_inv.octets
    (record { spelled = c.read_value.ensures.spelled; every = c.read_value.ensures.every }) in
    sym (rw c.in_default-read_value.is at agrees)

pub returns : goal.returns
returns c =
    let agrees = read_agrees c.args.octets.now c.in-Some.first.now _ c.read_value.result c.in-Some.ensures.cases.0 c.if-first-ge-FIRST_BITS_11.false c.type_inv.octets
    (record { spelled = c.read_value.ensures.spelled; every = c.read_value.ensures.every }) in
    sym (rw c.in-Some-read_value.is at agrees)

pub overflow_cast-result : goal.overflow_cast-result
overflow_cast-result c =
    let fits = read_fits c.args.octets.now c.in-Some.first.now _ c.read_value.result _ _ c.in-Some.ensures.cases.0 c.if-first-ge-FIRST_BITS_11.false
    c.read_value.ensures.spelled c.in-Some-read_value.is in
    omega (arith, fits)
