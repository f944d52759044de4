use Rattle.std.proofs.Common.{drop, Ok, sym, ap, ◌∙◌}
use Rattle.rohc_bits.specs.Reading.{value_or}
use Rattle.rohc_bits.proofs.ReadingLemmas.{value_is}
use Rattle.rohc_bits.proofs.reading.value_in.Goals as goal

pub returns-in-Some-clause-reads : goal.returns-in-Some-clause-reads
returns-in-Some-clause-reads g c =
    let count = sym (c.new.ensures.count ∙ c.value_width.ensures) in
    let value = sym c.new.ensures.value in
    value_is c.args.short c.args.octets.now c.read_value.result c.type_inv.octets c.read_value.ensures.within c.read_value.ensures.spelled c.read_value.ensures.every
    ∙ ap (value_or c.args.short c.args.octets.now) c.in-Some.is
    ∙ (λ i. Ok (record { count = count i; value = value i }, drop c.in-Some.count c.args.octets.now))

pub returns-in-None-clause-reads : goal.returns-in-None-clause-reads
returns-in-None-clause-reads g c =
    value_is c.args.short c.args.octets.now c.read_value.result c.type_inv.octets c.read_value.ensures.within c.read_value.ensures.spelled c.read_value.ensures.every
    ∙ ap (value_or c.args.short c.args.octets.now) c.in-None.is
