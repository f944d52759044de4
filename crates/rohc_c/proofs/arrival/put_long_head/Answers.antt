use Rattle.std.proofs.Common.{length, sym, ap, ◌∙◌}
use Rattle.std.proofs.lemmas.List.{length-take-le}
use Rattle.rohc_c.proofs.arrival.put_long_head.Goals as goal

pub copy_from_slice-requires : goal.copy_from_slice-requires
copy_from_slice-requires c = length-take-le 40 c.args.place.now c.requires.room ∙ sym (ap length c.long_head.ensures ∙ c.requires.long)
