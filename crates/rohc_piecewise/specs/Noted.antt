-- What was noted of a link, as a head. Word: head_in.
use Rattle.rohc_piecewise.specs.Piecewise.{Head}
use Rattle.rohc_piecewise.specs.declared.noted.Noted.{Noted}

abbrev pub head_in : Noted → Head
head_in n = record { number = n.number; size = n.size; greatest = n.greatest }
