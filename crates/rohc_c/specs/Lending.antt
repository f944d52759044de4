-- What a handle lends. Words: holding; LendsItsOwn.
use Rattle.std.specs.Prelude.{Some}
use Rattle.std.specs.Borrow.{MutBor, Fml, Lends}
use Rattle.rohc_concentrator.specs.contracts.concentrator.Concentrator.{the_row as R}
use Rattle.rohc_c.specs.declared.handle.Handle.{Handle}
use Rattle.rohc_c.specs.contracts.handle.Handle.{the_row}

-- the handle, with another concentrator at its address
abbrev pub holding : Handle → R.Denot → Handle
holding h k = record h { concentrator = Some k }

-- once the borrow r ends, the handle behind h owns the last concentrator behind r
abbrev pub LendsItsOwn : MutBor Handle → MutBor R.Denot → Fml
LendsItsOwn h r = Lends the_row R h r (holding h.now)
