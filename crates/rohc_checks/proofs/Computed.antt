-- The tables of the code are those of the division, computed.
use Rattle.std.proofs.Common.{◌≡◌, refl}
use Rattle.std.proofs.Math.Bool.{xor}
use Rattle.rohc_checks.specs.Division.{bits, number, poly3, poly7, poly8, add_front, divided, remainder, table_of}
use Rattle.rohc_checks.specs.declared.tables.TheConstants.{CRC3, CRC7, CRC8}

pub table3 : CRC3 ≡ table_of poly3
unfolding bits number poly3 xor add_front divided remainder table_of
table3 = refl

pub table7 : CRC7 ≡ table_of poly7
unfolding bits number poly7 xor add_front divided remainder table_of
table7 = refl

pub table8 : CRC8 ≡ table_of poly8
unfolding bits number poly8 xor add_front divided remainder table_of
table8 = refl
