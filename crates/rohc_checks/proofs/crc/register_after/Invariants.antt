-- The register is that of the octets so far: the check of the rest from it is the check of the whole.
use Rattle.std.proofs.Common.{◌≡◌, ◌^◌, ◌<◌, ◌≤◌, Bool, List, drop}
use Rattle.rohc_checks.specs.Division.{check, degree, table_of}
use Rattle.rohc_checks.proofs.crc.register_after.Given as goal

abbrev pub invariant-loop-octet : goal.invariant-loop-octet
invariant-loop-octet l = (poly : List Bool) → degree poly ≤ 8 → l.table ≡ table_of poly → l.reg < 2 ^ degree poly
    → (l.register < 2 ^ degree poly) × (check poly l.register (drop l.octet-index l.octets) ≡ check poly l.reg l.octets)
