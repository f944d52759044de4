use Rattle.std.proofs.Common.{◌≡◌, ◌+◌, drop}
use Rattle.rohc_faults.specs.Entry.{place_from}
use Rattle.rohc_faults.proofs.entry.earlier.Given as goal

abbrev pub invariant-loop-place : goal.invariant-loop-place
invariant-loop-place l = place_from (l.place + 1) l.number (drop l.place l.before) ≡ place_from 1 l.number l.before
