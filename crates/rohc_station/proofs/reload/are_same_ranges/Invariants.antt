use Rattle.std.proofs.Common.{◌≡◌, take}
use Rattle.rohc_station.proofs.reload.are_same_ranges.Given as goal

-- the ranges so far are the same
abbrev pub invariant-loop-place : goal.invariant-loop-place
invariant-loop-place l = take l.place l.before ≡ take l.place l.after
