use Rattle.rohc_plan.specs.Split.{IsFirstLeast}
use Rattle.rohc_plan.proofs.split.least_share.Given as goal

abbrev pub invariant-loop-place : goal.invariant-loop-place
invariant-loop-place l = IsFirstLeast l.shares l.place l.least
