use Rattle.std.proofs.Common.{◌≡◌, drop}
use Rattle.rohc_station.specs.Requests.{is_head}
use Rattle.rohc_station.proofs.request.is_head.Given as goal

-- what is left is a request of the same method
abbrev pub invariant-loop-place : goal.invariant-loop-place
invariant-loop-place l = is_head (drop l.place l.octets) ≡ is_head l.fn.octets
