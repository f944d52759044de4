use Rattle.std.proofs.Common.{◌≡◌, drop}
use Rattle.rohc_station.specs.Requests.{number_behind}
use Rattle.rohc_station.proofs.request.number_in.Given as goal

-- the digits that are left go on from the number so far
abbrev pub invariant-loop-octet : goal.invariant-loop-octet
invariant-loop-octet l = number_behind l.number (drop l.octet-index l.digits) ≡ number_behind 0 l.fn.digits
