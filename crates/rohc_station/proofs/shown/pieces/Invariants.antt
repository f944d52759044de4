use Rattle.std.proofs.Common.{◌≡◌, take}
use Rattle.std.specs.List.{flat_map}
use Rattle.rohc_station.specs.Shown.{piece_of}
use Rattle.rohc_station.proofs.shown.pieces.Given as goal

-- what stands for the octets so far
abbrev pub invariant-loop-octet : goal.invariant-loop-octet
invariant-loop-octet l = l.text.items ≡ flat_map piece_of (take l.octet-index l.octets)
