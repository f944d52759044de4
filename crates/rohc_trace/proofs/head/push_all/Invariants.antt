use Rattle.std.proofs.Common.{◌≡◌, ◌++◌, take}
use Rattle.std.specs.List.{flat_map}
use Rattle.rohc_trace.specs.Head.{shown_octet}
use Rattle.rohc_trace.proofs.head.push_all.Given as goal

-- the octets so far were appended
abbrev pub invariant-loop-octet : goal.invariant-loop-octet
invariant-loop-octet l = l.text.items ≡ l.fn.text.items ++ flat_map shown_octet (take l.octet-index l.octets)
