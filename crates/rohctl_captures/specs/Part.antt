-- Which packets of a call a script of a part of an input has. Words: noted; leads.
use Rattle.std.specs.Prelude.{ℕ, Bool, true, false, ◌&&◌, if◌then◌else◌, nat_lt, nat_le}
use Rattle.rohctl_captures.specs.declared.part.Reach.{Reach}

-- the script of a call begins at its newest IR behind the last reset, or else at the packet itself
abbrev pub beginning : ℕ → ℕ → ℕ → ℕ
beginning newest number reset = if nat_lt reset newest then newest else number

-- before the first packet that is shown
abbrev pub begun : Reach → ℕ → ℕ → Bool → Bool → Reach
begun reach number reset true renews =
    record { newest = reach.newest; first = beginning reach.newest number reset; shown = number }
begun reach number reset false true = record { newest = number; first = 0; shown = 0 }
begun reach number reset false false = record { newest = reach.newest; first = 0; shown = 0 }

-- once a packet was shown, nothing changes
abbrev pub noted : Reach → ℕ → ℕ → Bool → Bool → Reach
noted reach number reset shown renews =
    if nat_lt 0 reach.first then reach else begun reach number reset shown renews

abbrev pub leads : Reach → ℕ → Bool
leads reach number = nat_le reach.first number && nat_lt number reach.shown
