-- How ROHC packets lie in frames. Words: usual; is_number; network_under; behind.
use Rattle.std.specs.Prelude.{ℕ, List, length, drop, nat_le, ◌==◌, Bool, false, Option, Some, None, Result, Ok, Err, if◌then◌else◌}
use Rattle.rohc_capture.specs.declared.fault.FrameFault.{FrameFault}
use Rattle.rohc_capture.specs.declared.fault.FrameFault.TheVariants as faults
use Rattle.rohc_capture.specs.declared.frame.Protocol.TheVariants.{Rohc}
use Rattle.rohc_capture.specs.declared.framing.Framing.{Framing}
use Rattle.rohc_capture.specs.Frame.{Inside, inside, network_in}

-- no other EtherType, no link type without headers, and nothing before a packet
abbrev pub usual : Framing
usual = record { ether_type = None; link_type = None; offset = 0 }

-- the number is there, and it is this one
abbrev pub is_number : ℕ → Option ℕ → Bool
is_number wanted None = false
is_number wanted (Some number) = number == wanted

-- a frame of the framing's link type is a ROHC packet from its first octet on
abbrev pub network_under : Framing → ℕ → List ℕ → Result Inside FrameFault
network_under framing link frame =
    if is_number link framing.link_type then Ok (inside None Rohc frame) else network_in link frame

-- the packet lies behind the first octets of what is carried for a link, if they are there
abbrev pub behind : ℕ → Option (ℕ × List ℕ) → Result (Option (ℕ × List ℕ)) FrameFault
behind offset None = Ok None
behind offset (Some (link, octets)) =
    if nat_le offset (length octets) then Ok (Some (link, drop offset octets)) else Err faults.Offset
