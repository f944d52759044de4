-- What a frame carries. Words: Load, load_of; carried_in.
use Rattle.std.specs.Prelude.{ℕ, List, Option, Result, Ok, Err, if◌then◌else◌}
use Rattle.rohc_capture.specs.declared.fault.FrameFault.{FrameFault}
use Rattle.rohc_capture.specs.declared.fault.FrameFault.TheVariants as faults
use Rattle.rohc_capture.specs.declared.frame.Protocol.{Protocol}
use Rattle.rohc_capture.specs.declared.frame.Protocol.TheVariants.{Rohc, Ipv4, EtherType, Other}
use Rattle.rohc_capture.specs.declared.carried.Carrier.{Carrier}
use Rattle.rohc_capture.specs.declared.carried.Carrier.TheVariants.{Link, Udp}
use Rattle.rohc_capture.specs.declared.carried.Carried.{Carried}
use Rattle.rohc_capture.specs.Octets.{◌>>=◌}
use Rattle.rohc_capture.specs.declared.framing.Framing.{Framing}
use Rattle.rohc_capture.specs.Framing.{is_number, network_under}
use Rattle.rohc_capture.specs.Udp.{datagram_in}

-- the octets that a frame carries, under which VLAN, and by what
pub record Load : Type 0 where
  pub vlan : Option ℕ
  pub carrier : Carrier
  pub octets : List ℕ

abbrev pub load_of : Carried → Load
load_of c = record { vlan = c.vlan; carrier = c.carrier; octets = c.octets.now }

-- a ROHC packet of the link itself, also by another EtherType, or the payload of a UDP datagram
abbrev pub carried_by : Option ℕ → Protocol → Option ℕ → List ℕ → Result Load FrameFault
carried_by other Rohc vlan octets = Ok (record { vlan = vlan; carrier = Link; octets = octets })
carried_by other (EtherType kind) vlan octets =
    if is_number kind other then Ok (record { vlan = vlan; carrier = Link; octets = octets })
    else Err faults.Protocol
carried_by other Ipv4 vlan octets = do
  datagram ← datagram_in octets
  Ok (record { vlan = vlan; carrier = Udp datagram.destination; octets = datagram.payload })
carried_by other Other vlan octets = Err faults.Protocol

unfoldable pub carried_in : Framing → ℕ → List ℕ → Result Load FrameFault
carried_in framing link frame = do
  inside ← network_under framing link frame
  carried_by framing.ether_type inside.protocol inside.vlan inside.octets
