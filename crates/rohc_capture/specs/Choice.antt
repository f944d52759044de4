-- Which link a frame belongs to. Words: by_number; by_rule; chosen; packet_in.
use Rattle.std.specs.Prelude.{ℕ, ◌+◌, ◌*◌, List, [], ◌∷◌, length, ◌==◌, nat_le, Bool, true, false, Option, Some, None, Result}
use Rattle.rohc_capture.specs.declared.fault.FrameFault.{FrameFault}
use Rattle.rohc_capture.specs.declared.fault.FrameFault.TheVariants.{NotWhole}
use Rattle.rohc_capture.specs.declared.carried.Carrier.{Carrier}
use Rattle.rohc_capture.specs.declared.carried.Carrier.TheVariants.{Link, Udp}
use Rattle.rohc_capture.specs.declared.choice.Rule.{Rule}
use Rattle.rohc_capture.specs.declared.choice.Rule.TheVariants as rules
use Rattle.rohc_capture.specs.Octets.{◌>>=◌, given}
use Rattle.rohc_capture.specs.declared.framing.Framing.{Framing}
use Rattle.rohc_capture.specs.Framing.{is_number, behind}
use Rattle.rohc_capture.specs.Carried.{Load, carried_in}

-- the packet, if the test holds
abbrev pub belonging : Bool → ℕ → List ℕ → Option (ℕ × List ℕ)
belonging true link octets = Some (link, octets)
belonging false link octets = None

-- the link in the first two octets, most significant first, and the packet after it
abbrev pub by_number : Bool → List ℕ → Option (ℕ × List ℕ)
by_number true (high ∷ low ∷ packet) = Some (high * 256 + low, packet)
by_number true (high ∷ []) = None
by_number true [] = None
by_number false octets = None

-- the link and the packet by one rule, if it speaks of such a frame
abbrev pub by_rule : Rule → Option ℕ → Carrier → List ℕ → Option (ℕ × List ℕ)
by_rule (rules.Every link) vlan Link octets = Some (link, octets)
by_rule (rules.Every link) vlan (Udp port) octets = None
by_rule (rules.Vlan number link) vlan Link octets = belonging (is_number number vlan) link octets
by_rule (rules.Vlan number link) vlan (Udp port) octets = None
by_rule (rules.Port wanted link) vlan Link octets = None
by_rule (rules.Port wanted link) vlan (Udp port) octets = belonging (port == wanted) link octets
by_rule (rules.Numbered wanted) vlan Link octets = None
by_rule (rules.Numbered wanted) vlan (Udp port) octets = by_number (port == wanted) octets

-- the first, if there is one, else the second
abbrev pub first_of : Option (ℕ × List ℕ) → Option (ℕ × List ℕ) → Option (ℕ × List ℕ)
first_of (Some x) other = Some x
first_of None other = other

-- by the first rule that speaks of it
abbrev pub chosen : List Rule → Load → Option (ℕ × List ℕ)
chosen [] load = None
chosen (rule ∷ more) load = first_of (by_rule rule load.vlan load.carrier load.octets) (chosen more load)

-- the link and the packet of a frame, by its link type and how many octets it had: none if no rule speaks of
-- it
unfoldable pub packet_in : List Rule → Framing → ℕ → ℕ → List ℕ → Result (Option (ℕ × List ℕ)) FrameFault
packet_in rules framing link original frame = do
  frame ← given (nat_le original (length frame)) NotWhole frame
  load ← carried_in framing link frame
  behind framing.offset (chosen rules load)
