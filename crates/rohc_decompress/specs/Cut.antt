-- Cutting a rebuilt packet at its IPv4 total length. Words: octet_at; total_of; kept; shown.
use Rattle.std.specs.Prelude.{ℕ, ◌+◌, ◌-◌, ◌*◌, ◌/◌, List, length, take, slice_get, nat_le, nat_lt, ◌==◌, ◌&&◌, Bool, true, false, Option, Some, None, if◌then◌else◌}

-- the octet at a place of a packet in two parts
abbrev pub octet_at : List ℕ → List ℕ → ℕ → Option ℕ
octet_at head payload place =
    if nat_lt place (length head) then slice_get head place else slice_get payload (place - length head)

-- a total length in two octets, if the version in the first octet is 4
abbrev pub total_in : Option ℕ → Option ℕ → Option ℕ → Option ℕ
total_in None high low = None
total_in (Some first) None low = None
total_in (Some first) (Some high) None = None
total_in (Some first) (Some high) (Some low) = if first / 16 == 4 then Some (high * 256 + low) else None

-- the IPv4 total length of a packet, if it has one
abbrev pub total_of : List ℕ → List ℕ → Option ℕ
total_of head payload = total_in (octet_at head payload 0) (octet_at head payload 2) (octet_at head payload 3)

-- how many octets of a payload are written behind a head, up to a total length that is at least a header's
abbrev pub kept : Option ℕ → ℕ → ℕ → ℕ
kept None head payload = payload
kept (Some total) head payload = if nat_le 20 total && nat_le head total then total - head else payload

-- the part of a payload that is written: all of it, unless padding is cut
abbrev pub shown : Bool → List ℕ → List ℕ → List ℕ
shown false head payload = payload
shown true head payload = take (kept (total_of head payload) (length head) (length payload)) payload
