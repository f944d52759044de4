-- Datagrams that wait until the contexts of their link come. Words: HeldDatagram, came; held_at, held_in;
-- has_room, KeepsIf, KeepsHeld.
use Rattle.std.specs.Prelude.{◌≡◌, ℕ, ◌+◌, List, [], ◌∷◌, ◌++◌, length, map, Bool, true, false, nat_lt, nat_le, ◌&&◌, vec_len}
use Rattle.std.specs.List.{slice_range}
use Rattle.rohc_links.specs.Limits.{counted}
use Rattle.rohc_station.specs.declared.held.Mark.{Mark}
use Rattle.rohc_station.specs.declared.held.Held.{Held}

-- a datagram of either form, with the moment at which it came
pub record HeldDatagram : Type 0 where
  pub moment : ℕ
  pub is_timed : Bool
  pub octets : List ℕ

abbrev pub came : (moment : ℕ) → (is_timed : Bool) → List ℕ → HeldDatagram
came moment is_timed octets = record { moment = moment; is_timed = is_timed; octets = octets }

-- the one that a mark shows among the octets of all
abbrev pub held_at : List ℕ → Mark → HeldDatagram
held_at octets m =
    record { moment = m.moment; is_timed = m.is_timed; octets = slice_range octets m.start m.end }

-- all that wait, in the order in which they came
abbrev pub held_in : Held → List HeldDatagram
held_in h = map (held_at h.octets.items) h.marks.items

-- there is room for one more of this size: at most 16,384 wait, of 4 MiB together
abbrev pub has_room : (size : ℕ) → Held → Bool
has_room size h = nat_lt (vec_len h.marks) 16384 && nat_le (vec_len h.octets + size) 4194304

-- One more waits behind the others if there is room for it. Otherwise it is dropped, and counted.
abbrev pub KeepsIf : (has_room : Bool) → Held → HeldDatagram → Held → Type 0
KeepsIf true old d new = (held_in new ≡ held_in old ++ d ∷ []) × (new.dropped ≡ old.dropped)
KeepsIf false old d new = (held_in new ≡ held_in old) × (new.dropped ≡ counted old.dropped 1)

pub record KeepsHeld (old new : Held) (d : HeldDatagram) : Type 0 where
  pub list : KeepsIf (has_room (length d.octets) old) old d new
  pub link : new.link ≡ old.link
