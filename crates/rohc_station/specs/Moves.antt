-- Links that are moved to another gateway, or from one. Words: holds, is_away, without a link; HoldsNone;
-- WaitsIn, KeepsIfHeld; HoldsBack.
use Rattle.std.specs.Prelude.{◌≡◌, ℕ, List, [], ◌==◌, not, filter, Bool, true, false, Option, Some, None}
use Rattle.std.specs.List.{list_any}
use Rattle.rohc_links.specs.Limits.{counted}
use Rattle.rohc_serve.specs.Datagram.{named_link}
use Rattle.rohc_station.specs.declared.held.Held.{Held}
use Rattle.rohc_station.specs.declared.moves.Moves.{Moves}
use Rattle.rohc_station.specs.Held.{HeldDatagram, held_in, KeepsHeld}

-- the link is held: its datagrams wait for its contexts
abbrev pub holds : Option Held → (link : ℕ) → Bool
holds None link = false
holds (Some h) link = h.link == link

-- the link was exported
abbrev pub is_away : Moves → (link : ℕ) → Bool
is_away m link = list_any (λ n. n == link) m.away.items

abbrev pub without : (link : ℕ) → List ℕ → List ℕ
without link links = filter (λ n. not (n == link)) links

-- a link is held, of which no datagram waits yet
abbrev pub HoldsNone : Option Held → (link : ℕ) → Type 0
HoldsNone None link = ⊥
HoldsNone (Some h) link = (h.link ≡ link) × (held_in h ≡ []) × (h.dropped ≡ 0)

-- a datagram waits behind the others of its link
abbrev pub WaitsIn : (old new : Option Held) → HeldDatagram → Type 0
WaitsIn None new d = ⊥
WaitsIn (Some old) None d = ⊥
WaitsIn (Some old) (Some new) d = KeepsHeld old new d

-- a datagram waits if its link is held
abbrev pub KeepsIfHeld : (is_held : Bool) → (old new : Moves) → HeldDatagram → (is_kept : Bool) → Type 0
KeepsIfHeld true old new d is_kept = WaitsIn old.held new.held d × (new.away ≡ old.away)
    × (new.dropped ≡ old.dropped) × (is_kept ≡ true)
KeepsIfHeld false old new d is_kept = (new ≡ old) × (is_kept ≡ false)

-- A datagram of a held link waits. One of an exported link is dropped, and counted. Any other isn't held
-- back.
abbrev pub HoldsBackIf : (is_held is_away : Bool) → (old new : Moves) → HeldDatagram → (is_back : Bool)
    → Type 0
HoldsBackIf true away old new d is_back = KeepsIfHeld true old new d is_back
HoldsBackIf false true old new d is_back =
    (new ≡ record old { dropped = counted old.dropped 1 }) × (is_back ≡ true)
HoldsBackIf false false old new d is_back = (new ≡ old) × (is_back ≡ false)

-- nor is one that names no link
abbrev pub HoldsBackOn : (link : Option ℕ) → (old new : Moves) → HeldDatagram → (is_back : Bool) → Type 0
HoldsBackOn None old new d is_back = (new ≡ old) × (is_back ≡ false)
HoldsBackOn (Some link) old new d is_back =
    HoldsBackIf (holds old.held link) (is_away old link) old new d is_back

abbrev pub HoldsBack : (old new : Moves) → HeldDatagram → (is_back : Bool) → Type 0
HoldsBack old new d is_back = HoldsBackOn (named_link d.octets) old new d is_back
