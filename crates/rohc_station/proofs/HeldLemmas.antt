-- A datagram that is put behind others leaves those as they are.
use Rattle.std.proofs.Common.{◌≡◌, ℕ, ◌+◌, ◌-◌, ◌≤◌, ◌<◌, get_or, List, [], ◌∷◌, ◌++◌, length, map, take, drop, All, ap, ◌∙◌, arith}
use Rattle.std.specs.List.{slice_range}
use Rattle.std.proofs.lemmas.List.{drop-append-le, take-append-le, length-drop, length-map, drop_at, drop_more, get_or-map, take_all}
use Rattle.std.proofs.lemmas.List.Elements.{All-head, All-tail}
use Rattle.rohc_station.specs.declared.held.Mark.{Mark}
use Rattle.rohc_station.specs.Held.{HeldDatagram, held_at}

same_part : (xs ys : List ℕ) (a b : ℕ) → a ≤ b → b ≤ length xs → slice_range (xs ++ ys) a b ≡ slice_range xs a b
same_part xs ys a b ordered within =
    ap (take (b - a)) (drop-append-le a xs ys (omega arith)) ∙ take-append-le (b - a) (drop a xs) ys (omega (arith, length-drop a xs))

part_behind : (xs ys : List ℕ) (a b : ℕ) → length xs ≡ a → b ≡ a + length ys → slice_range (xs ++ ys) a b ≡ ys
part_behind xs ys a b at end = ap (take (b - a)) (drop_at xs ys a at) ∙ take_all (b - a) ys (omega arith)

-- the parts that a mark can show among these octets
abbrev pub IsWithin : List ℕ → Mark → Type 0
IsWithin xs m = (m.start ≤ m.end) × (m.end ≤ length xs)

abbrev pub showing : Mark → List ℕ → HeldDatagram
showing m octets = record { moment = m.moment; is_timed = m.is_timed; octets = octets }

pub put_behind : (xs ys : List ℕ) (ms : List Mark) (m : Mark) → All (IsWithin xs) ms → length xs ≡ m.start → m.end ≡ m.start + length ys →
    map (held_at (xs ++ ys)) (ms ++ m ∷ []) ≡ map (held_at xs) ms ++ showing m ys ∷ []
put_behind xs ys [] m all at end = ap (λ o. showing m o ∷ []) (part_behind xs ys m.start m.end at end)
put_behind xs ys (n ∷ ms) m all at end =
    let is = All-head (IsWithin xs) n ms all in
    let first : held_at (xs ++ ys) n ≡ held_at xs n = ap (showing n) (same_part xs ys n.start n.end is.0 is.1) in
    ap (λ d. d ∷ map (held_at (xs ++ ys)) (ms ++ m ∷ [])) first
    ∙ ap (λ ds. held_at xs n ∷ ds) (put_behind xs ys ms m (All-tail (IsWithin xs) n ms all) at end)

-- the next that waits, and those behind it
pub next_held : (octets : List ℕ) (ms : List Mark) (i : ℕ) (d : Mark) → i < length ms →
    drop i (map (held_at octets) ms) ≡ held_at octets (get_or ms i d) ∷ drop (i + 1) (map (held_at octets) ms)
next_held octets ms i d below =
    drop_more (map (held_at octets) ms) i (held_at octets d) (omega (arith, length-map ms (held_at octets)))
    ∙ ap (λ h. h ∷ drop (i + 1) (map (held_at octets) ms)) (get_or-map (held_at octets) ms i d (held_at octets d) below)
