-- Items, which may precede a header: their octets, and the longest list of them.
use Rattle.std.specs.Prelude.{ℕ, zero, suc, ◌+◌, ◌-◌, ◌≤◌, List, [], ◌∷◌, length, take, drop, Option, Some, None, ◌==◌, nat_le, if◌then◌else◌}
use Rattle.std.specs.List.{flat_map, filter_map}
use Rattle.std.specs.Option.{option_map_or}
use Rattle.rohc_frame.specs.Header.{is_within}

-- What may precede a header: a padding octet, or a feedback element. The Code of its type octet gives the
-- length of its data; if Code is 0, a Size octet gives it (RFC 5795 5.2).
pub data Item : Type 0 where
  Padding : Item
  Coded : List ℕ → Item
  Sized : List ℕ → Item

-- a Code is 1 to 7
abbrev pub IsItem : Item → Type 0
IsItem Padding = Unit {0}
IsItem (Coded octets) = (1 ≤ length octets) × (length octets ≤ 7)
IsItem (Sized octets) = Unit {0}

-- an item's octets
abbrev pub spelled : Item → List ℕ
spelled Padding = 0xe0 ∷ []
spelled (Coded octets) = (0xf0 + length octets) ∷ octets
spelled (Sized octets) = 0xf0 ∷ length octets ∷ octets

-- the octets of items, one after the other
abbrev pub all_spelled : List Item → List ℕ
all_spelled items = flat_map spelled items

-- the data of a feedback element
abbrev pub contents : Item → Option (List ℕ)
contents Padding = None
contents (Coded octets) = Some octets
contents (Sized octets) = Some octets

-- the data of the elements, in order
abbrev pub all_contents : List Item → List (List ℕ)
all_contents items = filter_map contents items

-- an element with a Size octet: as much data as it gives, and the octets after it
abbrev pub sized : List ℕ → Option (Item × List ℕ)
sized [] = None
sized (size ∷ octets) =
    if nat_le size (length octets) then Some (Sized (take size octets), drop size octets)
    else None

-- an element with as much data as this Code gives, and the octets after it
abbrev pub coded : ℕ → List ℕ → Option (Item × List ℕ)
coded code octets =
    if nat_le code (length octets) then Some (Coded (take code octets), drop code octets)
    else None

-- the item at the start of the octets, if a whole one stands there, and the octets after it
unfoldable pub first_item : List ℕ → Option (Item × List ℕ)
first_item [] = None
first_item (octet ∷ octets) =
    if octet == 0xe0 then Some (Padding, octets)
    else if octet == 0xf0 then sized octets
    else if is_within 0xf1 0xf7 octet then coded (octet - 0xf0) octets
    else None

-- the items at the start of the octets, at most n
unfoldable pub items_up_to : ℕ → List ℕ → List Item
items_up_to zero octets = []
items_up_to (suc n) octets = option_map_or (λ (item, rest). item ∷ items_up_to n rest) (first_item octets) []

-- the longest list of items at the start of the octets; each item has at least one octet
unfoldable pub longest_items : List ℕ → List Item
longest_items octets = items_up_to (length octets) octets

-- the data of its elements, in order
unfoldable pub elements_in : List ℕ → List (List ℕ)
elements_in octets = all_contents (longest_items octets)

-- the octets after it
unfoldable pub after_items : List ℕ → List ℕ
after_items octets = drop (length (all_spelled (longest_items octets))) octets
