-- Items as the code reads them, and as the definitions do.
use Rattle.std.specs.Prelude.{ℕ, List, Option, Some, None}
use Rattle.std.specs.Borrow.{Bor}
use Rattle.rohc_frame.specs.declared.items.Item.{Item}
use Rattle.rohc_frame.specs.declared.items.Item.TheVariants.{Padding, Element}
use Rattle.rohc_frame.specs.Items as lists

-- the data of an item of the code
abbrev pub contents_in : Item → Option (List ℕ)
contents_in Padding = None
contents_in (Element octets) = Some octets.now

-- an item of the code, if there is one, and the octets after it
abbrev pub split_in : Option (Item × Bor (List ℕ)) → Option (Option (List ℕ) × List ℕ)
split_in None = None
split_in (Some (item, behind)) = Some (contents_in item, behind.now)

-- the same for an item of the definitions
abbrev pub split_of : Option (lists.Item × List ℕ) → Option (Option (List ℕ) × List ℕ)
split_of None = None
split_of (Some (item, behind)) = Some (lists.contents item, behind)
