-- The ranges of CIDs that have a mode of their own. Words: range, ranges.
use Rattle.std.specs.Prelude.{ℕ, List, [], ◌∷◌, length, codes, nat_le, Option, Some, None, option_and_then, if◌then◌else◌}
use Rattle.arrayvec.specs.ArrayVec.{ArrayVec}
use Rattle.rohc_concentrator.specs.declared.setting.CidRange.{CidRange}
use Rattle.toml.specs.Data.{Data, array, table, Items, no_items, item}
use Rattle.rohc_links.specs.Fields.{whole_number, mode, field_at, has_only}

infixl 10 ◌>>=◌
abbrev ◌>>=◌ : {A B : Type 0} → Option A → (A → Option B) → Option B
o >>= f = option_and_then f o

-- what all items of an array hold, if each can be read
abbrev pub read_each : {A : Type 0} → (Data → Option A) → Items → Option (List A)
read_each read no_items = Some []
read_each read (item d ds) = do
  first ← read d
  others ← read_each read ds
  Some (first ∷ others)

-- a table with exactly the keys first, last and mode
abbrev pub range : Data → Option CidRange
range (table ms) = if has_only (codes "first" ∷ codes "last" ∷ codes "mode" ∷ []) ms then (do
  first ← field_at (whole_number 0 65535) (codes "first") ms
  last ← field_at (whole_number 0 65535) (codes "last") ms
  mode ← field_at mode (codes "mode") ms
  Some (record { first = first; last = last; mode = mode })) else None
range _ = None

-- these ranges, if there are at most n
abbrev pub at_most : ℕ → List CidRange → Option (ArrayVec CidRange)
at_most n all = if nat_le (length all) n then Some (record { items = all }) else None

-- an array of at most 8 ranges
abbrev pub ranges : Data → Option (ArrayVec CidRange)
ranges (array ds) = read_each range ds >>= at_most 8
ranges _ = None
