-- The values in the tables of a links file. Words: whole_number, size, mode; field_at a name;
-- required_field, optional_field.
use Rattle.std.specs.Prelude.{ℕ, List, Bool, true, ◌&&◌, codes, nat_le, Option, Some, None, option_and_then, pos, if◌then◌else◌, Result, Ok}
use Rattle.std.specs.List.{list_any}
use Rattle.std.specs.Option.{ok_or, option_map, option_map_or}
use Rattle.std.specs.Str.{bytes_eq}
use Rattle.rohc_frame.specs.declared.header.CidKind.{CidKind}
use Rattle.rohc_frame.specs.declared.header.CidKind.TheVariants.{Small, Large}
use Rattle.rohc_context.specs.declared.settings.Mode.{Mode}
use Rattle.rohc_context.specs.declared.settings.Mode.TheVariants.{U, O}
use Rattle.toml.specs.Data.{Data, integer, string, Members, no_members, member, get_member}
use Rattle.rohc_links.specs.declared.fault.Key.{Key}
use Rattle.rohc_links.specs.Keys.{name_of}

-- a whole number from the least to the greatest
abbrev pub whole_number : ℕ → ℕ → Data → Option ℕ
whole_number least greatest (integer (pos n)) = if nat_le least n && nat_le n greatest then Some n else None
whole_number least greatest _ = None

-- a text that names a CID kind
abbrev pub size : Data → Option CidKind
size (string s) =
    if bytes_eq s (codes "small") then Some Small
    else if bytes_eq s (codes "large") then Some Large
    else None
size _ = None

-- a text that names a mode
abbrev pub mode : Data → Option Mode
mode (string s) = if bytes_eq s (codes "U") then Some U else if bytes_eq s (codes "O") then Some O else None
mode _ = None

-- the member of this name, if it is there and can be read
abbrev pub field_at : {A : Type 0} → (Data → Option A) → List ℕ → Members → Option A
field_at read name ms = option_and_then read (get_member name ms)

-- the member at this key, else the key, which is missing or wrong
abbrev pub required_field : {A : Type 0} → (Data → Option A) → Key → Members → Result A Key
required_field read key ms = ok_or (field_at read (name_of key) ms) key

-- the member at a key that may be missing, else the key, which is wrong
abbrev pub optional_field : {A : Type 0} → (Data → Option A) → Key → Members → Result (Option A) Key
optional_field {A} read key ms =
    option_map_or (λ d. ok_or (option_map Some (read d)) key) (get_member (name_of key) ms) (Ok None)

-- the name is one of the names
abbrev pub is_among : List (List ℕ) → List ℕ → Bool
is_among names name = list_any (λ n. bytes_eq n name) names

-- each member's name is one of the names
abbrev pub has_only : List (List ℕ) → Members → Bool
has_only names no_members = true
has_only names (member name d ms) = is_among names name && has_only names ms
