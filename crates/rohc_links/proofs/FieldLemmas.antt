-- Whole numbers, members that may be missing, and names among those of two lists of keys.
use Rattle.std.proofs.Common.{◌≡◌, ℕ, Option, Some, None, List, refl, arith, pos, negsuc}
use Rattle.std.proofs.lemmas.Grind.{common_steps}
use Rattle.std.specs.Option.{option_and_then}
use Rattle.toml.specs.Data.{Data, integer, string, float, boolean, datetime, array, table, get_member, Members}
use Rattle.rohc_links.specs.Fields.{whole_number, field_at}

-- what is no whole number from 0 is none from 1
whole_number_above : (d : Data) (greatest : ℕ) → whole_number 0 greatest d ≡ None → whole_number 1 greatest d ≡ None
whole_number_above (integer (pos n)) greatest none = grind (arith, common_steps)
whole_number_above (integer (negsuc n)) greatest none = refl
whole_number_above (string s) greatest none = refl
whole_number_above (float x) greatest none = refl
whole_number_above (boolean b) greatest none = refl
whole_number_above (datetime t) greatest none = refl
whole_number_above (array ds) greatest none = refl
whole_number_above (table ms) greatest none = refl

above : (o : Option Data) (greatest : ℕ) → option_and_then (whole_number 0 greatest) o ≡ None → option_and_then (whole_number 1 greatest) o ≡ None
above None greatest none = refl
above (Some d) greatest none = whole_number_above d greatest none

-- a name without a whole number from 0 has none from 1
pub field_above : (greatest : ℕ) (name : List ℕ) (ms : Members) → field_at (whole_number 0 greatest) name ms ≡ None → field_at (whole_number 1 greatest) name ms ≡ None
field_above greatest name ms none = above (get_member name ms) greatest none
