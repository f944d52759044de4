-- What is kept beside a reference: the registers after the static octets of headers with its fields (RFC 3095
-- 5.9.2).
-- Words: register, AreRegisters, IsKept.
use Rattle.std.specs.Prelude.{◌≡◌, ℕ, List, Bool, false}
use Rattle.rohc_checks.specs.Division.{check, poly3, poly7}
use Rattle.rohc_header.specs.declared.fields.Static.{Static}
use Rattle.rohc_header.specs.declared.fields.Dynamic.{Dynamic}
use Rattle.rohc_header.specs.Check.{all_ones}
use Rattle.rohc_header.specs.Laws.{static_fields}
use Rattle.rohc_chain.specs.Good.{IsGoodDynamic}

-- the register of a check after the static octets of a header with these fields
unfoldable pub register : (poly : List Bool) → Static → Dynamic → ℕ
register poly fixed moving = check poly (all_ones poly) (static_fields fixed moving)

-- the registers of the 3-bit and the 7-bit check
pub record AreRegisters (fixed : Static) (moving : Dynamic) (saved : ℕ × ℕ) : Type 0 where
  pub three : saved.0 ≡ register poly3 fixed moving
  pub seven : saved.1 ≡ register poly7 fixed moving

-- good fields without a marker, and their registers
pub record IsKept (fixed : Static) (moving : Dynamic) (saved : ℕ × ℕ) : Type 0 where
  pub good : IsGoodDynamic moving
  pub unmarked : moving.marker ≡ false
  pub registers : AreRegisters fixed moving saved
