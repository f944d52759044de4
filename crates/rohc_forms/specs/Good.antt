-- The ranges of what a packet of kind Other says.
use Rattle.std.specs.Prelude.{◌≡◌, ◌↔◌, ℕ, ◌<◌, ◌≤◌, ◌^◌, All, Bool, true, ◌||◌, is_some, Some, IfSome}
use Rattle.rohc_bits.specs.LowBits.{LowBits}
use Rattle.rohc_frame.specs.Laws.{IsOctet}
use Rattle.rohc_forms.specs.Given.{ValuesSaid}
use Rattle.rohc_forms.specs.Kinds.{is_uor2, check_width}
use Rattle.rohc_forms.specs.Content.{Content, offset_said, whole_said, stride_given}

-- At least this many bits and at most that many, and the number that they stand for.
pub record IsBits (least most : ℕ) (bits : LowBits) : Type 0 where
  pub some : least ≤ bits.count
  pub narrow : bits.count ≤ most
  pub fits : bits.value < 2 ^ bits.count

-- The values of an extension 3.
pub record IsGoodValues (values : ValuesSaid) : Type 0 where
  pub tos : IfSome values.tos (λ tos. tos < 256)
  pub ttl : IfSome values.ttl (λ ttl. ttl < 256)
  pub payload_type : IfSome values.payload_type (λ payload_type. payload_type < 128)
  pub stride : IfSome values.stride (λ stride. (1 ≤ stride) × (stride ≤ 536870911))

-- The content of a packet with this first octet. `udp_sum` says whether packets carry the UDP checksum,
-- `stride_known` whether a stride is known.
pub record IsGoodContent (first : ℕ) (udp_sum stride_known : Bool) (c : Content) : Type 0 where
  pub kind : (is_uor2 c.kind ≡ true) ↔ (0xc0 ≤ first)
  pub sn : IsBits 1 16 c.sn
  pub ts : IfSome c.ts (IsBits 2 32)
  pub scaled : c.tsc ≡ Some true → (stride_known || is_some (stride_given c.values)) ≡ true
  pub offset : IfSome (offset_said c.id) (IsBits 1 16)
  pub whole : IfSome (whole_said c.id) (λ id. id < 65536)
  pub random : is_some (whole_said c.id) ≡ c.rnd
  pub sum : IfSome c.udp_sum (λ sum. sum < 65536)
  pub carried : is_some c.udp_sum ≡ udp_sum
  pub values : IfSome c.values IsGoodValues
  pub check : c.check < 2 ^ check_width c.kind
  pub payload : All IsOctet c.payload
