-- Numbers in the ranges of their fields.
use Rattle.std.specs.Prelude.{◌≡◌, ℕ, ◌<◌, ◌≤◌, List, length, All, Option, IfSome}
use Rattle.rohc_frame.specs.Laws.{IsOctet}
use Rattle.rohc_header.specs.declared.fields.Static.{Static}
use Rattle.rohc_header.specs.declared.fields.Dynamic.{Dynamic}
use Rattle.rohc_chain.specs.Packets.{IrContent, Plain, StaticOnly, Whole}

-- an address has four octets
pub record IsAddress (octets : List ℕ) : Type 0 where
  pub four : length octets ≡ 4
  pub each : All IsOctet octets

-- the numbers of a static chain
pub record IsGoodStatic (fixed : Static) : Type 0 where
  pub source : IsAddress fixed.source
  pub destination : IsAddress fixed.destination
  pub source_port : fixed.source_port < 65536
  pub destination_port : fixed.destination_port < 65536
  pub ssrc : fixed.ssrc < 4294967296

-- a stride, if there is one, is above 0 and has an encoding
abbrev pub IsGoodStride : Option ℕ → Type 0
IsGoodStride stride = IfSome stride (λ s. (1 ≤ s) × (s ≤ 536870911))

-- the numbers of a dynamic chain
pub record IsGoodDynamic (moving : Dynamic) : Type 0 where
  pub tos : moving.tos < 256
  pub ttl : moving.ttl < 256
  pub id : moving.id < 65536
  pub udp_sum : moving.udp_sum < 65536
  pub payload_type : moving.payload_type < 128
  pub sn : moving.sn < 65536
  pub ts : moving.ts < 4294967296
  pub stride : IsGoodStride moving.stride

-- the numbers of an IR
abbrev pub IsGoodContent : IrContent → Type 0
IsGoodContent (Plain packet) = All IsOctet packet
IsGoodContent (StaticOnly fixed) = IsGoodStatic fixed
IsGoodContent (Whole fixed moving payload) = IsGoodStatic fixed × IsGoodDynamic moving × All IsOctet payload
