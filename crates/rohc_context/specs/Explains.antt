-- The header that a packet means against a reference (RFC 3095 4.5, 5.7).
-- Words: Explained, AgreesInTs, AgreesInId, Means, Explains.
use Rattle.std.specs.Prelude.{◌≡◌, ℕ, ◌<◌, ◌^◌, List, length, Bool, true, false, Option, Some, None, unwrap_or, ℤ}
use Rattle.rohc_bits.specs.LowBits.{LowBits}
use Rattle.rohc_lsb.specs.Fields.{AgreesInSn, AgreesWithoutBits, AgreesByScaledBits, AgreesByUnscaledBits, offset_of, AgreesInOffset}
use Rattle.rohc_header.specs.declared.fields.Static.{Static}
use Rattle.rohc_header.specs.declared.fields.Dynamic.{Dynamic}
use Rattle.rohc_header.specs.Original.{IsOriginal}
use Rattle.rohc_forms.specs.Content.{Content, IdSaid, Same, Offset, Whole}
use Rattle.rohc_context.specs.InForce.{in_force}
use Rattle.rohc_context.specs.Record.{Reference}

-- A header: its fields, with the RND, NBO and stride in force, and its forty octets.
pub record Explained : Type 0 where
  pub moving : Dynamic
  pub octets : List ℕ

-- The stride by which bits of a timestamp are scaled, if they are. Tsc of an extension 3 decides; without an
-- extension 3 they are scaled if there is a stride.
abbrev pub scale : (tsc : Option Bool) → (stride : Option ℕ) → Option ℕ
scale None stride = stride
scale (Some true) stride = stride
scale (Some false) stride = None

abbrev pub AgreesByBits : (reference : ℕ) (scale : Option ℕ) (bits : LowBits) (ts : ℕ) → Type 0
AgreesByBits reference None bits ts = AgreesByUnscaledBits reference bits ts
AgreesByBits reference (Some stride) bits ts = AgreesByScaledBits reference stride bits ts

-- the timestamp agrees with the reference's, the stride in force, the steps of the sequence number and the
-- bits
abbrev pub AgreesInTs : (reference : ℕ) (stride : Option ℕ) (steps : ℤ) (tsc : Option Bool)
    (bits : Option LowBits) (ts : ℕ) → Type 0
AgreesInTs reference stride steps tsc None ts = AgreesWithoutBits reference stride steps ts
AgreesInTs reference stride steps tsc (Some bits) ts = AgreesByBits reference (scale tsc stride) bits ts

-- the Identification is the packet's, or its offset agrees with the reference's offset under the NBO in force
abbrev pub AgreesInId : (nbo : Bool) (reference : Dynamic) (said : IdSaid) (sn id : ℕ) → Type 0
AgreesInId nbo reference (Whole whole) sn id = id ≡ whole
AgreesInId nbo reference Same sn id =
    (id < 2 ^ 16) × AgreesInOffset (offset_of nbo reference.sn reference.id) None (offset_of nbo sn id)
AgreesInId nbo reference (Offset bits) sn id =
    (id < 2 ^ 16) × AgreesInOffset (offset_of nbo reference.sn reference.id) (Some bits) (offset_of nbo sn id)

-- Against a reference whose SN is moved on by a shift, the packet means a header with these fields. The SN is
-- the one that its bits mean. The steps count from the reference's own SN. The UDP checksum and the marker
-- are the packet's. The other fields are those in force.
pub record Means (reference : Reference) (shift : ℕ) (c : Content) (moving : Dynamic) : Type 0 where
  pub steps : ℤ
  pub sn : AgreesInSn reference.moving.sn shift c.sn moving.sn steps
  pub ts : AgreesInTs reference.moving.ts (in_force reference.moving c.values).stride steps c.tsc c.ts
      moving.ts
  pub id : AgreesInId (in_force reference.moving c.values).nbo reference.moving c.id moving.sn moving.id
  pub whole : moving ≡ record (in_force reference.moving c.values) {
    sn = moving.sn;
    ts = moving.ts;
    id = moving.id;
    udp_sum = unwrap_or c.udp_sum 0;
    marker = c.marker;
  }

-- the packet means this header: the original header of those fields and of the packet's payload
pub record Explains (fixed : Static) (reference : Reference) (shift : ℕ) (c : Content) (h : Explained) : Type
    0 where
  pub fields : Means reference shift c h.moving
  pub octets : IsOriginal fixed h.moving (length c.payload) h.octets
