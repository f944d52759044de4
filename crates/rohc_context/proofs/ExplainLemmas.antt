-- A packet means exactly one header against a reference and a shift.
use Rattle.std.proofs.Common.{◌≡◌, ℕ, ◌<◌, ◌≤◌, ◌^◌, Bool, List, ◌++◌, length, Option, Some, None, IfSome, refl, sym, ap, subst, ◌∙◌, arith, ℤ, length-append}
use Rattle.std.specs.Prelude.{unwrap_or}
use Rattle.rohc_bits.specs.LowBits.{LowBits}
use Rattle.rohc_lsb.specs.Interval.{ExactlyOne}
use Rattle.rohc_lsb.specs.Fields.{AgreesInSn}
use Rattle.rohc_lsb.proofs.Meant.{modulo_below}
use Rattle.rohc_lsb.proofs.Once.{one_sn, one_timestamp, one_identification}
use Rattle.rohc_header.specs.declared.fields.Static.{Static}
use Rattle.rohc_header.specs.declared.fields.Dynamic.{Dynamic}
use Rattle.rohc_header.specs.Original.{IsOriginal, ip_part, ip_sum, addresses, udp_part, rtp_part}
use Rattle.rohc_chain.specs.Good.{IsGoodStatic, IsGoodDynamic, IsGoodStride}
use Rattle.rohc_forms.specs.Given.{ValuesSaid}
use Rattle.rohc_forms.specs.Good.{IsGoodContent, IsGoodValues, IsBits}
use Rattle.rohc_forms.specs.Content.{Content, IdSaid, Same, Offset, Whole, offset_said, whole_said}
use Rattle.rohc_context.specs.InForce.{in_force, given_stride}
use Rattle.rohc_context.specs.Record.{Reference}
use Rattle.rohc_context.specs.Explains.{Explained, scale, AgreesByBits, AgreesInTs, AgreesInId, Means, Explains}

-- if exactly one value has P, two values with P are equal
once : {A : Type 0} (P : A → Type 0) (x y : A) → ExactlyOne P → P x → P y → x ≡ y
once P x y one px py = one.2 x px ∙ sym (one.2 y py)

-- ---- The timestamp

by_bits_once : (reference : ℕ) (stride : Option ℕ) (bits : LowBits) → bits.value < 2 ^ bits.count → ExactlyOne (AgreesByBits reference stride bits)
by_bits_once reference None bits fits = one_timestamp.unscaled reference bits fits
by_bits_once reference (Some stride) bits fits = one_timestamp.scaled reference stride bits fits

ts_once : (reference : ℕ) (stride : Option ℕ) (steps : ℤ) (tsc : Option Bool) (bits : Option LowBits) → IfSome bits (IsBits 2 32)
    → ExactlyOne (AgreesInTs reference stride steps tsc bits)
ts_once reference stride steps tsc None good = one_timestamp.without_bits reference stride steps
ts_once reference stride steps tsc (Some bits) good = by_bits_once reference (scale tsc stride) bits good.fits

-- ---- The Identification

whole_once : (whole : ℕ) → ExactlyOne (λ id. id ≡ whole)
whole_once whole = (whole, refl, λ other e. e)

-- what is said of the Identification is in its ranges
abbrev SaysGoodId : IdSaid → Type 0
SaysGoodId Same = Unit {0}
SaysGoodId (Offset bits) = IsBits 1 16 bits
SaysGoodId (Whole id) = id < 65536

says_good_id : (first : ℕ) (udp_sum stride_known : Bool) (c : Content) → IsGoodContent first udp_sum stride_known c → (said : IdSaid) → c.id ≡ said → SaysGoodId said
says_good_id first udp_sum stride_known c good Same e = tt
says_good_id first udp_sum stride_known c good (Offset bits) e = subst (λ x. IfSome (offset_said x) (IsBits 1 16)) e good.offset
says_good_id first udp_sum stride_known c good (Whole id) e = subst (λ x. IfSome (whole_said x) (λ id. id < 65536)) e good.whole

id_once : (nbo : Bool) (reference : Dynamic) (said : IdSaid) (sn : ℕ) → SaysGoodId said → ExactlyOne (AgreesInId nbo reference said sn)
id_once nbo reference Same sn good = one_identification nbo reference.sn reference.id sn None tt
id_once nbo reference (Offset bits) sn good = one_identification nbo reference.sn reference.id sn (Some bits) good.fits
id_once nbo reference (Whole whole) sn good = whole_once whole

-- ---- All fields

-- a header's fields from those that bits mean
abbrev fields : Reference → Content → ℕ → ℕ → ℕ → Dynamic
fields r c sn ts id = record (in_force r.moving c.values) { sn = sn; ts = ts; id = id; udp_sum = unwrap_or c.udp_sum 0; marker = c.marker }

pub means_some : (first : ℕ) (udp_sum stride_known : Bool) (r : Reference) (shift : ℕ) (c : Content) → IsGoodContent first udp_sum stride_known c
    → (moving : Dynamic) × Means r shift c moving
means_some first udp_sum stride_known r shift c good =
    let sn = one_sn r.moving.sn shift c.sn good.sn.fits in
    let ts = ts_once r.moving.ts (in_force r.moving c.values).stride sn.0.1 c.tsc c.ts good.ts in
    let id = id_once (in_force r.moving c.values).nbo r.moving c.id sn.0.0 (says_good_id first udp_sum stride_known c good c.id refl) in (
      fields r c sn.0.0 ts.0 id.0,
      record {
        steps = sn.0.1;
        sn = sn.1;
        ts = ts.1;
        id = id.1;
        whole = refl;
      },
    )

pub means_one : (first : ℕ) (udp_sum stride_known : Bool) (r : Reference) (shift : ℕ) (c : Content) (a b : Dynamic) → IsGoodContent first udp_sum stride_known c
    → Means r shift c a → Means r shift c b → a ≡ b
means_one first udp_sum stride_known r shift c a b good p q =
    let numbers : (a.sn, p.steps) ≡ (b.sn, q.steps) =
    once (λ (number : ℕ × ℤ). AgreesInSn r.moving.sn shift c.sn number.0 number.1) (a.sn, p.steps) (b.sn, q.steps) (one_sn r.moving.sn shift c.sn good.sn.fits) p.sn q.sn in
    let sn : a.sn ≡ b.sn = ap (λ (number : ℕ × ℤ). number.0) numbers in
    let steps : p.steps ≡ q.steps = ap (λ (number : ℕ × ℤ). number.1) numbers in
    let stride = (in_force r.moving c.values).stride in
    let nbo = (in_force r.moving c.values).nbo in
    let ts : a.ts ≡ b.ts = once (AgreesInTs r.moving.ts stride q.steps c.tsc c.ts) a.ts b.ts (ts_once r.moving.ts stride q.steps c.tsc c.ts good.ts)
    (subst (λ n. AgreesInTs r.moving.ts stride n c.tsc c.ts a.ts) steps p.ts) q.ts in
    let id : a.id ≡ b.id = once (AgreesInId nbo r.moving c.id b.sn) a.id b.id (id_once nbo r.moving c.id b.sn (says_good_id first udp_sum stride_known c good c.id refl))
    (subst (λ n. AgreesInId nbo r.moving c.id n a.id) sn p.id) q.id in
    p.whole ∙ ap (λ n. fields r c n a.ts a.id) sn ∙ ap (λ n. fields r c b.sn n a.id) ts ∙ ap (λ n. fields r c b.sn b.ts n) id
    ∙ sym q.whole

-- ---- The whole header

-- fields and a payload that a packet can hold have a header
pub original_some : (fixed : Static) (moving : Dynamic) (len : ℕ) → IsGoodStatic fixed → len ≤ 65495 → (octets : List ℕ) × IsOriginal fixed moving len octets
original_some fixed moving len good fits =
    let sum = ip_sum fixed moving len in
    let octets = ip_part fixed moving len sum ++ udp_part fixed moving len ++ rtp_part fixed moving in
    let udp : length (udp_part fixed moving len) ≡ 8 = refl in
    let rtp : length (rtp_part fixed moving) ≡ 12 = refl in
    let forty : length octets ≡ 40 = omega (
      arith,
      length-append (addresses fixed ++ udp_part fixed moving len) (rtp_part fixed moving),
      length-append (addresses fixed) (udp_part fixed moving len),
      length-append fixed.source fixed.destination,
      good.source.four,
      good.destination.four,
      udp,
      rtp,
    ) in
    (octets, record { checksum = sum; fits = fits; forty = forty; summed = refl; whole = refl })

pub original_one : (fixed : Static) (moving : Dynamic) (len : ℕ) (a b : List ℕ) → IsOriginal fixed moving len a → IsOriginal fixed moving len b → a ≡ b
original_one fixed moving len a b p q =
    p.whole ∙ ap (λ sum. ip_part fixed moving len sum ++ udp_part fixed moving len ++ rtp_part fixed moving) (p.summed ∙ sym q.summed) ∙ sym q.whole

pub explains_some : (first : ℕ) (udp_sum stride_known : Bool) (fixed : Static) (r : Reference) (shift : ℕ) (c : Content) → IsGoodStatic fixed
    → IsGoodContent first udp_sum stride_known c → length c.payload ≤ 65495 → (h : Explained) × Explains fixed r shift c h
explains_some first udp_sum stride_known fixed r shift c fixed_good good few =
    let (moving, means) = means_some first udp_sum stride_known r shift c good in
    let (octets, is) = original_some fixed moving (length c.payload) fixed_good few in
    (record { moving = moving; octets = octets }, record { fields = means; octets = is })

pub explains_one : (first : ℕ) (udp_sum stride_known : Bool) (fixed : Static) (r : Reference) (shift : ℕ) (c : Content) (a b : Explained)
    → IsGoodContent first udp_sum stride_known c → Explains fixed r shift c a → Explains fixed r shift c b → a ≡ b
explains_one first udp_sum stride_known fixed r shift c a b good p q =
    let moving : a.moving ≡ b.moving = means_one first udp_sum stride_known r shift c a.moving b.moving good p.fields q.fields in
    let octets : a.octets ≡ b.octets = original_one fixed b.moving (length c.payload) a.octets b.octets
    (subst (λ m. IsOriginal fixed m (length c.payload) a.octets) moving p.octets) q.octets in
    ap (λ m. record { moving = m; octets = a.octets }) moving ∙ ap (λ o. record { moving = b.moving; octets = o }) octets

-- ---- Its fields are good

ts_good : (reference : ℕ) (stride : Option ℕ) (steps : ℤ) (tsc : Option Bool) (bits : Option LowBits) (ts : ℕ) → reference < 2 ^ 32
    → AgreesInTs reference stride steps tsc bits ts → ts < 2 ^ 32
ts_good reference None steps tsc None ts small e = rw e small
ts_good reference (Some stride) steps tsc None ts small e = rw e (modulo_below _ (2 ^ 32) (omega arith))
ts_good reference stride steps tsc (Some bits) ts small agrees = by_bits_good reference (scale tsc stride) bits ts agrees where
  by_bits_good : (reference : ℕ) (stride : Option ℕ) (bits : LowBits) (ts : ℕ) → AgreesByBits reference stride bits ts → ts < 2 ^ 32
  by_bits_good reference None bits ts (v, lies, e) = rw e (modulo_below v (2 ^ 32) (omega arith))
  by_bits_good reference (Some stride) bits ts (v, lies, e) = rw e (modulo_below _ (2 ^ 32) (omega arith))

id_good : (nbo : Bool) (reference : Dynamic) (said : IdSaid) (sn id : ℕ) → SaysGoodId said → AgreesInId nbo reference said sn id → id < 65536
id_good nbo reference Same sn id good agrees = agrees.0
id_good nbo reference (Offset bits) sn id good agrees = agrees.0
id_good nbo reference (Whole whole) sn id good e = rw e good

-- a value that is given or kept
given_below : (given : Option ℕ) (kept bound : ℕ) → IfSome given (λ n. n < bound) → kept < bound → unwrap_or given kept < bound
given_below None kept bound good small = small
given_below (Some n) kept bound good small = good

given_stride_good : (given kept : Option ℕ) → IfSome given (λ n. (1 ≤ n) × (n ≤ 536870911)) → IsGoodStride kept → IsGoodStride (given_stride given kept)
given_stride_good None kept good small = small
given_stride_good (Some n) kept good small = good

in_force_good : (kept : Dynamic) (values : Option ValuesSaid) → IsGoodDynamic kept → IfSome values IsGoodValues → IsGoodDynamic (in_force kept values)
in_force_good kept None good given = good
in_force_good kept (Some v) good given = record {
  tos = given_below v.tos kept.tos 256 given.tos good.tos;
  ttl = given_below v.ttl kept.ttl 256 given.ttl good.ttl;
  id = good.id;
  udp_sum = good.udp_sum;
  payload_type = given_below v.payload_type kept.payload_type 128 given.payload_type good.payload_type;
  sn = good.sn;
  ts = good.ts;
  stride = given_stride_good v.stride kept.stride given.stride good.stride;
}

pub means_good : (first : ℕ) (udp_sum stride_known : Bool) (r : Reference) (shift : ℕ) (c : Content) (m : Dynamic) → IsGoodContent first udp_sum stride_known c
    → IsGoodDynamic r.moving → Means r shift c m → IsGoodDynamic m
means_good first udp_sum stride_known r shift c m good kept p =
    let forced = in_force_good r.moving c.values kept good.values in
    let sn : m.sn < 65536 = rw p.sn.1 (modulo_below _ (2 ^ 16) (omega arith)) in
    let ts = ts_good r.moving.ts (in_force r.moving c.values).stride p.steps c.tsc c.ts m.ts kept.ts p.ts in
    let id = id_good (in_force r.moving c.values).nbo r.moving c.id m.sn m.id (says_good_id first udp_sum stride_known c good c.id refl) p.id in
    subst IsGoodDynamic (sym p.whole) (record {
      tos = forced.tos;
      ttl = forced.ttl;
      id = id;
      udp_sum = given_below c.udp_sum 0 65536 good.sum (omega arith);
      payload_type = forced.payload_type;
      sn = sn;
      ts = ts;
      stride = forced.stride;
    })
