-- What the octets of a packet say lies in its ranges.
use Rattle.std.proofs.Common.{◌≡◌, ℕ, ◌+◌, ◌/◌, ◌^◌, ◌<◌, ◌≤◌, Bool, true, false, List, min, ◌⊎◌, inl, inr, Option, Some, None, refl, sym, ap, subst, ◌∙◌, arith}
use Rattle.std.specs.Prelude.{◌↔◌, All, IfSome, ◌||◌, not, ◌==◌, is_some, nat_lt, if◌then◌else◌}
use Rattle.std.proofs.Math.Nat.{pow-le-pow_right}
use Rattle.std.proofs.lemmas.Nat.{pow_pos, mod_below}
use Rattle.std.proofs.lemmas.Bool.Decides.{nat_tests}
use Rattle.rohc_bits.specs.Reading.{bit}
use Rattle.rohc_bits.specs.LowBits.{LowBits}
use Rattle.rohc_bits.proofs.Holds.{Holds, IsValueBits, all_left, all_right, holds_any, holds_says, holds_then, holds_as, holds_judged, holds_unless, holds_which, holds_named, holds_called, octet_holds, word_holds, value_holds}
use Rattle.rohc_bits.proofs.Widths.{joined_fits}
use Rattle.rohc_frame.specs.Laws.{IsOctet}
use Rattle.rohc_forms.specs.declared.form.FormKind.{FormKind}
use Rattle.rohc_forms.specs.declared.form.FormKind.TheVariants.{Uo0, Uo1, Uo1Id, Uo1Ts, Uor2, Uor2Id, Uor2Ts}
use Rattle.rohc_forms.specs.declared.parts.Base.{Base}
use Rattle.rohc_forms.specs.declared.parts.IpFlags.{IpFlags}
use Rattle.rohc_forms.specs.declared.parts.IpGiven.{IpGiven}
use Rattle.rohc_forms.specs.declared.parts.RtpFlags.{RtpFlags}
use Rattle.rohc_forms.specs.declared.refusal.FormRefusal.TheVariants.{ZeroStride, NoStride}
use Rattle.rohc_forms.specs.Slices.{slice, behind, and_bits}
use Rattle.rohc_forms.specs.Octets.{octet_if, word_if}
use Rattle.rohc_forms.specs.Table.{TOS, TTL, TSS, RtpOctet, Of, By, UdpSum, row, Said, Field, Sn, Ts, Id, S, R-TS, Tsc, I, IP, RTP, has, and_said, under, plus, minus, base_said, layout_0, layout_1, layout_2}
use Rattle.rohc_forms.specs.Content.{Head, form_kind, plain_head, id_said, offset_said, whole_said, stride_given, bits_said, whole_content}
use Rattle.rohc_forms.specs.Given.{ValuesSaid, RtpSaid, Extended3, ip_values, rtp_values, rtp_flags, rnd_in_force, payload_type_in}
use Rattle.rohc_forms.specs.Judging.{twice_fault, rtp_fault, stride_fault, no_stride_fault}
use Rattle.rohc_forms.specs.Laws.{SaysGood}
use Rattle.rohc_forms.specs.Extension.{ip_octet_at, with_sn, sn_at, with_ts, ts_at, behind_protocol, ip_given_at, and_offset, offset_at, stride_of, stride_at, behind_time_stride, type_row, behind_rtp_octet, rtp_at, rtp_given_at, behind_ip_octet}
use Rattle.rohc_forms.specs.Packets.{base_at, short_extension_at, extension_3_at, extension_row, extension_at, head_at, header_at, with_payload}
use Rattle.rohc_forms.specs.Good.{IsBits, IsGoodValues, IsGoodContent}
use Rattle.rohc_forms.specs.Kinds.{is_uor2, check_width}
use Rattle.rohc_bits.specs.Grammar.{Octet, Word, Value, IfNamed, Judged, Called, Row}
use Rattle.rohc_forms.proofs.SaysLemmas.{form_together}
use Rattle.rohc_forms.proofs.CountLemmas.{counts_octets, counts_extension}

-- bits within narrow bounds are within wider ones
wider : (least most low high : ℕ) (bits : LowBits) → low ≤ least → most ≤ high → IsBits least most bits → IsBits low high bits
wider least most low high bits l m is = record { some = omega (arith, is.some); narrow = omega (arith, is.narrow); fits = is.fits }

slice_good : (n places width : ℕ) → IsBits width width (slice n places width)
slice_good n places width = record { some = omega arith; narrow = omega arith; fits = mod_below (n / 2 ^ places) (2 ^ width) (pow_pos width) }

-- bits behind others
behind_good : (least most least_low most_low high : ℕ) (said low : LowBits) → IsBits least most said → IsBits least_low most_low low → least ≤ 32 → min (most + most_low) 32 ≤ high →
    IsBits least high (behind low said)
behind_good least most least_low most_low high said low is more small wide = record {
  some = omega (arith, is.some);
  narrow = omega (arith, is.narrow, more.narrow);
  fits = joined_fits (behind low said).value (behind low said).count said.value low.value said.count low.count refl refl is.fits more.fits;
}

-- What is said of the fields: at most so many bits of SN and of the offset, and a check of so many.
pub record IsGoodSaid (most_sn most_id width : ℕ) (said : Said) : Type 0 where
  pub sn : IsBits 1 most_sn (bits_said said.sn)
  pub ts : IfSome said.ts (IsBits 2 32)
  pub id : IfSome said.id (IsBits 1 most_id)
  pub check : said.check < 2 ^ width

sn_behind : (most more high : ℕ) (sn : Option LowBits) (low : LowBits) → IsBits 1 most (bits_said sn) → IsBits 1 more low → most + more ≤ high → high ≤ 32 →
    IsBits 1 high (bits_said (and_bits sn low))
sn_behind most more high None low is is_low l m = absurd (omega (arith, is.some))
sn_behind most more high (Some said) low is is_low l m = behind_good 1 most 1 more high said low is is_low (omega arith) (omega arith)

said_behind : (least most more high : ℕ) (said : Option LowBits) (low : LowBits) → IfSome said (IsBits least most) → IsBits least more low → least ≤ 32 → more ≤ high → min (most + more) 32 ≤ high →
    IfSome (and_bits said low) (IsBits least high)
said_behind least most more high None low is is_low l m n = wider least more least high low (omega arith) m is_low
said_behind least most more high (Some said) low is is_low l m n = behind_good least most least more high said low is is_low l n

and_sn_good : (m i w more high : ℕ) (d : LowBits) (s : Said) → IsGoodSaid m i w s → IsBits 1 more d → m + more ≤ high → high ≤ 32 → IsGoodSaid high i w (and_said Sn d s)
and_sn_good m i w more high d s is is_more l h = record { sn = sn_behind m more high s.sn d is.sn is_more l h; ts = is.ts; id = is.id; check = is.check }

and_ts_good : (m i w more : ℕ) (d : LowBits) (s : Said) → IsGoodSaid m i w s → IsBits 2 more d → more ≤ 32 → IsGoodSaid m i w (and_said Ts d s)
and_ts_good m i w more d s is is_more l = record { sn = is.sn; ts = said_behind 2 32 more 32 s.ts d is.ts is_more (omega arith) l (omega arith); id = is.id; check = is.check }

and_id_good : (m i w more high : ℕ) (d : LowBits) (s : Said) → IsGoodSaid m i w s → IsBits 1 more d → i + more ≤ high → IsGoodSaid m high w (and_said Id d s)
and_id_good m i w more high d s is is_more l = record { sn = is.sn; ts = is.ts; id = said_behind 1 i more high s.id d is.id is_more (omega arith) (omega arith) (omega arith); check = is.check }

-- a field that +T or -T is, and the two of a format: not both are the Identification
abbrev pub IsNumber : Field → Type 0
IsNumber field = (field ≡ Ts) ⊎ (field ≡ Id)

abbrev pub ArePlusMinus : Field → Field → Type 0
ArePlusMinus p q = ((p ≡ Ts) × IsNumber q) ⊎ ((p ≡ Id) × (q ≡ Ts))

more_id : (m i high w : ℕ) (s : Said) → IsGoodSaid m i w s → i ≤ high → IsGoodSaid m high w s
more_id m i high w s is l = record { sn = is.sn; ts = is.ts; id = if_wider s.id is.id; check = is.check } where
  if_wider : (id : Option LowBits) → IfSome id (IsBits 1 i) → IfSome id (IsBits 1 high)
  if_wider None is = tt
  if_wider (Some bits) is = wider 1 i 1 high bits (omega arith) l is

more_sn : (m high i w : ℕ) (s : Said) → IsGoodSaid m i w s → m ≤ high → IsGoodSaid high i w s
more_sn m high i w s is l = record { sn = wider 1 m 1 high (bits_said s.sn) (omega arith) l is.sn; ts = is.ts; id = is.id; check = is.check }

slice_some : (n places width : ℕ) → 2 ≤ width → IsBits 2 width (slice n places width)
slice_some n places width l = wider width width 2 width (slice n places width) l (omega arith) (slice_good n places width)

slice_any : (n places width : ℕ) → 1 ≤ width → IsBits 1 width (slice n places width)
slice_any n places width l = wider width width 1 width (slice n places width) l (omega arith) (slice_good n places width)

and_number_good : (field : Field) (m i w width high : ℕ) (n places : ℕ) (s : Said) → IsNumber field → IsGoodSaid m i w s → 2 ≤ width → width ≤ 32 → i + width ≤ high →
    IsGoodSaid m high w (and_said field (slice n places width) s)
and_number_good field m i w width high n places s (inl is) good l h room = rw is (more_id m i high w _ (and_ts_good m i w width (slice n places width) s good (slice_some n places width l) h) (omega arith))
and_number_good field m i w width high n places s (inr is) good l h room = rw is (and_id_good m i w width high (slice n places width) s good (slice_any n places width (omega arith)) room)

plus_minus : (kind : FormKind) → ArePlusMinus (plus kind) (minus kind)
plus_minus Uo0 = inl (refl, inl refl)
plus_minus Uo1 = inl (refl, inl refl)
plus_minus Uo1Id = inr (refl, refl)
plus_minus Uo1Ts = inl (refl, inl refl)
plus_minus Uor2 = inl (refl, inl refl)
plus_minus Uor2Id = inr (refl, refl)
plus_minus Uor2Ts = inl (refl, inr refl)

plus_number : (p q : Field) → ArePlusMinus p q → IsNumber p
plus_number p q (inl is) = inl is.0
plus_number p q (inr is) = inr is.0

minus_number : (p q : Field) → ArePlusMinus p q → IsNumber q
minus_number p q (inl is) = is.1
minus_number p q (inr is) = inl is.1

-- the fields of extensions 0, 1 and 2
short_sn : (w n places : ℕ) (s : Said) → IsGoodSaid 6 5 w s → IsGoodSaid 9 5 w (and_said Sn (slice n places 3) s)
short_sn w n places s is = and_sn_good 6 5 w 3 9 (slice n places 3) s is (slice_any n places 3 (omega arith)) (omega arith) (omega arith)

short_2 : (p q : Field) (w n : ℕ) (s : Said) → ArePlusMinus p q → IsGoodSaid 9 5 w s → IsGoodSaid 9 16 w (and_said q (slice n 0 8) (and_said p (slice n 8 8) (and_said p (slice n 16 3) s)))
short_2 p q w n s (inl is) good = rw is.0 (
    and_number_good q 9 5 w 8 16 n 0 _ is.1 (
    and_ts_good 9 5 w 8 (slice n 8 8) _ (
    and_ts_good 9 5 w 3 (slice n 16 3) s good (slice_some n 16 3 (omega arith)) (omega arith))
    (slice_some n 8 8 (omega arith)) (omega arith))
    (omega arith) (omega arith) (omega arith))
short_2 p q w n s (inr is) good = rw (is.0, is.1) (
    and_ts_good 9 16 w 8 (slice n 0 8) _ (
    and_id_good 9 8 w 8 16 (slice n 8 8) _ (
    and_id_good 9 5 w 3 8 (slice n 16 3) s good (slice_any n 16 3 (omega arith)) (omega arith))
    (slice_any n 8 8 (omega arith)) (omega arith))
    (slice_some n 0 8 (omega arith)) (omega arith))

short_good : (kind : FormKind) (zero_first one_first : Bool) (w n : ℕ) (s : Said) → IsGoodSaid 6 5 w s →
    IsGoodSaid 9 16 w (under (if zero_first then layout_0 kind else if one_first then layout_1 kind else layout_2 kind) n s)
short_good kind true one w n s is = and_number_good (plus kind) 9 5 w 3 16 n 0 _ (plus_number _ _ (plus_minus kind)) (short_sn w n 3 s is) (omega arith) (omega arith) (omega arith)
short_good kind false true w n s is =
    and_number_good (minus kind) 9 8 w 8 16 n 0 _ (minus_number _ _ (plus_minus kind)) (
    and_number_good (plus kind) 9 5 w 3 8 n 8 _ (plus_number _ _ (plus_minus kind)) (short_sn w n 11 s is) (omega arith) (omega arith) (omega arith))
    (omega arith) (omega arith) (omega arith)
short_good kind false false w n s is = short_2 (plus kind) (minus kind) w n _ (plus_minus kind) (short_sn w n 19 s is)

-- the octets before an extension
base_good : (kind : FormKind) (n : ℕ) → IsGoodSaid 6 5 (check_width kind) (base_said kind n)
base_good Uo0 n = record { sn = wider 4 4 1 6 _ (omega arith) (omega arith) (slice_good n 3 4); ts = tt; id = tt; check = (slice_good n 0 3).fits }
base_good Uo1 n = record { sn = wider 4 4 1 6 _ (omega arith) (omega arith) (slice_good n 3 4); ts = wider 6 6 2 32 _ (omega arith) (omega arith) (slice_good n 8 6); id = tt; check = (slice_good n 0 3).fits }
base_good Uo1Id n = record { sn = wider 4 4 1 6 _ (omega arith) (omega arith) (slice_good n 3 4); ts = tt; id = wider 5 5 1 5 _ (omega arith) (omega arith) (slice_good n 8 5); check = (slice_good n 0 3).fits }
base_good Uo1Ts n = record { sn = wider 4 4 1 6 _ (omega arith) (omega arith) (slice_good n 3 4); ts = wider 5 5 2 32 _ (omega arith) (omega arith) (slice_good n 8 5); id = tt; check = (slice_good n 0 3).fits }
base_good Uor2 n = record { sn = wider 6 6 1 6 _ (omega arith) (omega arith) (slice_good n 8 6); ts = wider 6 6 2 32 _ (omega arith) (omega arith) (slice_good n 15 6); id = tt; check = (slice_good n 0 7).fits }
base_good Uor2Id n = record { sn = wider 6 6 1 6 _ (omega arith) (omega arith) (slice_good n 8 6); ts = tt; id = wider 5 5 1 5 _ (omega arith) (omega arith) (slice_good n 16 5); check = (slice_good n 0 7).fits }
base_good Uor2Ts n = record { sn = wider 6 6 1 6 _ (omega arith) (omega arith) (slice_good n 8 6); ts = wider 5 5 2 32 _ (omega arith) (omega arith) (slice_good n 16 5); id = tt; check = (slice_good n 0 7).fits }

-- the formats of UOR-2 are those whose first octet is C0 or more
kind_by : (base : Base) (rnd uo0 uo1 t1 t2 : Bool) → nat_lt base.first 128 ≡ uo0 → nat_lt base.first 192 ≡ uo1 → bit 5 base.first ≡ t1 → bit 15 base.number ≡ t2 →
    is_uor2 (form_kind base rnd) ≡ not (nat_lt base.first 192)
kind_by base rnd true uo1 t1 t2 e f g h = let below : nat_lt base.first 192 ≡ true = grind (arith, nat_tests) in rw (e, below) refl
kind_by base true false true t1 t2 e f g h = rw (e, f) refl
kind_by base false false true true t2 e f g h = rw (e, f, g) refl
kind_by base false false true false t2 e f g h = rw (e, f, g) refl
kind_by base true false false t1 t2 e f g h = rw (e, f) refl
kind_by base false false false t1 true e f g h = rw (e, f, h) refl
kind_by base false false false t1 false e f g h = rw (e, f, h) refl

kind_good : (base : Base) (rnd : Bool) → is_uor2 (form_kind base rnd) ≡ not (nat_lt base.first 192)
kind_good base rnd = kind_by base rnd (nat_lt base.first 128) (nat_lt base.first 192) (bit 5 base.first) (bit 15 base.number) refl refl refl refl

-- What extension 3 gives, where a stride of timestamps is known or isn't.
pub record IsGoodExtended (scaled known : Bool) (width : ℕ) (e : Extended3) : Type 0 where
  pub said : IsGoodSaid 16 16 width e.said
  pub values : IsGoodValues e.values
  pub stride : scaled ≡ true → (known || is_some e.values.stride) ≡ true

pub record IsGoodIp (ip : IpGiven) : Type 0 where
  pub tos : IfSome ip.tos (λ n. n < 256)
  pub ttl : IfSome ip.ttl (λ n. n < 256)

pub record IsGoodRtp (rtp : RtpSaid) : Type 0 where
  pub payload_type : IfSome rtp.payload_type (λ n. n < 128)
  pub stride : IfSome rtp.stride (λ n. (1 ≤ n) × (n ≤ 536870911))

type_good : (octet : Option ℕ) → IfSome (payload_type_in octet) (λ n. n < 128)
type_good None = tt
type_good (Some octet) = mod_below (octet / 2 ^ 0) 128 (omega arith)

stride_good : (named : Bool) → Holds (stride_at named) (λ stride. IfSome stride (λ n. (1 ≤ n) × (n ≤ 536870911)))
unfolding stride_at
stride_good named = holds_as stride_of (Called (By TSS) (IfNamed named (Judged (λ d. stride_fault d.value) Value))) _ _
    (holds_called (By TSS) (IfNamed named (Judged (λ d. stride_fault d.value) Value)) _ (holds_named named (Judged (λ d. stride_fault d.value) Value) (λ d. IsValueBits d × (stride_fault d.value ≡ None)) (holds_judged (λ d. stride_fault d.value) Value IsValueBits value_holds)))
    ranged where
      some_stride : (value : ℕ) (zero : Bool) → (value == 0) ≡ zero → (if zero then Some ZeroStride else None) ≡ None → 1 ≤ value
      some_stride value true e f = cc
      some_stride value false e f = grind (arith, nat_tests)

      ranged : (d : Option LowBits) → (IfSome d (λ d. IsValueBits d × (stride_fault d.value ≡ None)) × (is_some d ≡ named)) → IfSome (stride_of d) (λ n. (1 ≤ n) × (n ≤ 536870911))
      ranged None is = tt
      ranged (Some d) is = (
        some_stride d.value (d.value == 0) refl is.0.1,
        let fits : 2 ^ d.count ≤ 2 ^ 29 = pow-le-pow_right (omega arith) is.0.0.narrow in omega (arith, is.0.0.fits, fits),
      )

rtp_named_good : (rtp : RtpFlags) → Holds (behind_rtp_octet rtp) IsGoodRtp
unfolding behind_rtp_octet octet_if behind_time_stride
rtp_named_good rtp =
    holds_then (Row type_row (octet_if rtp.payload_type)) _ (λ _. Unit {0}) IsGoodRtp (holds_any _) (λ octet _.
    holds_then (stride_at rtp.stride) _ _ IsGoodRtp (stride_good rtp.stride) (λ stride ranged.
    holds_then (behind_time_stride rtp.time_stride) _ (λ _. Unit {0}) IsGoodRtp (holds_any _) (λ _ _.
    holds_says _ IsGoodRtp (record { payload_type = type_good octet; stride = ranged }))))

rtp_good : (named : Bool) → Holds (rtp_given_at named) (λ rtp. IfSome rtp IsGoodRtp × (is_some rtp ≡ named))
unfolding rtp_given_at
rtp_good named = holds_named named rtp_at IsGoodRtp
    (holds_then (Judged rtp_fault (Row (λ _. row RtpOctet) Octet)) _ (λ _. Unit {0}) IsGoodRtp (holds_any _) (λ octet _. rtp_named_good (rtp_flags octet)))

ip_good : (ip : Option IpFlags) → Holds (ip_given_at ip) (λ given. IfSome given IsGoodIp)
unfolding ip_given_at octet_if
ip_good None = holds_says None _ tt
ip_good (Some ip) =
    holds_then (Called (By TOS) (octet_if ip.tos)) _ _ _ (holds_called (By TOS) (octet_if ip.tos) _ (holds_named ip.tos Octet _ octet_holds)) (λ tos is_tos.
    holds_then (Called (By TTL) (octet_if ip.ttl)) _ _ _ (holds_called (By TTL) (octet_if ip.ttl) _ (holds_named ip.ttl Octet _ octet_holds)) (λ ttl is_ttl.
    holds_then (behind_protocol ip.protocol) _ (λ _. Unit {0}) _ (holds_any _) (λ _ _.
    holds_says _ (λ given. IfSome given IsGoodIp) (record { tos = is_tos.0; ttl = is_ttl.0 }))))

-- more bits of SN and of TS, and the whole offset
sn_good : (named : Bool) (w : ℕ) (said : Said) → IsGoodSaid 6 5 w said → Holds (sn_at named said) (IsGoodSaid 16 5 w)
unfolding sn_at
sn_good named w said is = holds_as (with_sn said) (Called (Of Sn) (IfNamed named Octet)) _ _ (holds_called (Of Sn) (IfNamed named Octet) _ (holds_named named Octet _ octet_holds)) more where
  more : (octet : Option ℕ) → (IfSome octet (λ n. n < 256) × (is_some octet ≡ named)) → IsGoodSaid 16 5 w (with_sn said octet)
  more None fits = more_sn 6 16 5 w said is (omega arith)
  more (Some octet) fits = and_sn_good 6 5 w 8 16 (record { count = 8; value = octet }) said is (record { some = omega arith; narrow = omega arith; fits = fits.0 }) (omega arith) (omega arith)

ts_good : (named : Bool) (w : ℕ) (said : Said) → IsGoodSaid 16 5 w said → Holds (ts_at named said) (IsGoodSaid 16 5 w)
unfolding ts_at
ts_good named w said is = holds_as (with_ts said) (Called (Of Ts) (IfNamed named Value)) _ _ (holds_called (Of Ts) (IfNamed named Value) _ (holds_named named Value _ value_holds)) more where
  more : (value : Option LowBits) → (IfSome value IsValueBits × (is_some value ≡ named)) → IsGoodSaid 16 5 w (with_ts said value)
  more None fits = is
  more (Some value) fits = and_ts_good 16 5 w 29 value said is (record { some = omega (arith, fits.0.some); narrow = fits.0.narrow; fits = fits.0.fits }) (omega arith)

offset_good : (named : Bool) (w : ℕ) (said : Said) → IsGoodSaid 16 5 w said → Holds (offset_at named said) (IsGoodSaid 16 16 w)
unfolding offset_at word_if
offset_good named w said is = holds_as (and_offset said) (Called (Of Id) (IfNamed named Word)) _ _ (holds_called (Of Id) (IfNamed named Word) _ (holds_named named Word _ word_holds)) more where
  more : (offset : Option ℕ) → (IfSome offset (λ n. n < 65536) × (is_some offset ≡ named)) → IsGoodSaid 16 16 w (and_offset said offset)
  more None fits = more_id 16 5 16 w said is (omega arith)
  more (Some offset) fits = record { sn = is.sn; ts = is.ts; id = record { some = omega arith; narrow = omega arith; fits = fits.0 }; check = is.check }

values_good : (ip : Option IpGiven) (rtp : Option RtpSaid) → IfSome ip IsGoodIp → IfSome rtp IsGoodRtp → IsGoodValues (ip_values ip (rtp_values rtp))
values_good None None is_ip is_rtp = record { tos = tt; ttl = tt; payload_type = tt; stride = tt }
values_good None (Some rtp) is_ip is_rtp = record { tos = tt; ttl = tt; payload_type = is_rtp.payload_type; stride = is_rtp.stride }
values_good (Some ip) None is_ip is_rtp = record { tos = is_ip.tos; ttl = is_ip.ttl; payload_type = tt; stride = tt }
values_good (Some ip) (Some rtp) is_ip is_rtp = record { tos = is_ip.tos; ttl = is_ip.ttl; payload_type = is_rtp.payload_type; stride = is_rtp.stride }

same_stride : (ip : Option IpGiven) (values : ValuesSaid) → (ip_values ip values).stride ≡ values.stride
same_stride None values = refl
same_stride (Some ip) values = refl

in_force_by : (scaled in_force : Bool) → no_stride_fault scaled in_force ≡ None → scaled ≡ true → in_force ≡ true
in_force_by true true e f = refl
in_force_by true false e f = let never : Some NoStride ≡ None = e in cc
in_force_by false in_force e f = cc

behind_ip_good : (flags : ℕ) (known : Bool) (ip : Option IpFlags) (w : ℕ) (said : Said) → IsGoodSaid 6 5 w said → Holds (behind_ip_octet flags known ip said) (IsGoodExtended (has Tsc flags) known w)
unfolding behind_ip_octet
behind_ip_good flags known ip w said is =
    holds_then _ _ _ _ (sn_good (has S flags) w said is) (λ said is.
    holds_then _ _ _ _ (ts_good (has R-TS flags) w said is) (λ said is.
    holds_then _ _ _ _ (ip_good ip) (λ given is_ip.
    holds_then _ _ _ _ (offset_good (has I flags) w said is) (λ said is.
    holds_then _ _ _ _ (rtp_good (has RTP flags)) (λ rtp is_rtp.
    holds_unless (no_stride_fault (has Tsc flags) (known || is_some (rtp_values rtp).stride)) _ _ (λ fine.
    holds_says _ (IsGoodExtended (has Tsc flags) known w) (record {
      said = is;
      values = values_good given rtp is_ip is_rtp.0;
      stride = λ scaled. ap (λ (stride : Option ℕ). known || is_some stride) (same_stride given (rtp_values rtp)) ∙ in_force_by (has Tsc flags) (known || is_some (rtp_values rtp).stride) fine scaled;
    })))))))

-- What is said through an extension, behind a first octet.
pub record IsGoodHead (first : ℕ) (known : Bool) (head : Head) : Type 0 where
  pub kind : is_uor2 head.kind ≡ not (nat_lt first 192)
  pub said : IsGoodSaid 16 16 (check_width head.kind) head.said
  pub scaled : head.tsc ≡ Some true → (known || is_some (stride_given head.values)) ≡ true
  pub values : IfSome head.values IsGoodValues

is_true : (b : Bool) → ◌≡◌ {A = Option Bool} (Some b) (Some true) → b ≡ true
is_true b e = cc

plain_good : (first : ℕ) (base : Base) (rnd known : Bool) (said : Said) → base.first ≡ first → IsGoodSaid 16 16 (check_width (form_kind base rnd)) said →
    IsGoodHead first known (plain_head (form_kind base rnd) rnd said)
plain_good first base rnd known said is good = record { kind = kind_good base rnd ∙ ap (λ n. not (nat_lt n 192)) is; said = good; scaled = λ e. absurd (none_some e); values = tt } where
  none_some : ◌≡◌ {A = Option Bool} None (Some true) → ⊥
  none_some e = cc

extension_3_good : (first : ℕ) (base : Base) (kept known : Bool) (flags : ℕ) → base.first ≡ first → Holds (extension_3_at base kept known flags) (IsGoodHead first known)
unfolding extension_3_at ip_octet_at
extension_3_good first base kept known flags is =
    holds_then (ip_octet_at (has IP flags) (form_kind base kept)) _ (λ _. Unit {0}) _ (holds_any _) (λ ip _.
    holds_unless (twice_fault (has I flags) (rnd_in_force kept ip)) _ _ (λ _.
    holds_then _ _ _ _ (behind_ip_good flags known ip (check_width (form_kind base (rnd_in_force kept ip))) _ (base_good (form_kind base (rnd_in_force kept ip)) base.number)) (λ extended good.
    holds_says _ (IsGoodHead first known) (record {
      kind = kind_good base (rnd_in_force kept ip) ∙ ap (λ n. not (nat_lt n 192)) is;
      said = good.said;
      scaled = λ e. good.stride (is_true (has Tsc flags) e);
      values = good.values;
    }))))

all_said : (w : ℕ) (said : Said) → IsGoodSaid 9 16 w said → IsGoodSaid 16 16 w said
all_said w said is = more_sn 9 16 16 w said is (omega arith)

base_said_good : (kind : FormKind) (n : ℕ) → IsGoodSaid 16 16 (check_width kind) (base_said kind n)
base_said_good kind n = more_sn 6 16 16 _ _ (more_id 6 5 16 _ _ (base_good kind n) (omega arith)) (omega arith)

under_good : (kind : FormKind) (first n : ℕ) → Holds (short_extension_at kind first (base_said kind n)) (IsGoodSaid 16 16 (check_width kind))
under_good kind first n = record {
  of = λ said text all is.
      let short = (counts_extension kind first (base_said kind n) said text).0 is in
      subst (IsGoodSaid 16 16 (check_width kind)) (sym short.2) (all_said _ _ (short_good kind (nat_lt first 64) (nat_lt first 128) (check_width kind) short.0 _ (base_good kind n)));
}

extension_good : (first : ℕ) (base : Base) (rnd known : Bool) (octet : ℕ) → base.first ≡ first → Holds (extension_at base rnd known octet) (IsGoodHead first known)
unfolding extension_at
extension_good first base rnd known octet is = holds_which (nat_lt octet 192) _ _ _
    (holds_as (plain_head (form_kind base rnd) rnd) _ _ _ (under_good (form_kind base rnd) octet base.number) (λ said good. plain_good first base rnd known said is good))
    (extension_3_good first base rnd known octet is)

head_good : (first : ℕ) (rnd known : Bool) → Holds (head_at first rnd known) (IsGoodHead first known)
unfolding head_at
head_good first rnd known =
    holds_then (base_at first) _ (λ base. base.first ≡ first) _ (record { of = λ base text all is. (((counts_octets rnd).0 first base text).0 is).0 }) (λ base is.
    holds_which (base_said (form_kind base rnd) base.number).extended _ _ _
    (holds_then (Row (extension_row (form_kind base rnd)) Octet) _ (λ _. Unit {0}) _ (holds_any _) (λ octet _. extension_good first base rnd known octet is))
    (holds_says _ (IsGoodHead first known) (plain_good first base rnd known _ is (base_said_good (form_kind base rnd) base.number))))

-- the Identification: the whole where it stands in the packet, else bits of its offset
whole_good : (id : Option ℕ) (bits : Option LowBits) → IfSome id (λ n. n < 65536) → IfSome (whole_said (id_said id bits)) (λ n. n < 65536)
whole_good (Some id) bits is = is
whole_good None (Some bits) is = tt
whole_good None None is = tt

random_good : (id : Option ℕ) (bits : Option LowBits) → is_some (whole_said (id_said id bits)) ≡ is_some id
random_good (Some id) bits = refl
random_good None (Some bits) = refl
random_good None None = refl

offset_said_good : (id : Option ℕ) (bits : Option LowBits) → IfSome bits (IsBits 1 16) → IfSome (offset_said (id_said id bits)) (IsBits 1 16)
offset_said_good (Some id) bits is = tt
offset_said_good None (Some bits) is = is
offset_said_good None None is = tt

from_c0 : (first : ℕ) (uor2 : Bool) → uor2 ≡ not (nat_lt first 192) → (uor2 ≡ true) ↔ (192 ≤ first)
from_c0 first true is = ((λ e. grind (arith, nat_tests)), λ l. refl)
from_c0 first false is = ((λ e. cc), λ l. grind (arith, nat_tests))

content_good : (first : ℕ) (udp_sum known : Bool) (head : Head) (id sum : Option ℕ) (payload : List ℕ) → IsGoodHead first known head →
    IfSome id (λ n. n < 65536) × (is_some id ≡ head.rnd) → IfSome sum (λ n. n < 65536) × (is_some sum ≡ udp_sum) → All IsOctet payload →
    IsGoodContent first udp_sum known (whole_content head id sum payload)
content_good first udp_sum known head id sum payload is is_id is_sum all = record {
  kind = from_c0 first (is_uor2 head.kind) is.kind;
  sn = is.said.sn;
  ts = is.said.ts;
  scaled = is.scaled;
  offset = offset_said_good id head.said.id is.said.id;
  whole = whole_good id head.said.id is_id.0;
  random = random_good id head.said.id ∙ is_id.1;
  sum = is_sum.0;
  carried = is_sum.1;
  values = is.values;
  check = is.said.check;
  payload = all;
}

header_good : (first : ℕ) (rnd udp_sum known : Bool) → Holds (header_at first rnd udp_sum known) (λ said. (payload : List ℕ) → All IsOctet payload → IsGoodContent first udp_sum known (with_payload said payload))
unfolding word_if
header_good first rnd udp_sum known =
    holds_then (head_at first rnd known) _ _ _ (head_good first rnd known) (λ head is.
    holds_then (Called (Of Id) (IfNamed head.rnd Word)) _ _ _ (holds_called (Of Id) (IfNamed head.rnd Word) _ (holds_named head.rnd Word _ word_holds)) (λ id is_id.
    holds_then (Called UdpSum (IfNamed udp_sum Word)) _ _ _ (holds_called UdpSum (IfNamed udp_sum Word) _ (holds_named udp_sum Word _ word_holds)) (λ sum is_sum.
    holds_says (head, id, sum) _ (λ payload all. content_good first udp_sum known head id sum payload is is_id is_sum all))))

pub says_good : SaysGood
says_good = λ h rnd udp_sum known c all is.
    let (said, header, payload, whole, says, content) = form_together h rnd udp_sum known c is in
    let octets = subst (λ (t : List ℕ). All IsOctet t) whole all in
    subst (IsGoodContent h.first udp_sum known) (sym content)
    ((header_good h.first rnd udp_sum known).of said header (all_left header payload octets) says payload (all_right header payload octets))
