-- The registers over the static octets of a header, from its octets and from its fields.
use Rattle.std.proofs.Common.{◌≡◌, ℕ, List, Bool, true, false, refl, sym, ap, ◌∙◌}
use Rattle.rohc_checks.specs.Division.{check, poly3, poly7}
use Rattle.rohc_checks.proofs.Division.{check-append}
use Rattle.rohc_header.specs.declared.fields.Static.{Static}
use Rattle.rohc_header.specs.declared.fields.Dynamic.{Dynamic}
use Rattle.rohc_header.specs.Original.{IsOriginal}
use Rattle.rohc_header.specs.Check.{static_octets, dynamic_octets, all_ones, header_check}
use Rattle.rohc_header.proofs.StaticFields.{has_static_fields}
use Rattle.rohc_chain.specs.Good.{IsGoodStatic, IsGoodDynamic}
use Rattle.std.specs.Prelude.{None, unwrap_or}
use Rattle.rohc_forms.specs.Content.{Content}
use Rattle.rohc_context.specs.Record.{Reference}
use Rattle.rohc_context.specs.InForce.{in_force}
use Rattle.rohc_context.specs.Explains.{Means}
use Rattle.rohc_context.specs.Saved.{register, AreRegisters, IsKept}
use Rattle.rohc_forms.specs.declared.form.FormKind.{FormKind}
use Rattle.rohc_context.specs.Tries.{has_short_check, check_for}
use Rattle.rohc_context.specs.NextReference.{without_marker, with_numbers}

-- a header's register is that of its fields
pub register_of : (poly : List Bool) (fixed : Static) (moving : Dynamic) (len : ℕ) (octets : List ℕ) → IsGoodStatic fixed → IsOriginal fixed moving len octets
    → check poly (all_ones poly) (static_octets octets) ≡ register poly fixed moving
unfolding register
register_of poly fixed moving len octets good is = ap (check poly (all_ones poly)) (has_static_fields fixed moving len octets good.source.four good.destination.four is)

pub registers_of : (fixed : Static) (moving : Dynamic) (len : ℕ) (octets : List ℕ) (saved : ℕ × ℕ) → IsGoodStatic fixed → IsOriginal fixed moving len octets
    → saved.0 ≡ check poly3 (all_ones poly3) (static_octets octets) → saved.1 ≡ check poly7 (all_ones poly7) (static_octets octets) → AreRegisters fixed moving saved
registers_of fixed moving len octets saved good is three seven = record {
  three = three ∙ register_of poly3 fixed moving len octets good is;
  seven = seven ∙ register_of poly7 fixed moving len octets good is;
}

-- the other way round
pub octets_three : (fixed : Static) (moving : Dynamic) (len : ℕ) (octets : List ℕ) (saved : ℕ × ℕ) → IsGoodStatic fixed → IsOriginal fixed moving len octets
    → AreRegisters fixed moving saved → saved.0 ≡ check poly3 (all_ones poly3) (static_octets octets)
octets_three fixed moving len octets saved good is are = are.three ∙ sym (register_of poly3 fixed moving len octets good is)

pub octets_seven : (fixed : Static) (moving : Dynamic) (len : ℕ) (octets : List ℕ) (saved : ℕ × ℕ) → IsGoodStatic fixed → IsOriginal fixed moving len octets
    → AreRegisters fixed moving saved → saved.1 ≡ check poly7 (all_ones poly7) (static_octets octets)
octets_seven fixed moving len octets saved good is are = are.seven ∙ sym (register_of poly7 fixed moving len octets good is)

-- the check goes on from the register of the static octets
pub checked_from : (poly : List Bool) (reg : ℕ) (octets : List ℕ) → reg ≡ check poly (all_ones poly) (static_octets octets)
    → check poly reg (dynamic_octets octets) ≡ header_check poly octets
checked_from poly reg octets e = ap (λ r. check poly r (dynamic_octets octets)) e ∙ check-append poly (all_ones poly) (static_octets octets) (dynamic_octets octets)

-- Neither a marker nor what moves with each packet stands in static octets.

register_same : (poly : List Bool) (fixed : Static) (kept : Dynamic) (marker : Bool) (sn ts id sum : ℕ)
    → register poly fixed (record kept { sn = sn; ts = ts; id = id; udp_sum = sum; marker = marker }) ≡ register poly fixed kept
unfolding register
register_same poly fixed kept marker sn ts id sum = refl

pub registers_same : (fixed : Static) (kept moving : Dynamic) (marker : Bool) (sn ts id sum : ℕ) (saved : ℕ × ℕ)
    → moving ≡ record kept { sn = sn; ts = ts; id = id; udp_sum = sum; marker = marker } → AreRegisters fixed kept saved → AreRegisters fixed moving saved
registers_same fixed kept moving marker sn ts id sum saved e are = record {
  three = are.three ∙ sym (register_same poly3 fixed kept marker sn ts id sum) ∙ ap (register poly3 fixed) (sym e);
  seven = are.seven ∙ sym (register_same poly7 fixed kept marker sn ts id sum) ∙ ap (register poly7 fixed) (sym e);
}

-- what is kept after an IR or IR-DYN, and after a packet of kind Other
pub kept_first : (fixed : Static) (moving : Dynamic) (saved : ℕ × ℕ) → IsGoodDynamic moving → AreRegisters fixed moving saved → IsKept fixed (without_marker moving) saved
kept_first fixed moving saved good are = record {
  good = record {
    tos = good.tos;
    ttl = good.ttl;
    id = good.id;
    udp_sum = good.udp_sum;
    payload_type = good.payload_type;
    sn = good.sn;
    ts = good.ts;
    stride = good.stride;
  };
  unmarked = refl;
  registers = registers_same fixed moving (without_marker moving) false moving.sn moving.ts moving.id moving.udp_sum saved refl are;
}

pub kept_next : (fixed : Static) (kept header : Dynamic) (saved : ℕ × ℕ) → IsKept fixed kept saved → IsGoodDynamic header → IsKept fixed (with_numbers kept header) saved
kept_next fixed kept header saved is good = record {
  good = record {
    tos = is.good.tos;
    ttl = is.good.ttl;
    id = good.id;
    udp_sum = good.udp_sum;
    payload_type = is.good.payload_type;
    sn = good.sn;
    ts = good.ts;
    stride = is.good.stride;
  };
  unmarked = is.unmarked;
  registers = registers_same fixed kept (with_numbers kept header) kept.marker header.sn header.ts header.id header.udp_sum saved refl is.registers;
}

-- the check that a packet of a kind carries
pub short_for : (kind : FormKind) (octets : List ℕ) → has_short_check kind ≡ true → header_check poly3 octets ≡ check_for kind octets
short_for kind octets e = rw e refl

pub long_for : (kind : FormKind) (octets : List ℕ) → has_short_check kind ≡ false → header_check poly7 octets ≡ check_for kind octets
long_for kind octets e = rw e refl

-- Without an extension 3 the registers are the reference's.
pub kept_registers : (fixed : Static) (r : Reference) (shift : ℕ) (c : Content) (moving : Dynamic) (saved : ℕ × ℕ)
    → Means r shift c moving → c.values ≡ None → AreRegisters fixed r.moving saved → AreRegisters fixed moving saved
kept_registers fixed r shift c moving saved means none are =
    let same = ap (λ v. record (in_force r.moving v) { sn = moving.sn; ts = moving.ts; id = moving.id; udp_sum = unwrap_or c.udp_sum 0; marker = c.marker }) none in
    registers_same fixed r.moving moving c.marker moving.sn moving.ts moving.id (unwrap_or c.udp_sum 0) saved (means.whole ∙ same) are
