-- What is kept of the previous reference.
use Rattle.std.proofs.Common.{◌≡◌, ℕ, true, [], ◌∷◌, refl, sym, ap, subst, Option, None, Some, option_map}
use Rattle.rohc_header.specs.declared.fields.Static.{Static}
use Rattle.rohc_header.specs.declared.fields.Dynamic.{Dynamic}
use Rattle.rohc_context.specs.declared.reference.Previous.{Previous}
use Rattle.rohc_context.specs.declared.reference.Reference as saved
use Rattle.rohc_context.specs.Saved.{IsKept}
use Rattle.rohc_context.specs.declared.state.FullContext as code_full
use Rattle.rohc_forms.specs.Content.{Content}
use Rattle.rohc_context.specs.NextReference.{with_numbers}
use Rattle.rohc_context.specs.Tries.{has_short_check, unshifted, third_tries}
use Rattle.rohc_context.specs.Record.{reference_of, previous_by, previous_of}
use Rattle.rohc_context.specs.Previous.{fields_by, whole_by, IsAlike}

-- the same fields and registers are kept as well
pub kept_as : (fixed : Static) (moving fields : Dynamic) (registers same : ℕ × ℕ) → moving ≡ fields → registers ≡ same
    → IsKept fixed fields same → IsKept fixed moving registers
kept_as fixed moving fields registers same e f is =
    subst (λ m. IsKept fixed m registers) (sym e) (subst (IsKept fixed fields) (sym f) is)

-- The reference is kept as the previous one.

pub as_previous : (r : saved.Reference) (kept : Option Previous) → option_map (whole_by r.moving) kept ≡ Some (r.moving, r.saved)
    → (p : Previous) → kept ≡ Some p → (fields_by r.moving p ≡ r.moving) × (p.saved ≡ r.saved)
as_previous r None e p is = cc
as_previous r (Some q) e p is =
    let same : whole_by r.moving p ≡ (r.moving, r.saved) = cc in
    (ap (λ w. w.0) same, ap (λ w. w.1) same)

-- It is as good as the reference,
pub kept_by : (fixed : Static) (r : saved.Reference) (kept : Option Previous) → option_map (whole_by r.moving) kept ≡ Some (r.moving, r.saved)
    → IsKept fixed r.moving r.saved → (p : Previous) → kept ≡ Some p → IsKept fixed (fields_by r.moving p) p.saved
kept_by fixed r kept e is p there =
    let same = as_previous r kept e p there in
    kept_as fixed (fields_by r.moving p) r.moving p.saved r.saved same.0 same.1 is

-- differs from it in no more than numbers,
pub alike : (r : saved.Reference) (kept : Option Previous) → option_map (whole_by r.moving) kept ≡ Some (r.moving, r.saved)
    → (p : Previous) → kept ≡ Some p → IsAlike r p
alike r kept e p there =
    let same = as_previous r kept e p there in
    record {
      tos = ap (λ m. m.tos) same.0;
      ttl = ap (λ m. m.ttl) same.0;
      payload_type = ap (λ m. m.payload_type) same.0;
      df = ap (λ m. m.df) same.0;
      padding = ap (λ m. m.padding) same.0;
      extension = ap (λ m. m.extension) same.0;
      saved = same.1;
    }

-- and is seen as it was, beside the next.
pub seen_as : (r : saved.Reference) (kept : Option Previous) → option_map (whole_by r.moving) kept ≡ Some (r.moving, r.saved)
    → option_map (previous_by r) kept ≡ Some (reference_of r)
seen_as r None e = cc
seen_as r (Some q) e = ap (λ m. Some (record { moving = m; carries_sum = r.carries_sum })) ((as_previous r (Some q) e q refl).0)

-- If it differs from the reference in numbers alone, it is the reference but for them,
pub numbered : (r : saved.Reference) (p : Previous) (moving : Dynamic) → IsAlike r p → with_numbers (fields_by r.moving p) moving ≡ with_numbers r.moving moving
numbered r p moving is = rw (is.tos, is.ttl, is.payload_type, is.df, is.padding, is.extension) refl

-- and the third try is against it.
pub held_before : (x : code_full.FullContext) (p : Previous) (before : saved.Reference) → x.previous ≡ Some p → before.moving ≡ fields_by x.reference.moving p
    → before.carries_sum ≡ x.reference.carries_sum → previous_of x ≡ Some (reference_of before)
held_before x p before is e f = rw (is, e, f) refl

pub third_is : (x : code_full.FullContext) (p : Previous) (before : saved.Reference) (c : Content) → x.previous ≡ Some p → before.moving ≡ fields_by x.reference.moving p
    → before.carries_sum ≡ x.reference.carries_sum → has_short_check c.kind ≡ true → third_tries (previous_of x) c ≡ unshifted (reference_of before) ∷ []
third_is x p before c is e f short = rw (held_before x p before is e f, short) refl
