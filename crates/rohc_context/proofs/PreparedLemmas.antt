-- What stays of headers, where fields that don't fill it change.
use Rattle.std.proofs.Common.{◌≡◌, ℕ, sym, ap, ◌∙◌, subst}
use Rattle.std.specs.Prelude.{None, unwrap_or}
use Rattle.rohc_header.specs.declared.fields.Static.{Static}
use Rattle.rohc_header.specs.declared.fields.Dynamic.{Dynamic}
use Rattle.rohc_header.specs.declared.prepared.Prepared.{Prepared}
use Rattle.rohc_header.specs.Prepared.{IsPrepared}
use Rattle.rohc_forms.specs.Content.{Content}
use Rattle.rohc_context.specs.declared.reference.Previous.{Previous}
use Rattle.rohc_context.specs.declared.reference.Reference as saved
use Rattle.rohc_context.specs.Previous.{fields_by, IsAlike}
use Rattle.rohc_context.specs.Record.{Reference}
use Rattle.rohc_context.specs.InForce.{in_force}
use Rattle.rohc_context.specs.Explains.{Means}
use Rattle.rohc_context.specs.NextReference.{first_reference}

-- the reference after an IR or IR-DYN
pub prepared_first : (fixed : Static) (moving : Dynamic) (r : Reference) (p : Prepared) → r ≡ first_reference moving
    → IsPrepared fixed moving p → IsPrepared fixed r.moving p
prepared_first fixed moving r p e is = subst (λ m. IsPrepared fixed m p) (ap (λ x. x.moving) (sym e)) is

-- a header without an extension 3
pub prepared_meant : (fixed : Static) (r : Reference) (shift : ℕ) (c : Content) (moving : Dynamic) (p : Prepared)
    → Means r shift c moving → c.values ≡ None → IsPrepared fixed r.moving p → IsPrepared fixed moving p
prepared_meant fixed r shift c moving p means none is =
    let same = ap (λ v. record (in_force r.moving v) { sn = moving.sn; ts = moving.ts; id = moving.id; udp_sum = unwrap_or c.udp_sum 0; marker = c.marker }) none in
    subst (λ m. IsPrepared fixed m p) (sym (means.whole ∙ same)) is

-- a previous reference that differs from the reference in numbers alone
pub prepared_before : (fixed : Static) (r : saved.Reference) (q : Previous) (p : Prepared) → IsAlike r q
    → IsPrepared fixed r.moving p → IsPrepared fixed (fields_by r.moving q) p
prepared_before fixed r q p alike is = rw (alike.tos, alike.ttl, alike.df, alike.padding, alike.extension) is
