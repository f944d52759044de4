-- Steps of a reading, one after the other.
use Rattle.std.proofs.Common.{◌≡◌, ℕ, List, [], ◌∷◌, Option, Some, None, Result, Ok, Err, refl, sym, ap, ◌∙◌}
use Rattle.rohc_bits.specs.Reading.{◌>>=◌, judged, next_octet}

pub ok_is : {A E : Type 0} (x y : A) → ◌≡◌ {A = Result A E} (Ok x) (Ok y) → x ≡ y
ok_is x y e = cc

-- what was read, and the octets behind it
pub ok_parts : {A B E : Type 0} (x y : A) (b d : B) → ◌≡◌ {A = Result (A × B) E} (Ok (x, b)) (Ok (y, d)) → (x ≡ y) × (b ≡ d)
ok_parts {A} {B} {E} x y b d e =
    let both : ◌≡◌ {A = A × B} (x, b) (y, d) = ok_is {E = E} (x, b) (y, d) e in
    (ap (λ (p : A × B). p.0) both, ap (λ (p : A × B). p.1) both)

-- of two steps that gave something, so did the first
pub bind_ok : {A B E : Type 0} (r : Result A E) (f : A → Result B E) (y : B) → (r >>= f) ≡ Ok y → (x : A) × (r ≡ Ok x) × (f x ≡ Ok y)
bind_ok (Ok x) f y e = (x, refl, e)
bind_ok (Err refusal) f y e = cc

-- what wasn't refused
pub judged_ok : {A E : Type 0} (fault : Option E) (x y : A) → judged fault x ≡ Ok y → (fault ≡ None) × (x ≡ y)
judged_ok {A} {E} None x y e = (refl, ok_is {E = E} x y e)
judged_ok (Some refusal) x y e = cc

-- an octet that was read stands at the front
pub octet_found : {E : Type 0} (short : E) (text : List ℕ) (x : ℕ × List ℕ) → next_octet short text ≡ Ok x → text ≡ x.0 ∷ x.1
unfolding next_octet
octet_found short [] x e = cc
octet_found {E} short (octet ∷ text) x e =
    let is : ◌≡◌ {A = ℕ × List ℕ} (octet, text) x = ok_is {E = E} (octet, text) x e in
    ap (λ (p : ℕ × List ℕ). p.0 ∷ p.1) is

-- and where it was judged, it wasn't refused
pub judged_found : {E : Type 0} (short : E) (fault : ℕ → Option E) (text : List ℕ) (x : ℕ × List ℕ) → (next_octet short text >>= λ y. judged (fault y.0) y) ≡ Ok x →
    (text ≡ x.0 ∷ x.1) × (fault x.0 ≡ None)
judged_found short fault text x e =
    let step = bind_ok (next_octet short text) (λ y. judged (fault y.0) y) x e in
    let is = judged_ok (fault step.0.0) step.0 x step.2 in
    (octet_found short text step.0 step.1 ∙ ap (λ (p : ℕ × List ℕ). p.0 ∷ p.1) is.1, ap (λ (p : ℕ × List ℕ). fault p.0) (sym is.1) ∙ is.0)
