-- What is read is apart: the links of a form, and the CIDs of each. Its moment stands in front.
use Rattle.std.proofs.Common.{◌≡◌, ℕ, ◌-◌, zero, suc, List, [], ◌∷◌, ◌++◌, map, length, Bool, true, false, Result, Ok, refl, sym, ap, subst, ◌∙◌, nat_eq}
use Rattle.std.specs.Prelude.{nat_le, ◌==◌, ◌&&◌, ◌||◌, not}
use Rattle.std.specs.List.{AllByRecursion, IsDistinct, list_any}
use Rattle.std.proofs.lemmas.List.{map-append}
use Rattle.rohc_bits.specs.Reading.{◌>>=◌}
use Rattle.rohc_bits.proofs.Steps.{ok_is, bind_ok}
use Rattle.rohc_context.specs.Record.{Record}
use Rattle.rohc_saved.specs.declared.fault.SavedFault.{SavedFault}
use Rattle.rohc_saved.specs.declared.fault.SavedFault.TheVariants.{BadOrder, Long}
use Rattle.rohc_saved.specs.Form.{Link, Form}
use Rattle.rohc_saved.specs.Reading.{given, word_at, version_at, magic_at, long_at, has, record_text_at, cid_at, context_at, contexts_at, number_at, size_at, reserved_at, greatest_at, link_at, links_at, moment_at, form_at, digest_at, restored}
use Rattle.rohc_saved.specs.Laws.{MomentIsInFront}
use Rattle.rohc_saved.proofs.Distinct.{distinct_none, distinct_more}

-- the numbers of these
abbrev pub firsts : {A : Type 0} → List (ℕ × A) → List ℕ
firsts {A} xs = map (λ (x : ℕ × A). x.0) xs

has_first : {A : Type 0} (n : ℕ) (xs : List (ℕ × A)) → has n xs ≡ list_any (nat_eq n) (firsts xs)
has_first n [] = refl
has_first n (x ∷ xs) = ap (λ b. nat_eq n x.0 || b) (has_first n xs)

given_test : {A : Type 0} (test : Bool) (fault : SavedFault) (x y : A) → given test fault x ≡ Ok y → (test ≡ true) × (x ≡ y)
given_test {A} true fault x y e = (refl, ok_is {E = SavedFault} x y e)
given_test false fault x y e = cc

not_true : (b : Bool) → not b ≡ true → b ≡ false
not_true false e = refl
not_true true e = cc

both_true : (a b : Bool) → (a && b) ≡ true → b ≡ true
both_true true b e = e
both_true false b e = cc

-- one more that is none of those before
firsts_more : {A : Type 0} (held : List (ℕ × A)) (x : ℕ × A) → IsDistinct nat_eq (firsts held) → has x.0 held ≡ false → IsDistinct nat_eq (firsts (held ++ x ∷ []))
firsts_more {A} held x distinct fresh =
    subst (IsDistinct nat_eq) (sym (map-append (λ (x : ℕ × A). x.0) held (x ∷ []))) (distinct_more x.0 (firsts held) distinct (sym (has_first x.0 held) ∙ fresh))

cid_fresh : (total greatest : ℕ) (held : List (ℕ × Record)) (text : List ℕ) (y : ℕ × List ℕ) → cid_at total greatest held text ≡ Ok y → has y.0 held ≡ false
unfolding cid_at
cid_fresh total greatest held text y e =
    let step = bind_ok (word_at total text) _ y e in
    let is = given_test (nat_le step.0.0 greatest && not (has step.0.0 held)) (BadOrder (total - length text)) step.0 y step.2 in
    ap (λ (y : ℕ × List ℕ). has y.0 held) (sym is.1) ∙ not_true (has step.0.0 held) (both_true (nat_le step.0.0 greatest) (not (has step.0.0 held)) is.0)

context_fresh : (total greatest : ℕ) (held : List (ℕ × Record)) (text : List ℕ) (y : (ℕ × Record) × List ℕ) → context_at total greatest held text ≡ Ok y → has y.0.0 held ≡ false
unfolding context_at
context_fresh total greatest held text y e =
    let step = bind_ok (cid_at total greatest held text) _ y e in
    let more = bind_ok (record_text_at total step.0.1) _ y step.2 in
    ap (λ (y : (ℕ × Record) × List ℕ). has y.0.0 held) (sym (ok_is {E = SavedFault} ((step.0.0, more.0.0), more.0.1) y more.2)) ∙ cid_fresh total greatest held text step.0 step.1

contexts_apart : (total greatest count : ℕ) (held : List (ℕ × Record)) (text : List ℕ) (y : List (ℕ × Record) × List ℕ) → IsDistinct nat_eq (firsts held)
    → contexts_at total greatest count held text ≡ Ok y → IsDistinct nat_eq (firsts y.0)
unfolding contexts_at
contexts_apart total greatest zero held text y distinct e = subst (λ (y : List (ℕ × Record) × List ℕ). IsDistinct nat_eq (firsts y.0)) (ok_is {E = SavedFault} (held, text) y e) distinct
contexts_apart total greatest (suc count) held text y distinct e =
    let step = bind_ok (context_at total greatest held text) _ y e in
    contexts_apart total greatest count (held ++ step.0.0 ∷ []) step.0.1 y (firsts_more held step.0.0 distinct (context_fresh total greatest held text step.0 step.1)) step.2

number_fresh : (total : ℕ) (held : List (ℕ × Link)) (text : List ℕ) (y : ℕ × List ℕ) → number_at total held text ≡ Ok y → has y.0 held ≡ false
unfolding number_at
number_fresh total held text y e =
    let step = bind_ok (word_at total text) _ y e in
    let is = given_test (not (has step.0.0 held)) (BadOrder (total - length text)) step.0 y step.2 in
    ap (λ (y : ℕ × List ℕ). has y.0 held) (sym is.1) ∙ not_true (has step.0.0 held) is.0

-- the CIDs of a link are apart
abbrev pub HasApart : ℕ × Link → Type 0
HasApart l = IsDistinct nat_eq (firsts l.1.contexts)

link_fresh : (total : ℕ) (held : List (ℕ × Link)) (text : List ℕ) (y : (ℕ × Link) × List ℕ) → link_at total held text ≡ Ok y → (has y.0.0 held ≡ false) × HasApart y.0
unfolding link_at
link_fresh total held text y e =
    let a = bind_ok (number_at total held text) _ y e in
    let b = bind_ok (size_at total a.0.1) _ y a.2 in
    let c = bind_ok (reserved_at total b.0.1) _ y b.2 in
    let d = bind_ok (greatest_at total b.0.0 c.0) _ y c.2 in
    let f = bind_ok (word_at total d.0.1) _ y d.2 in
    let g = bind_ok (contexts_at total d.0.0 f.0.0 [] f.0.1) _ y f.2 in
    subst (λ (y : (ℕ × Link) × List ℕ). (has y.0.0 held ≡ false) × HasApart y.0) (ok_is {E = SavedFault} ((a.0.0, record { size = b.0.0; greatest = d.0.0; contexts = g.0.0 }), g.0.1) y g.2)
    (number_fresh total held text a.0 a.1, contexts_apart total d.0.0 f.0.0 [] f.0.1 g.0 distinct_none g.1)

-- the links are apart, and the CIDs of each
pub record AreApart (links : List (ℕ × Link)) : Type 0 where
  pub numbers : IsDistinct nat_eq (firsts links)
  pub each : AllByRecursion HasApart links

each_more : (links : List (ℕ × Link)) (x : ℕ × Link) → AllByRecursion HasApart links → HasApart x → AllByRecursion HasApart (links ++ x ∷ [])
each_more [] x all last = (last, tt)
each_more (l ∷ links) x all last = (all.0, each_more links x all.1 last)

links_order : (total count : ℕ) (held : List (ℕ × Link)) (text : List ℕ) (y : List (ℕ × Link) × List ℕ) → AreApart held → links_at total count held text ≡ Ok y → AreApart y.0
unfolding links_at
links_order total zero held text y apart e = subst (λ (y : List (ℕ × Link) × List ℕ). AreApart y.0) (ok_is {E = SavedFault} (held, text) y e) apart
links_order total (suc count) held text y apart e =
    let step = bind_ok (link_at total held text) _ y e in
    let fresh = link_fresh total held text step.0 step.1 in
    links_order total count (held ++ step.0.0 ∷ []) step.0.1 y (record { numbers = firsts_more held step.0.0 apart.numbers fresh.0; each = each_more held step.0.0 apart.each fresh.1 }) step.2

pub form_order : (text : List ℕ) (form : Form) → restored text ≡ Ok form → AreApart form.links
unfolding restored form_at
form_order text form e =
    let whole = bind_ok (form_at (length text) text) _ form e in
    let last = bind_ok (digest_at text whole.0.1) _ form whole.2 in
    let is = given_test (length last.0 == 0) (Long (length text - length last.0)) whole.0.0 form last.2 in
    let a = bind_ok (magic_at text) _ whole.0 whole.1 in
    let b = bind_ok (version_at (length text) a.0) _ whole.0 a.2 in
    let c = bind_ok (long_at (length text) b.0) _ whole.0 b.2 in
    let d = bind_ok (word_at (length text) c.0.1) _ whole.0 c.2 in
    let g = bind_ok (links_at (length text) d.0.0 [] d.0.1) _ whole.0 d.2 in
    let links = links_order (length text) d.0.0 [] d.0.1 g.0 (record { numbers = distinct_none; each = tt }) g.1 in
    let same = ok_is {E = SavedFault} (record { moment = c.0.0; links = g.0.0 }, g.0.1) whole.0 g.2 in
    subst (λ (form : Form). AreApart form.links) (ap (λ (y : Form × List ℕ). y.0) same ∙ is.1) links

pub moment_in_front : MomentIsInFront
unfolding restored form_at moment_at
moment_in_front text form e =
    let whole = bind_ok (form_at (length text) text) _ form e in
    let last = bind_ok (digest_at text whole.0.1) _ form whole.2 in
    let is = given_test (length last.0 == 0) (Long (length text - length last.0)) whole.0.0 form last.2 in
    let a = bind_ok (magic_at text) _ whole.0 whole.1 in
    let b = bind_ok (version_at (length text) a.0) _ whole.0 a.2 in
    let c = bind_ok (long_at (length text) b.0) _ whole.0 b.2 in
    let d = bind_ok (word_at (length text) c.0.1) _ whole.0 c.2 in
    let g = bind_ok (links_at (length text) d.0.0 [] d.0.1) _ whole.0 d.2 in
    let same = ok_is {E = SavedFault} (record { moment = c.0.0; links = g.0.0 }, g.0.1) whole.0 g.2 in
    let moment = ap (λ (y : Form × List ℕ). y.0.moment) same ∙ ap (λ (form : Form). form.moment) is.1 in (
      c.0.1,
      ap (λ (r : Result (List ℕ) SavedFault). r >>= λ front. version_at (length text) front >>= long_at (length text)) a.1
          ∙ ap (λ (r : Result (List ℕ) SavedFault). r >>= long_at (length text)) b.1
          ∙ c.1
          ∙ ap (λ (m : ℕ). Ok (m, c.0.1)) moment,
    )
