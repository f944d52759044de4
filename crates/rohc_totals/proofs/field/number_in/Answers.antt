use Rattle.std.proofs.Common.{◌≡◌, ℕ, Result, true, Ok, Err, arith, ap, sym, ◌∙◌}
use Rattle.std.specs.Fmt.{decimal}
use Rattle.std.proofs.lemmas.Bool.Decides.{Decides-eqb}
use Rattle.std.proofs.lemmas.Slice.Eq.{slice_eq-Decides}
use Rattle.std.proofs.lemmas.Fmt.{parse-decimal}
use Rattle.rohc_totals.proofs.field.number_in.Goals as goal

ok_one : {E : Type 0} (a b : ℕ) → ◌≡◌ {A = Result ℕ E} (Ok a) (Ok b) → a ≡ b
ok_one a b e = cc

err_ok : {E : Type 0} (x : E) (b : ℕ) → ◌≡◌ {A = Result ℕ E} (Err x) (Ok b) → ⊥
err_ok x b e = cc

pub returns-else-eq-clause-none : goal.returns-else-eq-clause-none
returns-else-eq-clause-none c = λ n small is.
    let same : c.in-Ok.number ≡ n = ok_one {E = Unit {0}} c.in-Ok.number n (parse-decimal 16 n c.args.text.now (Ok c.in-Ok.number) small (omega (arith, small)) is c.in-Ok.ensures.value) in
    let written : c.as_bytes.result.now ≡ c.args.text.now = c.as_bytes.ensures.value ∙ c.format.ensures.text ∙ ap decimal same ∙ sym is in
    let equal : c.eq.result ≡ true = (slice_eq-Decides Decides-eqb c.as_bytes.result.now c.as_bytes-in-Ok.result.now c.eq.result c.eq.ensures).1 (written ∙ sym c.as_bytes-in-Ok.ensures.value) in
    let unequal = c.if-eq.false in
    absurd cc

pub returns-in-Err-clause-none : goal.returns-in-Err-clause-none
returns-in-Err-clause-none c = λ n small is.
    err_ok {E = Unit {0}} tt n (parse-decimal 16 n c.args.text.now (Err tt) small (omega (arith, small)) is c.in-Err.ensures.value)
