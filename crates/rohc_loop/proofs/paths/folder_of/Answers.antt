use Rattle.std.proofs.Common.{inl, inr, ℕ, Bor, List, refl, ◌∙◌, ap, subst, arith}
use Rattle.std.specs.Prelude.{Some, None}
use Rattle.std.proofs.lemmas.Str.{IsCharBoundary-start}
use Rattle.std.proofs.lemmas.Str.Pattern.{rfind_char}
use Rattle.rohc_loop.specs.Paths.{IsLastSlash}
use Rattle.rohc_loop.proofs.AskLemmas.{positive}
use Rattle.rohc_loop.proofs.PathLemmas.{got_front}
use Rattle.rohc_loop.proofs.paths.folder_of.Goals as goal

pub returns-in-None : goal.returns-in-None
returns-in-None c = inl (rfind_char 47 c.args.path.now None c.in-None.ensures.cases (omega arith), refl)

pub returns-in-Some-eq0 : goal.returns-in-Some-eq0
returns-in-Some-eq0 c =
    let found = rfind_char 47 c.args.path.now (Some c.in-Some-eq0.field-0) c.in-Some-eq0.ensures.cases (omega arith) in
    let last : IsLastSlash c.args.path.now c.in-Some-eq0.field-0 = record { within = found.0; found = found.1; last = found.2 } in
    inr (inl (subst (λ (k : ℕ). IsLastSlash c.args.path.now k) c.in-Some-eq0.field-0-test last, refl))

pub returns-in-Some : goal.returns-in-Some
returns-in-Some c =
    let found = rfind_char 47 c.args.path.now (Some c.in-Some.index) c.in-Some.ensures.cases (omega arith) in
    let last : IsLastSlash c.args.path.now c.in-Some.index = record { within = found.0; found = found.1; last = found.2 } in
    inr (inr (
      c.in-Some.index,
      positive c.in-Some.index c.in-Some.index-test.1,
      last,
      ap (λ (b : Bor (List ℕ)). b.now) c.unwrap_or.ensures
          ∙ got_front c.args.path.now c.in-Some.index c.get.result _ (IsCharBoundary-start c.args.path.now c.utf8.path)
          c.in-Some.ensures.cases.3 c.get.ensures.cases,
    ))
