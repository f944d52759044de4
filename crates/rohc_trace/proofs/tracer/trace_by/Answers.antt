use Rattle.std.proofs.Common.{◌≡◌, ℕ, List, Option, Some, None, IfSome, ◌++◌, take, [], append-nil, ap, sym, ◌∙◌, subst, rules}
use Rattle.std.specs.Io.KnownBytes.{Consumes, IsAtEnd}
use Rattle.rohc_replay.specs.Run.{change}
use Rattle.rohc_trace.specs.Trace.{Traces}
use Rattle.std.proofs.KnownBytes.{Consumes-trans, Consumes-nil}
use Rattle.rohc_trace.proofs.TraceLemmas.{stands_first}
use Rattle.rohc_trace.proofs.tracer.trace_by.Goals as goal

pub loop-init : goal.loop-init
loop-init g c = ([], Consumes-nil _, stands_first _ _ _ c.new-tracer.ensures.lines c.new-tracer.ensures.line)

pub loop-preserved : goal.loop-preserved
loop-preserved g c =
    let before = c.loop.invariant in (
      before.0 ++ take c.in-Ok.count c.read.new.buf,
      Consumes-trans _ _ _ _ _ before.1 c.in-Ok.ensures.bytes.0,
      c.in_ok-take_all.ensures c.args.concentrator.now (g.W.Write.contents c.args.writer.now) before.0 before.2,
    )

whole : (a b c : Option (List ℕ)) (seen more : List ℕ) (P : List ℕ → Type 0) → Consumes a b seen → Consumes b c more → more ≡ [] → IsAtEnd c → P seen → IfSome a P
whole None b c seen more P p q none ends holds = tt
whole (Some x) b (Some z) seen more P p q none ends holds =
    let all : x ≡ (seen ++ more) ++ z = Consumes-trans (Some x) b (Some z) seen more p q in
    subst P (sym (all ∙ ap (λ t. (seen ++ more) ++ t) ends ∙ append-nil (seen ++ more) ∙ ap (λ t. seen ++ t) none ∙ append-nil seen)) holds
whole (Some x) b None seen more P p q none ends holds = absurd (Consumes-trans (Some x) b None seen more p q)

pub returns-then-count-eq0 : goal.returns-then-count-eq0
returns-then-count-eq0 g c =
    let before = c.loop.invariant in
    let got = c.in-Ok.ensures.bytes in
    let first = c.args.concentrator.now in
    let held = g.W.Write.contents c.args.writer.now in
    whole _ _ _ before.0 _ (λ text. Traces (change first held c.end.new.concentrator (g.W.Write.contents c.end.new.writer)) text)
    before.1 got.0 (ap (λ n. take n c.read.new.buf) c.if-count-eq0.true) (got.1 c.if-count-eq0.true (search rules))
    (c.in_ok-end.ensures first held before.0 before.2)
