use Rattle.std.proofs.Common.{◌≡◌, ◌<◌, ◌+◌, ◌++◌, ℕ, zero, suc, inl, inr, List, length, flat_map, refl, sym, ap, subst, ◌∙◌, arith, append-nil, length-append}
use Rattle.std.specs.Prelude.{◌⊎◌}
use Rattle.rohc_context.specs.Record.{Record}
use Rattle.rohc_saved.specs.Form.{context_text}
use Rattle.rohc_piecewise.specs.Piecewise.{held_under}
use Rattle.rohc_piecewise.specs.Noted.{head_in}
use Rattle.rohc_piecewise.specs.Between.{one_of, held_from}
use Rattle.rohc_piecewise.proofs.SeenLemmas.{held_next}
use Rattle.rohc_piecewise.proofs.TextLemmas.{contexts_more}
use Rattle.rohc_piecewise.proofs.ready.Ready.look_on.Goals as goal

pub loop-init : goal.loop-init
loop-init c = record {
  next = omega arith;
  within = inl refl;
  count = omega arith;
  text = sym (append-nil c.args.self.now.octets.items);
}

pub returns-then-self-link : goal.returns-then-self-link
returns-then-self-link c =
    let i = c.loop.invariant in
    record {
      cids = c.loop.counter;
      few = omega (arith, c.loop-test.true);
      next = i.next;
      within = i.within;
      some = by c.loop.counter i.next;
      count = i.count;
      text = i.text;
    }
  where
    by : (n : ℕ) → c.loop.self.next ≡ c.args.self.now.next + n → (c.args.link.greatest < c.args.self.now.next) ⊎ (0 < n)
    by zero e = inl (omega (arith, e, c.if-self-link.true))
    by (suc n) e = inr (omega arith)

pub loop-preserved : goal.loop-preserved
loop-preserved c =
    let i = c.loop.invariant in
    let held : List (ℕ × Record) = held_from c.args.concentrator.now (head_in c.args.link) c.args.self.now.next c.loop.counter in
    let one : List (ℕ × Record) = one_of c.loop.self.next (held_under c.args.concentrator.now (head_in c.args.link) c.loop.self.next) in
    let step : held ++ one ≡ held_from c.args.concentrator.now (head_in c.args.link) c.args.self.now.next (c.loop.counter + 1) =
    subst (λ cid. held ++ one_of cid (held_under c.args.concentrator.now (head_in c.args.link) cid) ≡ held_from c.args.concentrator.now (head_in c.args.link) c.args.self.now.next (c.loop.counter + 1)) (sym i.next) (held_next c.args.concentrator.now (head_in c.args.link) c.args.self.now.next c.loop.counter) in
    record {
      next = omega (arith, i.next, c.look.ensures.next);
      within = inr (omega (arith, c.if-self-link.false, c.look.ensures.next));
      count = omega (arith, c.look.ensures.count, i.count, length-append held one, ap length step);
      text = c.look.ensures.text ∙ ap (λ t. t ++ flat_map context_text one) i.text ∙ contexts_more c.args.self.now.octets.items held one ∙ ap (λ cs. c.args.self.now.octets.items ++ flat_map context_text cs) step;
    }

pub returns : goal.returns
returns c =
    let i = c.loop.invariant in
    record {
      cids = c.loop.counter;
      few = c.loop.auto.counter-end;
      next = i.next;
      within = i.within;
      some = inr (omega (arith, c.loop-test.false));
      count = i.count;
      text = i.text;
    }
