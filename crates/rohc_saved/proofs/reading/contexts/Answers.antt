use Rattle.std.proofs.Common.{◌≡◌, ◌≤◌, ◌∙◌, ◌-◌, ◌+◌, [], suc, ap, sym, arith}
use Rattle.rohc_saved.specs.Form.{contexts_in}
use Rattle.rohc_saved.specs.Reading.{contexts_at}
use Rattle.rohc_saved.proofs.ReadingLemmas.{contexts_step, contexts_stop, contexts_end, stops, either_by}
use Rattle.rohc_saved.proofs.reading.contexts.Goals as goal

pub loop-preserved : goal.loop-preserved
loop-preserved c =
    let step = c.in_ok-next_context.ensures.reads in
    let more : c.args.count - c.loop.counter ≡ suc (c.args.count - (c.loop.counter + 1)) = omega arith in
    sym (contexts_step c.args.total c.args.greatest (c.args.count - (c.loop.counter + 1)) (contexts_in c.loop.contexts) (contexts_in c.next_context.new.contexts) c.loop.cursor c.next_context.new.cursor step.0 step.1 step.2)
    ∙ ap (λ n. contexts_at c.args.total c.args.greatest n (contexts_in c.loop.contexts) c.loop.cursor) (sym more) ∙ c.loop.invariant

pub returns-in_err-next_context : goal.returns-in_err-next_context
returns-in_err-next_context c =
    let more : c.args.count - c.loop.counter ≡ suc (c.args.count - (c.loop.counter + 1)) = omega arith in
    let some : 1 ≤ c.args.count = omega arith in
    let whole = sym c.loop.invariant ∙ ap (λ n. contexts_at c.args.total c.args.greatest n (contexts_in c.loop.contexts) c.loop.cursor) more in
    record {
      reads =
          stops contexts_in c.from_residual.result c.next_context.new.cursor c.in_err-next_context.field-0.0 (contexts_at c.args.total c.args.greatest c.args.count [] c.args.cursor.now)
          c.from_residual.ensures.0 c.from_residual.ensures.1
          (either_by (λ poor. (poor, some)) (λ stop. whole ∙ contexts_stop c.args.total c.args.greatest (c.args.count - (c.loop.counter + 1)) (contexts_in c.loop.contexts) c.loop.cursor c.in_err-next_context.field-0.0 stop) c.in_err-next_context.ensures.reads);
    }

pub returns : goal.returns
returns c = record {
  reads = sym c.loop.invariant ∙ contexts_end c.args.total c.args.greatest (c.args.count - c.loop.counter) (contexts_in c.loop.contexts) c.loop.cursor (omega arith);
}
