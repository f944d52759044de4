use Rattle.std.proofs.Common.{◌≡◌, ◌≤◌, ◌∙◌, ◌-◌, ◌+◌, [], suc, ap, sym, arith}
use Rattle.rohc_saved.specs.Read.{links_in}
use Rattle.rohc_saved.specs.Reading.{links_at}
use Rattle.rohc_saved.proofs.ReadingLemmas.{links_step, links_stop, links_end, stops, either_by}
use Rattle.rohc_saved.proofs.reading.links.Goals as goal

pub loop-preserved : goal.loop-preserved
loop-preserved c =
    let step = c.in_ok-next_link.ensures.reads in
    let more : c.args.count - c.loop.counter ≡ suc (c.args.count - (c.loop.counter + 1)) = omega arith in
    sym (links_step c.args.total (c.args.count - (c.loop.counter + 1)) (links_in c.loop.links) (links_in c.next_link.new.links) c.loop.cursor c.next_link.new.cursor step.0 step.1 step.2)
    ∙ ap (λ n. links_at c.args.total n (links_in c.loop.links) c.loop.cursor) (sym more) ∙ c.loop.invariant

pub returns-in_err-next_link : goal.returns-in_err-next_link
returns-in_err-next_link c =
    let more : c.args.count - c.loop.counter ≡ suc (c.args.count - (c.loop.counter + 1)) = omega arith in
    let some : 1 ≤ c.args.count = omega arith in
    let whole = sym c.loop.invariant ∙ ap (λ n. links_at c.args.total n (links_in c.loop.links) c.loop.cursor) more in
    record {
      reads =
          stops links_in c.from_residual.result c.next_link.new.cursor c.in_err-next_link.field-0.0 (links_at c.args.total c.args.count [] c.args.cursor.now)
          c.from_residual.ensures.0 c.from_residual.ensures.1
          (either_by (λ poor. (poor, some)) (λ stop. whole ∙ links_stop c.args.total (c.args.count - (c.loop.counter + 1)) (links_in c.loop.links) c.loop.cursor c.in_err-next_link.field-0.0 stop) c.in_err-next_link.ensures.reads);
    }

pub returns : goal.returns
returns c = record {
  reads = sym c.loop.invariant ∙ links_end c.args.total (c.args.count - c.loop.counter) (links_in c.loop.links) c.loop.cursor (omega arith);
}
