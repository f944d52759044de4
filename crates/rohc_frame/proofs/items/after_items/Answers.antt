use Rattle.std.proofs.Common.{sym, ◌∙◌}
use Rattle.rohc_frame.specs.Read.{contents_in}
use Rattle.rohc_frame.proofs.SplitLemmas.{split_step, split_end}
use Rattle.rohc_frame.proofs.items.after_items.Goals as goal

pub loop-behind-smaller : goal.loop-behind-smaller
loop-behind-smaller c =
    (split_step c.loop-behind.rest.now (contents_in c.in-Some.field-0-0) c.in-Some.behind.now c.in-Some.ensures).shorter

pub loop-behind-preserved : goal.loop-behind-preserved
loop-behind-preserved c =
    sym (split_step c.loop-behind.rest.now (contents_in c.in-Some.field-0-0) c.in-Some.behind.now c.in-Some.ensures).after ∙ c.loop-behind.invariant

pub returns : goal.returns
returns c = sym (split_end c.loop-behind.rest.now c.in_default.ensures).0 ∙ c.loop-behind.invariant
