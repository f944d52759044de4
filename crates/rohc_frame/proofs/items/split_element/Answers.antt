use Rattle.std.proofs.Common.{sym, ◌∙◌, ap}
use Rattle.std.specs.List.{cons_option}
use Rattle.rohc_frame.specs.Items.{elements_in}
use Rattle.rohc_frame.specs.Read.{contents_in}
use Rattle.rohc_frame.proofs.SplitLemmas.{split_step, split_end}
use Rattle.rohc_frame.proofs.items.split_element.Goals as goal

pub returns-in-Element : goal.returns-in-Element
returns-in-Element c =
    let step = split_step c.loop-item.rest.now (contents_in c.in-Some.item) c.in-Some.behind.now c.in-Some.ensures in
    sym c.loop-item.invariant ∙ step.elements ∙ ap (λ item. cons_option (contents_in item) (elements_in c.in-Some.behind.now)) c.in-Element.is

pub loop-item-smaller : goal.loop-item-smaller
loop-item-smaller c = (split_step c.loop-item.rest.now (contents_in c.in-Some.item) c.in-Some.behind.now c.in-Some.ensures).shorter

pub loop-item-preserved : goal.loop-item-preserved
loop-item-preserved c =
    let step = split_step c.loop-item.rest.now (contents_in c.in-Some.item) c.in-Some.behind.now c.in-Some.ensures in
    ap (λ item. cons_option (contents_in item) (elements_in c.in-Some.behind.now)) (sym c.in_default-item.is) ∙ sym step.elements ∙ c.loop-item.invariant

pub returns : goal.returns
returns c = sym c.loop-item.invariant ∙ (split_end c.loop-item.rest.now c.in_default.ensures).1
