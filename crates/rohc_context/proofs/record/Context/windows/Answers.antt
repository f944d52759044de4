use Rattle.std.proofs.Common.{ap, sym, ◌∙◌, Some}
use Rattle.std.specs.Prelude.{List, Bool}
use Rattle.rohc_context.specs.Window.{outcomes}
use Rattle.rohc_context.specs.Record.{state_of, record_of}
use Rattle.rohc_context.specs.Lent.{windows_in}
use Rattle.rohc_context.proofs.WindowLemmas.{none_of}
use Rattle.rohc_context.proofs.record.Context.windows.Goals as goal

pub returns-in-Full : goal.returns-in-Full
unfolding record_of
returns-in-Full c =
    let w = c.in-Full.context.windows in
    ap (λ (none : List Bool). Some (outcomes w.0, none)) (none_of w.1 c.in-Full.context.one_window) ∙ ap (λ s. windows_in (state_of s)) (sym c.in-Full.is)

pub returns-in-Static : goal.returns-in-Static
unfolding record_of
returns-in-Static c = ap (λ s. windows_in (state_of s)) (sym c.in-Static.is)
