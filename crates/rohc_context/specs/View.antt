-- What a context shows of its record.
-- Words: view_of.
use Rattle.std.specs.Prelude.{option_map}
use Rattle.rohc_context.specs.declared.view.ReferenceView.{ReferenceView}
use Rattle.rohc_context.specs.declared.view.StateView.{StateView}
use Rattle.rohc_context.specs.declared.view.StateView.TheVariants as views
use Rattle.rohc_context.specs.declared.view.View.{View}
use Rattle.rohc_context.specs.Record.{Reference, State, Plain, NoContext, StaticContext, FullContext, Record}
use Rattle.rohc_context.specs.Window.{outcomes}

-- the reference that is shown
abbrev pub reference_view_of : ReferenceView → Reference
reference_view_of r = record { moving = r.moving; carries_sum = r.carries_sum }

-- the state that is shown
abbrev pub state_view_of : StateView → State
state_view_of views.Plain = Plain
state_view_of (views.NoContext nacked) = NoContext nacked
state_view_of (views.Static fixed reference windows) =
    StaticContext fixed (option_map reference_view_of reference) (outcomes windows.0) (outcomes windows.1)
state_view_of (views.Full fixed reference previous window) =
    FullContext fixed (reference_view_of reference) (option_map reference_view_of previous) (outcomes window)

-- the record that is shown
abbrev pub view_of : View → Record
view_of v = record { accepted = v.accepted; state = state_view_of v.state }
