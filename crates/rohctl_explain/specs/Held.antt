-- What is shown of a context, by its view. Words: profile_of; state_of; fixed_of.
use Rattle.std.specs.Prelude.{Option, Some, None}
use Rattle.rohc_header.specs.declared.fields.Static.{Static}
use Rattle.rohc_context.specs.declared.standing.Profile.{Profile}
use Rattle.rohc_context.specs.declared.standing.Profile.TheVariants as profiles
use Rattle.rohc_context.specs.declared.standing.ContextState.{ContextState}
use Rattle.rohc_context.specs.declared.standing.ContextState.TheVariants as states
use Rattle.rohc_context.specs.declared.view.StateView.{StateView}
use Rattle.rohc_context.specs.declared.view.StateView.TheVariants as views

-- the profile (RFC 3095 8)
abbrev pub profile_of : StateView → Profile
profile_of views.Plain = profiles.Uncompressed
profile_of (views.NoContext nacked) = profiles.Rtp
profile_of (views.Static fixed reference windows) = profiles.Rtp
profile_of (views.Full fixed reference previous window) = profiles.Rtp

-- the state (RFC 3095 4.3.2; 5.10.3 for profile 0x0000)
abbrev pub state_of : StateView → ContextState
state_of views.Plain = states.FullContext
state_of (views.NoContext nacked) = states.NoContext
state_of (views.Static fixed reference windows) = states.StaticContext
state_of (views.Full fixed reference previous window) = states.FullContext

-- the addresses, the ports and the SSRC, where the context keeps them
abbrev pub fixed_of : StateView → Option Static
fixed_of views.Plain = None
fixed_of (views.NoContext nacked) = None
fixed_of (views.Static fixed reference windows) = Some fixed
fixed_of (views.Full fixed reference previous window) = Some fixed
