-- What a caller may see of a record. Words: profile_of, context_state_of.
use Rattle.rohc_context.specs.Record.{State, Plain, NoContext, StaticContext, FullContext}
use Rattle.rohc_context.specs.declared.standing.Profile.{Profile}
use Rattle.rohc_context.specs.declared.standing.Profile.TheVariants as profiles
use Rattle.rohc_context.specs.declared.standing.ContextState.{ContextState}
use Rattle.rohc_context.specs.declared.standing.ContextState.TheVariants as states

-- the profile (RFC 3095 8)
abbrev pub profile_of : State → Profile
profile_of Plain = profiles.Uncompressed
profile_of (NoContext nacked) = profiles.Rtp
profile_of (StaticContext fixed reference first second) = profiles.Rtp
profile_of (FullContext fixed reference previous window) = profiles.Rtp

-- the state of the decompressor (RFC 3095 4.3.2; 5.10.3 for profile 0x0000, which is in Full Context)
abbrev pub context_state_of : State → ContextState
context_state_of Plain = states.FullContext
context_state_of (NoContext nacked) = states.NoContext
context_state_of (StaticContext fixed reference first second) = states.StaticContext
context_state_of (FullContext fixed reference previous window) = states.FullContext
