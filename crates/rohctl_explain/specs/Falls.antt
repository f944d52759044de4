-- The states of a context in their order. Words: is_fall.
use Rattle.std.specs.Prelude.{ℕ, Bool, nat_lt}
use Rattle.rohc_context.specs.declared.standing.ContextState.{ContextState}
use Rattle.rohc_context.specs.declared.standing.ContextState.TheVariants.{NoContext, StaticContext, FullContext}

-- how high a state is (RFC 3095 4.3.2)
abbrev pub height : ContextState → ℕ
height NoContext = 0
height StaticContext = 1
height FullContext = 2

-- the second state is below the first
abbrev pub is_fall : ContextState → ContextState → Bool
is_fall before after = nat_lt (height after) (height before)
