-- What a context shows of its windows and registers.
-- Words: windows_in, Saves.
use Rattle.std.specs.Prelude.{◌≡◌, ℕ, List, [], Bool, Option, Some, None}
use Rattle.rohc_context.specs.Record.{State, Plain, NoContext, StaticContext, FullContext}
use Rattle.rohc_context.specs.Saved.{AreRegisters}

-- the two windows of a state; in Full Context the second is empty
abbrev pub windows_in : State → Option (List Bool × List Bool)
windows_in Plain = None
windows_in (NoContext nacked) = None
windows_in (StaticContext fixed reference first second) = Some (first, second)
windows_in (FullContext fixed reference previous window) = Some (window, [])

-- these are the registers after the static octets of headers with the reference's fields, if there is a
-- reference
abbrev pub Saves : State → Option (ℕ × ℕ) → Type 0
Saves Plain saved = saved ≡ None
Saves (NoContext nacked) saved = saved ≡ None
Saves (StaticContext fixed None first second) saved = saved ≡ None
Saves (StaticContext fixed (Some r) first second) saved = (s : ℕ × ℕ) × (saved ≡ Some s)
    × AreRegisters fixed r.moving s
Saves (FullContext fixed r previous window) saved = (s : ℕ × ℕ) × (saved ≡ Some s)
    × AreRegisters fixed r.moving s
