-- The code's values as plain data.
-- Words: try_of, tries_of, explained_of, acceptance_of, verdict_of, IsSound.
use Rattle.std.specs.Prelude.{ℕ, List, [], ◌∷◌, Option, Some, None, Result, Ok, Err}
use Rattle.rohc_header.specs.declared.fields.Static.{Static}
use Rattle.rohc_chain.specs.Good.{IsGoodDynamic}
use Rattle.rohc_forms.specs.Content.{Content}
use Rattle.rohc_context.specs.declared.reference.Reference as saved
use Rattle.rohc_context.specs.declared.explain.Explained as code
use Rattle.rohc_context.specs.declared.tries.Accepted.{Accepted}
use Rattle.rohc_context.specs.declared.fault.Fault.{Fault}
use Rattle.rohc_context.specs.declared.fault.Fault.TheVariants.{Unfit}
use Rattle.rohc_context.specs.Explains.{Explained}
use Rattle.rohc_context.specs.Record.{reference_of}
use Rattle.rohc_context.specs.Saved.{AreRegisters, IsKept}
use Rattle.rohc_context.specs.Tries.{Try, Acceptance}

abbrev pub try_of : saved.Reference → ℕ → Try
try_of reference shift = record { reference = reference_of reference; shift = shift }

-- a try, or none
abbrev pub tries_of : Option Try → List Try
tries_of None = []
tries_of (Some t) = t ∷ []

abbrev pub explained_of : code.Explained → Explained
explained_of h = record { moving = h.moving; octets = h.header.octets }

abbrev pub acceptance_of : Content → Accepted → Acceptance
acceptance_of c a =
    record { content = c; reference = reference_of a.reference; header = explained_of a.header }

abbrev pub verdict_of : Content → Option Accepted → Result Acceptance Fault
verdict_of c None = Err Unfit
verdict_of c (Some a) = Ok (acceptance_of c a)

-- the fields of an accepted header are good, and its registers are those of its fields
pub record IsSound (fixed : Static) (a : Accepted) : Type 0 where
  pub kept : IsKept fixed a.reference.moving a.reference.saved
  pub good : IsGoodDynamic a.header.moving
  pub registers : AreRegisters fixed a.header.moving a.header.saved
