-- The names of the refusals in answer lines.
use Rattle.std.proofs.Common.{◌≡◌, ◌≢◌, ◌++◌, false, codes, rules}
use Rattle.std.specs.Str.{bytes_eq}
use Rattle.rohc_context.specs.Refusal.{name_of}
use Rattle.rohc_context.specs.declared.refusal.Refusal.{Refusal}
use Rattle.rohc_context.specs.declared.refusal.Refusal.TheVariants.{NoMemory}
use Rattle.rohc_replay.specs.Lines.{has_newline}

-- no other refusal has the name of want of memory
pub refused_otherwise : (r : Refusal) → r ≢ NoMemory → bytes_eq (codes "refused NoMemory") (codes "refused " ++ name_of r) ≡ false
refused_otherwise r other = search rules

-- a name is of one line
pub name_one_line : (r : Refusal) → has_newline (name_of r) ≡ false
name_one_line r = search rules
