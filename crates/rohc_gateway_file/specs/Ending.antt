-- Endings. Words: status_of, is_unsaid.
use Rattle.std.specs.Prelude.{ℕ, Bool, true, false}
use Rattle.rohc_gateway_file.specs.declared.ending.Ending.{Ending}
use Rattle.rohc_gateway_file.specs.declared.ending.Ending.TheVariants.{Good, Findings, CommandLine, Refused, Socket, Write, Memory}

-- the exit status
abbrev pub status_of : Ending → ℕ
status_of Good = 0
status_of Findings = 1
status_of CommandLine = 2
status_of Refused = 3
status_of Socket = 4
status_of (Write e) = 4
status_of Memory = 5

-- what was wrong was not printed yet
abbrev pub is_unsaid : Ending → Bool
is_unsaid Good = false
is_unsaid Findings = false
is_unsaid CommandLine = false
is_unsaid Refused = false
is_unsaid Socket = false
is_unsaid (Write e) = true
is_unsaid Memory = true
