-- The exit statuses of the program.
use Rattle.std.specs.Prelude.{ℕ}
use Rattle.rohc_end.specs.declared.End.{End}
use Rattle.rohc_end.specs.declared.End.TheVariants.{Done, CommandLine, LinksFile, Read, Write, Socket, Memory}

-- the statuses that the program ends with
abbrev pub status_of : End → ℕ
status_of Done = 0
status_of CommandLine = 2
status_of (LinksFile name) = 3
status_of Read = 4
status_of Write = 4
status_of Socket = 4
status_of Memory = 5
