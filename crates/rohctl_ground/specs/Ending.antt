-- The exit statuses of the program.
use Rattle.std.specs.Prelude.{ℕ}
use Rattle.rohctl_ground.specs.declared.ending.Ending.{Ending}
use Rattle.rohctl_ground.specs.declared.ending.Ending.TheVariants.{Good, Findings, Closed, CommandLine, Misuse, LinksFile, LinksUnread, Differs, Capture, State, NoGateway, Read, Write, Memory, Nothing, NoFrame, Dropped}

-- the statuses that the program ends with
abbrev pub status_of : Ending → ℕ
status_of Good = 0
status_of Findings = 1
status_of Closed = 0
status_of CommandLine = 2
status_of (Misuse misuse) = 2
status_of LinksFile = 3
status_of (LinksUnread path reason) = 3
status_of Differs = 4
status_of (Capture path fault) = 4
status_of (State path fault) = 4
status_of NoGateway = 4
status_of (Read path reason) = 4
status_of (Write path reason) = 4
status_of Memory = 5
status_of (Nothing path nothing) = 6
status_of NoFrame = 6
status_of Dropped = 7
