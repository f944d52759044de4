-- The reason of each kind of error that has one of its own. Words: reason_of.
use Rattle.std.specs.Prelude.{Option, Some, None}
use Rattle.std.specs.declared.io.ErrorKind.{ErrorKind}
use Rattle.std.specs.declared.io.ErrorKind.TheVariants as kind
use Rattle.rohc_text.specs.declared.reason.Reason.{Reason}
use Rattle.rohc_text.specs.declared.reason.Reason.TheVariants as reason

abbrev pub reason_of : ErrorKind → Option Reason
reason_of kind.NotFound = Some reason.Missing
reason_of kind.IsADirectory = Some reason.Directory
reason_of kind.NotADirectory = Some reason.NotADirectory
reason_of kind.PermissionDenied = Some reason.Denied
reason_of kind.ReadOnlyFilesystem = Some reason.ReadOnly
reason_of kind.InvalidFilename = Some reason.LongName
reason_of kind.InvalidInput = Some reason.Invalid
reason_of kind.StorageFull = Some reason.NoSpace
reason_of kind.QuotaExceeded = Some reason.NoSpace
reason_of kind.AddrInUse = Some reason.InUse
reason_of kind.ConnectionRefused = Some reason.NoListener
reason_of kind.TimedOut = Some reason.TimedOut
reason_of kind.WouldBlock = Some reason.TimedOut
reason_of kind.BrokenPipe = Some reason.Closed
reason_of kind.OutOfMemory = Some reason.Memory
reason_of _ = None
