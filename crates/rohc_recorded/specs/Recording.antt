-- The acts that events record. Words: octets_of; act_of, acts_of.
use Rattle.std.specs.Prelude.{ℕ, List, map, Option, Some, None, Result, Ok, Err}
use Rattle.std.specs.declared.alloc.Global.{Global}
use Rattle.std.specs.declared.vec.Vec.{Vec}
use Rattle.rohc_world.specs.declared.trouble.Trouble.{Trouble}
use Rattle.rohc_world.specs.Acts as world
use Rattle.rohc_world.specs.Acts.{Act}
use Rattle.rohc_recorded.specs.declared.event.Event.{Event}
use Rattle.rohc_recorded.specs.declared.event.Event.TheVariants.{Opened, Read, Created, Wrote, Synced, Closed, Renamed, Removed, SyncedFolder, SetModified, Modified, Dated, Timed, Logged}

-- what a read returned
abbrev pub octets_of : Result (Vec ℕ Global) Trouble → Result (List ℕ) Trouble
octets_of (Ok octets) = Ok octets.items
octets_of (Err trouble) = Err trouble

abbrev pub act_of : Event → Act
act_of (Opened path result) = world.Opened path.items result
act_of (Read result) = world.Read (octets_of result)
act_of (Created path result) = world.Created path.items result
act_of (Wrote octets result) = world.Wrote octets.items result
act_of (Synced result) = world.Synced result
act_of Closed = world.Closed
act_of (Renamed from to result) = world.Renamed from.items to.items result
act_of (Removed path result) = world.Removed path.items result
act_of (SyncedFolder path result) = world.SyncedFolder path.items result
act_of (SetModified date result) = world.SetModified date result
act_of (Modified path result) = world.Modified path.items result
act_of (Dated result) = world.Dated result
act_of (Timed result) = world.Timed result
act_of (Logged line result) = world.Logged line.items result

-- the acts, as long as they are known
abbrev pub acts_of : Option (Vec Event Global) → Option (List Act)
acts_of None = None
acts_of (Some events) = Some (map act_of events.items)
