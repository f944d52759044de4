-- A handle may go to another thread.
use Rattle.std.specs.Prelude.{Option, Some, None}
use base.Shift.{Keyless}
use mir.Raw.{raw}
use denote.Memory.{lone}
use denote.RawPtr.{Ptr}
use denote.Struct.Struct.{exits_of}
use denote.Struct.Owning.{shape, fields, to}
use denote.Param.Send.{IsSend, AllSend, owning_send, struct_send, sendable}
use Rattle.std.proofs.Crossing as heap
use Rattle.std_alloc.proofs.SendSync.{quiet, lies}
use Rattle.rohc_concentrator.specs.contracts.concentrator.Concentrator.{the_row as R}
use Rattle.rohc_concentrator.proofs.concentrator.Concentrator.TheSendSync.{the_send as concentrator_send}
use Rattle.rohc_c.specs.Held.{held}
use Rattle.rohc_c.specs.contracts.handle.Handle.{the_row, the_type}

-- what a handle owns is of no one thread
held_crosses : (p : Ptr) (x : Option R.Denot) → Keyless (held R p x)
held_crosses p None = tt
held_crosses p (Some k) = (lies R concentrator_send p k, heap.frees.frees _ (raw (lone R.mir)) p)

pub send : IsSend the_row
send =
    let each : AllSend (fields the_type) = (search sendable, tt) in
    owning_send the_type each (λ d. held_crosses d.at d.concentrator)
    (λ k. quiet (to the_type) (exits_of k (fields the_type)) ((struct_send (shape the_type) each).leaving k))
