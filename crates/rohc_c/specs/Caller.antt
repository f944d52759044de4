-- A caller's buffers and struct, as they take an answer. Words: buffers_of; HasRoomFor, IsTold.
use Rattle.std.specs.Prelude.{◌≡◌, ◌≤◌, ◌-◌, length}
use Rattle.rohc_concentrator.specs.Report.{Report}
use Rattle.rohc_c.specs.declared.caller.Caller.{Caller}
use Rattle.rohc_c.specs.Relay.{FitsInRoom}
use Rattle.rohc_c.specs.Written.{Buffers, relayed_in, IsAnswerWritten, IsWithin}

-- the buffers as they stand
abbrev pub buffers_of : Caller → Buffers
buffers_of c = record { packet = c.packet.now; feedback = c.feedback.now; relayed = c.relayed.now }

-- there is room for this answer
pub record HasRoomFor (c : Caller) (report : Report) : Type 0 where
  pub head : 40 ≤ length c.packet.now
  pub packet : IsWithin (length c.packet.now - 40) report
  pub feedback : 8 ≤ length c.feedback.now
  pub relayed : FitsInRoom (relayed_in report) (length c.relayed.now)

-- the answer stands in the buffers and the struct, which are those that were lent
pub record IsTold (old : Caller) (report : Report) (new : Caller) : Type 0 where
  pub written : IsAnswerWritten report (buffers_of new) new.arrival.now
  pub packet_lent : new.packet.ghost_name ≡ old.packet.ghost_name
  pub feedback_lent : new.feedback.ghost_name ≡ old.feedback.ghost_name
  pub relayed_lent : new.relayed.ghost_name ≡ old.relayed.ghost_name
  pub arrival_lent : new.arrival.ghost_name ≡ old.arrival.ghost_name
  pub packet_length : length new.packet.now ≡ length old.packet.now
  pub feedback_length : length new.feedback.now ≡ length old.feedback.now
  pub relayed_length : length new.relayed.now ≡ length old.relayed.now
