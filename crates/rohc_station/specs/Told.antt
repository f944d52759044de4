-- What came of a datagram. Words: refusal_in a report; Told, told_of; told_unread, told_for a report;
-- outgoing_within, told_within a limit.
use Rattle.std.specs.Prelude.{Bool, true, false, Option, Some, None}
use Rattle.rohc_context.specs.declared.refusal.Refusal.{Refusal}
use Rattle.rohc_context.specs.declared.reply.Outcome.{Outcome}
use Rattle.rohc_context.specs.declared.reply.Outcome.TheVariants as outcomes
use Rattle.rohc_concentrator.specs.Report.{Report, Arrived, OnlyFront, Refused}
use Rattle.rohc_links.specs.declared.ports.Ports.{Ports}
use Rattle.rohc_serve.specs.Outgoing.{Outgoing, outgoing_of, refused_for, sends_of}
use Rattle.rohc_station.specs.declared.sending.Taken.{Taken}

-- the refusal of an outcome, if it is one
abbrev pub refusal_of : Outcome → Option Refusal
refusal_of (outcomes.Refused refusal) = Some refusal
refusal_of outcomes.Delivered = None
refusal_of outcomes.Stored = None

-- why a packet was refused, if it was
abbrev pub refusal_in : Report → Option Refusal
refusal_in (Arrived cid response relayed) = refusal_of response.outcome
refusal_in (OnlyFront relayed) = None
refusal_in (Refused refusal) = Some refusal

-- what is to be sent for a datagram, and why its packet was refused, if it was read and refused
pub record Told : Type 0 where
  pub outgoing : Outgoing
  pub refusal : Option Refusal

abbrev pub told_of : Taken → Told
told_of t = record { outgoing = outgoing_of t.sends; refusal = t.refusal }

-- of a datagram whose packet wasn't read
abbrev pub told_unread : Told
told_unread = record { outgoing = refused_for None; refusal = None }

-- of a report, to the ports of its link
abbrev pub told_for : Option Ports → Report → Told
told_for ports report = record { outgoing = sends_of ports report; refusal = refusal_in report }

-- feedback for the compressor is withheld, or isn't
abbrev pub outgoing_within : (is_withheld : Bool) → Outgoing → Outgoing
outgoing_within true o = record o { feedback = None }
outgoing_within false o = o

abbrev pub told_within : (is_withheld : Bool) → Told → Told
told_within is_withheld t =
    record { outgoing = outgoing_within is_withheld t.outgoing; refusal = t.refusal }
