-- How an arrival ends: the answer, the feedback that is due, and the record after it.
-- Words: Arrival, Ending; taken, refuses, fails, ends.
use Rattle.std.specs.Prelude.{ℕ, Option, Some, None}
use Rattle.rohc_frame.specs.Header.{Header}
use Rattle.rohc_context.specs.declared.due.Due.{Due}
use Rattle.rohc_context.specs.declared.due.Due.TheVariants.{Nothing}
use Rattle.rohc_context.specs.declared.fault.Fault.{Fault}
use Rattle.rohc_context.specs.declared.fault.Fault.TheVariants.{Unfit, Refused}
use Rattle.rohc_context.specs.declared.refusal.Refusal.{Refusal}
use Rattle.rohc_context.specs.declared.refusal.Refusal.TheVariants.{Check}
use Rattle.rohc_context.specs.Settings.{Limits}
use Rattle.rohc_context.specs.Record.{State, Record}
use Rattle.rohc_context.specs.Response.{Response, refused}
use Rattle.rohc_context.specs.Failures.{Consequence, after_check}

-- what arrives: its time and its header, under these limits
pub record Arrival : Type 0 where
  pub limits : Limits
  pub moment : ℕ
  pub header : Header

-- how it ends: the answer without feedback, the feedback that is due, and the record after it
pub record Ending : Type 0 where
  pub answer : Response
  pub due : Due
  pub after : Option Record

-- it is taken with this answer, and leads to this state
abbrev pub taken : Arrival → State → Response → Due → Ending
taken a state answer due =
    record { answer = answer; due = due; after = Some (record { accepted = a.moment; state = state }) }

-- it is refused, and nothing changes
abbrev pub refuses : Refusal → Option Record → Ending
refuses refusal before = record { answer = refused refusal; due = Nothing; after = before }

-- it is refused, and leads to this state; the time of the last accepted arrival stays
abbrev pub fails : Record → Refusal → Consequence → Ending
fails r refusal c = record {
  answer = refused refusal;
  due = c.due;
  after = Some (record { accepted = r.accepted; state = c.state });
}

-- the refusal for a fault
abbrev pub refusal_of : Fault → Refusal
refusal_of Unfit = Check
refusal_of (Refused refusal) = refusal

-- A fault. A check that doesn't match is a failure of the record that counts, if there is one. Any other
-- fault changes nothing.
abbrev pub ends : Arrival → (counting before : Option Record) → Fault → Ending
ends a None before fault = refuses (refusal_of fault) before
ends a (Some r) before (Refused refusal) = refuses refusal before
ends a (Some r) before Unfit = fails r Check (after_check a.limits a.moment r.state)
