-- One event of one context: which rule a state has for a packet, and what each rule does.
-- Words: Rule, rule; counting, Follows, Steps; Gives, Answers, LoneStep; HasMissed.
use Rattle.std.specs.Prelude.{◌≡◌, ◌<◌, ℕ, ◌-◌, Option, Some, None, Bool, true, ◌==◌, ◌||◌, nat_lt, nat_le, if◌then◌else◌}
use Rattle.rohc_frame.specs.declared.header.HeadKind.{HeadKind}
use Rattle.rohc_frame.specs.declared.header.HeadKind.TheVariants.{Ir, IrDyn, Other}
use Rattle.rohc_frame.specs.Header.{Header}
use Rattle.rohc_chain.specs.Packets.{ir_at}
use Rattle.rohc_context.specs.declared.refusal.Refusal.TheVariants as refusals
use Rattle.rohc_context.specs.declared.settings.Settings.{Settings}
use Rattle.rohc_context.specs.Record.{State, NoContext, StaticContext, Record}
use Rattle.rohc_context.specs.Response.{Response}
use Rattle.rohc_context.specs.Settings.{limits}
use Rattle.rohc_context.specs.Due.{sent}
use Rattle.rohc_context.specs.Failures.{after_low_state}
use Rattle.rohc_context.specs.Outcomes.{Arrival, Ending, refuses, fails}
use Rattle.rohc_context.specs.Renewal.{Renews}
use Rattle.rohc_context.specs.Refresh.{Refreshes}
use Rattle.rohc_context.specs.Update.{MissesIn, Updates}

-- what a state does with a packet
pub data Rule : Type 0 where
  Renew : Rule
  Refresh : Rule
  Update : Rule
  TooLow : Rule

-- Every state takes an IR, and No Context nothing else. Static Context takes an IR-DYN too and, if it has a
-- reference, the UOR-2 formats (first octet C0 or above). Full Context and profile 0x0000 take all packets
-- (RFC 3095 5.3.2.2).
abbrev pub rule : State → HeadKind → (first : ℕ) → Rule
rule state (Ir dynamic) first = Renew
rule (NoContext nacked) kind first = TooLow
rule (StaticContext fixed None v w) Other first = TooLow
rule (StaticContext fixed (Some reference) v w) Other first = if nat_le 0xc0 first then Update else TooLow
rule state IrDyn first = Refresh
rule state Other first = Update

-- A record counts if fewer than `idle_ms` milliseconds have passed since its last accepted arrival, or if
-- `idle_ms` is 0. An earlier arrival time counts as no time passed.
abbrev pub counts_within : (idle_ms : ℕ) → ℕ → Record → Bool
counts_within idle_ms moment r = (idle_ms == 0) || nat_lt (moment - r.accepted) idle_ms

abbrev pub counts : Settings → ℕ → Record → Bool
counts s moment r = counts_within s.idle_ms moment r

-- the record, if there is one that counts
abbrev pub counting_within : (idle_ms : ℕ) → ℕ → Option Record → Option Record
counting_within idle_ms moment None = None
counting_within idle_ms moment (Some r) = if counts_within idle_ms moment r then Some r else None

abbrev pub counting : Settings → ℕ → Option Record → Option Record
counting s moment before = counting_within s.idle_ms moment before

-- what each rule does with a record
abbrev pub Follows : Rule → Arrival → Record → Ending → Type 0
Follows Renew a r ending = Renews a (Some r) (Some r) (ir_at a.header) ending
Follows Refresh a r ending = Refreshes a r r.state ending
Follows Update a r ending = Updates a r r.state ending
Follows TooLow a r ending = ending ≡ fails r refusals.StateTooLow (after_low_state a.limits a.moment r.state)

-- A record that counts follows its state's rule. If none counts, an IR makes one, and every other packet is
-- NoContext.
abbrev pub Steps : HeadKind → (counting before : Option Record) → Arrival → Ending → Type 0
Steps kind (Some r) before a ending = Follows (rule r.state kind a.header.first) a r ending
Steps (Ir dynamic) None before a ending = Renews a None before (ir_at a.header) ending
Steps IrDyn None before a ending = ending ≡ refuses refusals.NoContext before
Steps Other None before a ending = ending ≡ refuses refusals.NoContext before

-- The answer and the record of an ending. Only O mode sends what is due.
abbrev pub Gives : Settings → Header → Ending → Response → Option Record → Type 0
Gives s h ending response next = (response ≡ record ending.answer { feedback = sent s.mode h ending.due })
    × (next ≡ ending.after)

-- the answer and the record of some ending of this kind
abbrev pub Answers : Settings → Header → (Ending → Type 0) → Response → Option Record → Type 0
Answers s h Is response next = (ending : Ending) × Is ending × Gives s h ending response next

-- an arrival under these settings
abbrev pub arrival : Settings → ℕ → Header → Arrival
arrival s moment h = record { limits = limits s; moment = moment; header = h }

-- The record before, if there is one, the settings, the arrival time and the header, and then the answer and
-- the record after. The crates above know this as `LoneStep` and don't look inside.
unfoldable pub LoneStep : Option Record → Settings → ℕ → Header → Response → Option Record → Type 0
LoneStep before s moment h response next =
    Answers s h (Steps h.kind (counting s moment before) before (arrival s moment h)) response next

-- A packet that begins as a UO-0 does (RFC 3095 5.7.1) was tried against a record, and misses by the first
-- try, if the record counts.
unfoldable pub HasMissed : (idle_ms moment : ℕ) → Record → Header → Type 0
HasMissed idle_ms moment r h = h.first < 0x80 → counts_within idle_ms moment r ≡ true → MissesIn r.state h
