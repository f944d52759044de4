-- Waiting times, each said by an arrival at its end and one before it. Words: the laws.
use Rattle.std.specs.Prelude.{◌≡◌, ◌≢◌, ℕ, ◌+◌, ◌-◌, ◌*◌, ◌^◌, ◌<◌, ◌≤◌, [], ◌∷◌, true, Option, Some, None, unwrap_or}
use Rattle.rohc_frame.specs.Header.{Header, IsIr}
use Rattle.rohc_forms.specs.Content.{Content}
use Rattle.rohc_context.specs.declared.due.Due.TheVariants.{StaticNack}
use Rattle.rohc_context.specs.declared.refusal.Refusal.TheVariants.{StateTooLow}
use Rattle.rohc_context.specs.declared.settings.Settings.{Settings}
use Rattle.rohc_context.specs.Settings.{limits}
use Rattle.rohc_context.specs.Record.{Reference, NoContext, Record}
use Rattle.rohc_context.specs.Response.{Response, failed, refused}
use Rattle.rohc_context.specs.Due.{sent}
use Rattle.rohc_context.specs.Tries.{has_short_check, second_tries}
use Rattle.rohc_context.specs.Step.{LoneStep, counts}

-- In No Context a packet that isn't an IR is answered by a STATIC-NACK from `static_nack_ms` after the last
-- one on.
abbrev pub NacksAfterWait : Type 0
NacksAfterWait = (r : Record) (nacked : ℕ) (s : Settings) (moment : ℕ) (h : Header) (response : Response)
    (next : Option Record) → r.state ≡ NoContext nacked → counts s moment r ≡ true → ¬ IsIr h.kind →
    nacked + s.static_nack_ms ≤ moment → LoneStep (Some r) s moment h response next →
    (response ≡ failed StateTooLow (sent s.mode h StaticNack))
    × (next ≡ Some (record { accepted = r.accepted; state = NoContext moment }))

-- Before that it gets none, and nothing changes.
abbrev pub WaitsToNack : Type 0
WaitsToNack = (r : Record) (nacked : ℕ) (s : Settings) (moment : ℕ) (h : Header) (response : Response)
    (next : Option Record) → r.state ≡ NoContext nacked → counts s moment r ≡ true → ¬ IsIr h.kind →
    s.static_nack_ms ≢ 0 → moment < nacked + s.static_nack_ms → LoneStep (Some r) s moment h response next →
    (response ≡ refused StateTooLow) × (next ≡ Some r)

-- From `idle_ms` after its last accepted arrival on, a record is answered as none is. If the step without a
-- record leaves none, the record stays.
abbrev pub IdleIsNone : Type 0
IdleIsNone = (r : Record) (s : Settings) (moment : ℕ) (h : Header) (response : Response)
    (next : Option Record) → s.idle_ms ≢ 0 → r.accepted + s.idle_ms ≤ moment →
    LoneStep (Some r) s moment h response next →
    (alone : Option Record) × LoneStep None s moment h response alone × (next ≡ Some (unwrap_or alone r))

-- Before that the record counts.
abbrev pub CountsUntilIdle : Type 0
CountsUntilIdle = (r : Record) (s : Settings) (moment : ℕ) → moment < r.accepted + s.idle_ms →
    counts s moment r ≡ true

-- The second try of a packet with k SN bits comes from `packet_ms * 2^k` after the last accepted arrival on.
abbrev pub TriesAfterWait : Type 0
TriesAfterWait = (r : Record) (s : Settings) (moment : ℕ) (reference : Reference) (c : Content) →
    has_short_check c.kind ≡ true → r.accepted + s.packet_ms * 2 ^ c.sn.count ≤ moment →
    second_tries (limits s) (moment - r.accepted) reference c
    ≡ record { reference = reference; shift = 2 ^ c.sn.count } ∷ []

-- Before that there is none.
abbrev pub WaitsToTry : Type 0
WaitsToTry = (r : Record) (s : Settings) (moment : ℕ) (reference : Reference) (c : Content) →
    s.packet_ms ≢ 0 → moment < r.accepted + s.packet_ms * 2 ^ c.sn.count →
    second_tries (limits s) (moment - r.accepted) reference c ≡ []
