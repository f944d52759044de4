-- What is counted for each call, as long as its context stands. Words: sn_in; order_of, ordered,
-- with_sn; last_of; HasAnswer; IsBegun; CountsCall, CountsNone, CountsForCall; stands, KeepsStanding.
use Rattle.std.specs.Prelude.{◌≡◌, ◌≢◌, ℕ, ◌+◌, ◌-◌, ◌*◌, ◌/◌, ◌%◌, ◌^◌, ◌<◌, ◌==◌, length, get_or, min, Bool, true, false, nat_lt, if◌then◌else◌, Option, Some, None, is_some, slice_index}
use Rattle.rohc_context.specs.declared.refusal.Refusal.{Refusal}
use Rattle.rohc_context.specs.declared.reply.Outcome.{Outcome}
use Rattle.rohc_context.specs.declared.reply.Outcome.TheVariants as outcomes
use Rattle.rohc_context.specs.Refusal.{number_of}
use Rattle.rohc_context.specs.Response.{Packet, Response}
use Rattle.rohc_concentrator.specs.declared.concentrator.Concentrator.{Concentrator}
use Rattle.rohc_concentrator.specs.Tables.{record_at}
use Rattle.rohc_concentrator.specs.Report.{Report, Arrived, OnlyFront}
use Rattle.rohc_concentrator.specs.Report as reports
use Rattle.rohc_links.specs.Limits.{counted}
use Rattle.rohc_report.specs.Taken.{key_of}
use Rattle.rohc_station.specs.Limits.{one_if}
use Rattle.rohc_station.specs.Told.{refusal_of}
use Rattle.rohc_station.specs.declared.calls.CallCounts.{CallCounts}
use Rattle.rohc_station.specs.declared.calls.Sequence.{Sequence}
use Rattle.rohc_station.specs.declared.calls.Order.{Order}
use Rattle.rohc_station.specs.declared.calls.Order.TheVariants.{Follows, Again, Late, Restarts}

-- The SN of a packet behind a rebuilt header of 40 octets: the third and fourth octet of its RTP header,
-- which follows 20 octets of IPv4 and 8 of UDP (RFC 3550 5.1).
abbrev pub sn_in : Option Packet → Option ℕ
sn_in None = None
sn_in (Some p) = if length p.head == 40 then Some (get_or p.head 30 0 * 256 + get_or p.head 31 0) else None

-- how far an SN is ahead of another, modulo 2^16
abbrev pub ahead : (newest sn : ℕ) → ℕ
ahead newest sn = (sn + 65536 - newest) % 65536

-- How an SN stands to the newest one (RFC 3550 A.1): it is the same; up to 2,999 ahead, so that those between
-- are missing; up to 99 behind, so that one that was missing came late; or the sender started again.
abbrev pub order_by : (ahead : ℕ) → Order
order_by a =
    if a == 0 then Again
    else if nat_lt a 3000 then Follows (a - 1)
    else if nat_lt 65436 a then Late
    else Restarts

abbrev pub order_of : (newest : Option ℕ) → (sn : ℕ) → Order
order_of None sn = Restarts
order_of (Some newest) sn = order_by (ahead newest sn)

-- what is known of the SNs of a call, after one that stands so to the newest
abbrev pub ordered : Order → (sn : ℕ) → Sequence → Sequence
ordered Again sn q = q
ordered (Follows missing) sn q = record { lost = counted q.lost missing; late = q.late; newest = Some sn }
ordered Late sn q = record { lost = q.lost - 1; late = min (q.late + 1) (2 ^ 32 - 1); newest = q.newest }
ordered Restarts sn q = record { lost = q.lost; late = q.late; newest = Some sn }

abbrev pub with_sn : Option ℕ → Sequence → Sequence
with_sn None q = q
with_sn (Some sn) q = ordered (order_of q.newest sn) sn q

-- The count at a place, one more if this is the refusal of that place. The refusals of a call are 10,
-- NoContext, to 28, Check. A count stays at 2^32 - 1.
abbrev pub more_for : Option Refusal → (place before : ℕ) → ℕ
more_for None place before = before
more_for (Some refusal) place before =
    if number_of refusal == place + 10 then min (before + 1) (2 ^ 32 - 1) else before

-- the last refusal after an answer: its own, or the one before
abbrev pub last_of : Option Refusal → (before : Option Refusal) → Option Refusal
last_of None before = before
last_of (Some refusal) before = Some refusal

abbrev pub is_delivered : Outcome → Bool
is_delivered outcomes.Delivered = true
is_delivered outcomes.Stored = false
is_delivered (outcomes.Refused refusal) = false

-- the counts of a call with one more answer
pub record HasAnswer (r : Response) (is_repaired : Bool) (before after : CallCounts) : Type 0 where
  pub refused : (place : ℕ) → place < 19 → slice_index after.refused place
      ≡ more_for (refusal_of r.outcome) place (slice_index before.refused place)
  pub last : after.last_refused ≡ last_of (refusal_of r.outcome) before.last_refused
  pub delivered : after.delivered ≡ counted before.delivered (one_if (is_delivered r.outcome))
  pub repaired : after.repaired ≡ counted before.repaired (one_if is_repaired)
  pub sequence : after.sequence ≡ with_sn (sn_in r.packet) before.sequence
  pub since : after.since ≡ before.since

-- how many packets of a call were refused for this reason
abbrev pub refused_in : CallCounts → Refusal → ℕ
refused_in c refusal =
    if nat_lt (number_of refusal) 10 then 0
    else if nat_lt (number_of refusal) 29 then slice_index c.refused (number_of refusal - 10)
    else 0

-- counts that begin at this moment
pub record IsBegun (moment : ℕ) (c : CallCounts) : Type 0 where
  pub none_refused : (place : ℕ) → place < 19 → slice_index c.refused place ≡ 0
  pub since : c.since ≡ moment
  pub none_delivered : c.delivered ≡ 0
  pub none_repaired : c.repaired ≡ 0
  pub no_refusal : c.last_refused ≡ None
  pub no_sn : c.sequence ≡ record { lost = 0; late = 0; newest = None }

-- One answer more for a call. It has counts from its first answer on for which its context stands afterwards,
-- unless that answer is uncounted, for want of memory.
abbrev pub CountsCall : (stands : Bool) → (moment : ℕ) → Response → (is_repaired is_uncounted : Bool) →
    (before after : Option CallCounts) → Type 0
CountsCall stands moment r is_repaired is_uncounted (Some before) None = ⊥
CountsCall stands moment r is_repaired is_uncounted (Some before) (Some after) =
    (is_uncounted ≡ false) × HasAnswer r is_repaired before after
CountsCall stands moment r is_repaired is_uncounted None None = is_uncounted ≡ stands
CountsCall stands moment r is_repaired is_uncounted None (Some after) =
    (is_uncounted ≡ false) × (stands ≡ true)
    × ((begun : CallCounts) × IsBegun moment begun × HasAnswer r is_repaired begun after)

-- the counts of no call change, and none are missing
abbrev pub CountsNone : (is_uncounted : Bool) → (before after : ℕ → Option CallCounts) → Type 0
CountsNone is_uncounted before after = (is_uncounted ≡ false) × ((key : ℕ) → after key ≡ before key)

-- an answer to a packet of a link is counted for the call of its CID, and for no other
abbrev pub CountsForCall : (stands : ℕ → ℕ → Bool) → (link moment : ℕ) → Report →
    (is_repaired is_uncounted : Bool) → (before after : ℕ → Option CallCounts) → Type 0
CountsForCall stands link moment (Arrived cid r relayed) is_repaired is_uncounted before after =
    CountsCall (stands link cid) moment r is_repaired is_uncounted (before (key_of link cid))
    (after (key_of link cid))
    × ((key : ℕ) → key ≢ key_of link cid → after key ≡ before key)
CountsForCall stands link moment (OnlyFront relayed) is_repaired is_uncounted before after =
    CountsNone is_uncounted before after
CountsForCall stands link moment (reports.Refused refusal) is_repaired is_uncounted before after =
    CountsNone is_uncounted before after

-- the CID of a link has a context
abbrev pub stands : Concentrator → ℕ → ℕ → Bool
stands k link cid = is_some (record_at k link cid)

-- the call of this key has a context
abbrev pub stands_at : Concentrator → ℕ → Bool
stands_at k key = stands k (key / 65536 % 65536) (key % 65536)

-- the calls whose contexts stand keep their counts, and no others
abbrev pub KeepsStanding : Concentrator → (before after : ℕ → Option CallCounts) → Type 0
KeepsStanding k before after = (key : ℕ) → after key ≡ (if stands_at k key then before key else None)
