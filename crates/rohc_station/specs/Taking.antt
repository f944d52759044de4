-- What a station does with a datagram. Words: counters_at, limiter_at a link; by_call_at; trimmed_by,
-- trimmed_at; arrival, fault_at, TakesPacket; IsRefusedUnread; dated; is_live, begins_call; CountsChange;
-- begins_limited, turns_away, TurnsAway; makes_context, LimitsFeedback; TakesIf, TakesWithin; Takes;
-- TakesUnless, TakesKnown; FailsSends, SetsLimits.
use Rattle.std.specs.Prelude.{◌≡◌, ◌≢◌, ℕ, ◌&&◌, List, [], ◌∷◌, length, Option, Some, None, nat_eq, not, is_some, Bool, true, false}
use Rattle.std.specs.Option.{option_map}
use Rattle.indexmap.specs.IndexMap.{get}
use Rattle.rohc_context.specs.Record.{Record}
use Rattle.rohc_concentrator.specs.declared.concentrator.Concentrator.{Concentrator}
use Rattle.rohc_concentrator.specs.Tables.{setting_at, record_at}
use Rattle.rohc_concentrator.specs.declared.setting.LinkSetting.{LinkSetting}
use Rattle.rohc_concentrator.specs.Bears.{cid_in, header_on}
use Rattle.rohc_concentrator.specs.Leaving.{is_expired}
use Rattle.rohc_concentrator.specs.Trimmed.{trimmed}
use Rattle.rohc_concentrator.specs.Report.{Report}
use Rattle.rohc_concentrator.specs.Repaired.{IsRepaired}
use Rattle.rohc_concentrator.specs.Calls.{Arrive, Reported}
use Rattle.rohc_concentrator.specs.RunsCall.{RunsCall, Turn}
use Rattle.rohc_links.specs.declared.ports.Ports.{Ports}
use Rattle.rohc_serve.specs.Datagram.{named_link, datagram_packet, ports_of}
use Rattle.rohc_station.specs.declared.limits.LinkLimits.{LinkLimits}
use Rattle.rohc_station.specs.declared.limits.Limiter.{Limiter}
use Rattle.rohc_station.specs.declared.counters.DatagramFault.{DatagramFault}
use Rattle.rohc_station.specs.declared.counters.DatagramFault.TheVariants.{Short, UnknownLink, NewCall}
use Rattle.rohc_station.specs.declared.counters.LinkCounters.{LinkCounters}
use Rattle.rohc_station.specs.declared.station.Station.{Station}
use Rattle.rohc_station.specs.declared.calls.CallCounts.{CallCounts}
use Rattle.rohc_station.specs.Limits.{one_if, limits_contexts, is_full, is_silent, with_work, with_turned_away, with_limits}
use Rattle.rohc_station.specs.Unknown.{links_after}
use Rattle.rohc_station.specs.Counting.{CountsAnswer, with_datagram, with_failed_sends, limiter_in, with_limiter}
use Rattle.rohc_station.specs.ByCall.{CountsForCall, stands}
use Rattle.rohc_station.specs.Timed.{TimedPacket}
use Rattle.rohc_station.specs.Told.{Told, told_unread, told_for, told_within}

-- the counts of a link, if it has some
abbrev pub counters_at : Station → ℕ → Option LinkCounters
counters_at s link = get nat_eq s.counters link

-- the limits of a link, and what they did; none if it has no counts
abbrev pub limiter_at : Station → ℕ → Limiter
limiter_at s link = limiter_in (counters_at s link)

-- the counts of the call of this key, if it has some
abbrev pub by_call_at : Station → ℕ → Option CallCounts
by_call_at s key = get nat_eq s.by_call key

-- A packet loses what a layer below added behind it, if it is known how many octets its payload has at most.
abbrev pub trimmed_by : (payload : Option ℕ) → Concentrator → TimedPacket → TimedPacket
trimmed_by None k t = t
trimmed_by (Some n) k t =
    record t { packet = trimmed n (setting_at k t.link) (record_at k t.link) t.packet }

abbrev pub trimmed_at : Station → TimedPacket → TimedPacket
trimmed_at s t = trimmed_by (limiter_at s t.link).limits.payload s.concentrator t

-- the call of a packet that arrives, with the report on it
abbrev pub arrival : (link moment : ℕ) → List ℕ → Report → Turn
arrival link moment packet report =
    record { link = link; call = Arrive moment packet; answer = Reported report }

-- a link without ports isn't there
abbrev pub fault_at : Option Ports → Option DatagramFault
fault_at None = Some UnknownLink
fault_at (Some ports) = None

-- A packet of a link arrives, which is one call of the concentrator. What is told is its report, to the
-- link's ports, and what is counted is that report, only for that link.
pub record TakesPacket (old new : Station) (link moment : ℕ) (packet : List ℕ) (told : Told)
    (calls : List Turn) : Type 0 where
  pub report : Report
  pub these : calls ≡ arrival link moment packet report ∷ []
  pub call : RunsCall old.concentrator link (Arrive moment packet) (Reported report) new.concentrator
  pub tells : told ≡ told_for (ports_of link old.links) report
  pub is_repaired : Bool
  pub repaired : IsRepaired (setting_at old.concentrator link) (record_at old.concentrator link) moment packet
      report is_repaired
  pub counts : CountsAnswer (stands new.concentrator link) (length packet) report is_repaired
      (counters_at old link) (counters_at new link)
  pub others : (l : ℕ) → l ≢ link → counters_at new l ≡ counters_at old l
  pub is_uncounted : Bool
  pub counts_call : CountsForCall (stands new.concentrator) link moment report is_repaired is_uncounted
      (by_call_at old) (by_call_at new)
  pub totals : new.totals ≡ with_datagram (fault_at (ports_of link old.links)) is_uncounted old.totals
  pub unknown_links : new.unknown_links.items
      ≡ links_after (ports_of link old.links) link old.unknown_links.items
  pub links : new.links ≡ old.links

-- a datagram with this fault is refused unread: nothing is called or sent, and no link's counts change
pub record IsRefusedUnread (fault : DatagramFault) (old new : Station) (told : Told) (calls : List Turn)
    : Type 0 where
  pub none : calls ≡ []
  pub concentrator : new.concentrator ≡ old.concentrator
  pub tells : told ≡ told_unread
  pub counters : new.counters ≡ old.counters
  pub by_call : new.by_call ≡ old.by_call
  pub totals : new.totals ≡ with_datagram (Some fault) false old.totals
  pub unknown_links : new.unknown_links ≡ old.unknown_links
  pub links : new.links ≡ old.links

-- a datagram that came at this moment: the link that it names, if it names one, the moment and the packet
abbrev pub dated : ℕ → List ℕ → Option TimedPacket
dated moment octets =
    option_map (λ link. record { link = link; moment = moment; packet = datagram_packet octets })
    (named_link octets)

-- a record counts at a moment: it is there, and hasn't expired
abbrev pub is_live : (idle_ms moment : ℕ) → Option Record → Bool
is_live idle_ms moment None = false
is_live idle_ms moment (Some r) = not (is_expired idle_ms moment r)

-- this CID, if there is one, has no record that counts at a moment
abbrev pub is_unknown : (idle_ms moment : ℕ) → Option ℕ → (ℕ → Option Record) → Bool
is_unknown idle_ms moment None records = false
is_unknown idle_ms moment (Some cid) records = not (is_live idle_ms moment (records cid))

-- the same of the CID that a packet bears on a link, if the link is there
abbrev pub begins_on : Option LinkSetting → (ℕ → Option Record) → (moment : ℕ) → List ℕ → Bool
begins_on None records moment packet = false
begins_on (Some s) records moment packet =
    is_unknown s.settings.idle_ms moment (cid_in (header_on s packet)) records

-- a packet begins a call: it bears a CID that has no record, or one that has expired at the packet's moment
abbrev pub begins_call : Concentrator → TimedPacket → Bool
begins_call k t = begins_on (setting_at k t.link) (record_at k t.link) t.moment t.packet

-- The counts of one link change so, if it has some, and nothing else.
pub record CountsChange (old new : Station) (link : ℕ) (change : LinkCounters → LinkCounters) : Type 0 where
  pub own : counters_at new link ≡ option_map change (counters_at old link)
  pub others : (l : ℕ) → l ≢ link → counters_at new l ≡ counters_at old l
  pub by_call : new.by_call ≡ old.by_call
  pub concentrator : new.concentrator ≡ old.concentrator
  pub totals : new.totals ≡ old.totals
  pub unknown_links : new.unknown_links ≡ old.unknown_links
  pub links : new.links ≡ old.links

-- A packet begins a call on a link whose contexts are limited. The limit is that of its link alone.
abbrev pub begins_limited : Station → TimedPacket → Bool
begins_limited s t = limits_contexts (limiter_at s t.link) && begins_call s.concentrator t

-- it is turned away in a second in which its link makes no more contexts
abbrev pub turns_away : Station → (second : ℕ) → TimedPacket → Bool
turns_away s second t = begins_limited s t && is_full second (limiter_at s t.link)

-- It is counted for its link, and as a datagram that is refused unread.
abbrev pub TurnsAway : (old new : Station) → (link : ℕ) → Told → List Turn → Type 0
TurnsAway old new link told calls = (mid : Station)
    × CountsChange old mid link (with_limiter with_turned_away) × IsRefusedUnread NewCall mid new told calls

-- A packet made a context on a link whose contexts are limited: it would begin a call before it was taken,
-- and not after.
abbrev pub makes_context : (old new : Station) → TimedPacket → Bool
makes_context old new t = begins_limited old t && not (begins_call new.concentrator t)

-- A packet was taken, which told the whole. Feedback that its link may send no more in this second is
-- withheld; what the packet made and had is counted for the link.
pub record LimitsFeedback (old mid new : Station) (second : ℕ) (t : TimedPacket) (whole told : Told)
    : Type 0 where
  pub tells : told ≡ told_within (is_silent second (limiter_at old t.link)) whole
  pub counts : CountsChange mid new t.link (with_limiter (with_work second
      (one_if (makes_context old mid t)) (is_some whole.outgoing.feedback)))

-- so a packet is turned away exactly if it is to be, and otherwise it is taken
abbrev pub TakesIf : (is_away : Bool) → Station → Station → (second : ℕ) → TimedPacket → Told → List Turn
    → Type 0
TakesIf true old new second t told calls = TurnsAway old new t.link told calls
TakesIf false old new second t told calls = (mid : Station) × (whole : Told)
    × TakesPacket old mid t.link t.moment t.packet whole calls
    × LimitsFeedback old mid new second t whole told

abbrev pub TakesWithin : Station → Station → (second : ℕ) → TimedPacket → Told → List Turn → Type 0
TakesWithin old new second t told calls =
    TakesIf (turns_away old second t) old new second t told calls

-- A datagram is taken in a second of the gateway's clock, as it was read: a packet with its link and its
-- moment, if it could be read. What a layer below added behind the packet goes first.
abbrev pub Takes : Station → Station → (second : ℕ) → Option TimedPacket → Told → List Turn → Type 0
Takes old new second None told calls = IsRefusedUnread Short old new told calls
Takes old new second (Some t) told calls = TakesWithin old new second (trimmed_at old t) told calls

-- while no call is begun, a packet that would begin one is refused, and every other is taken
abbrev pub TakesUnless : Bool → Station → Station → (second : ℕ) → TimedPacket → Told → List Turn → Type 0
TakesUnless true old new second t told calls = IsRefusedUnread NewCall old new told calls
TakesUnless false old new second t told calls = TakesWithin old new second t told calls

abbrev pub TakesStanding : Station → Station → (second : ℕ) → TimedPacket → Told → List Turn → Type 0
TakesStanding old new second t told calls =
    TakesUnless (begins_call old.concentrator t) old new second t told calls

abbrev pub TakesKnown : Station → Station → (second : ℕ) → Option TimedPacket → Told → List Turn → Type 0
TakesKnown old new second None told calls = IsRefusedUnread Short old new told calls
TakesKnown old new second (Some t) told calls = TakesStanding old new second (trimmed_at old t) told calls

-- sends failed for a datagram of the link that it names, if it names one
abbrev pub FailsSends : Station → Station → Option ℕ → ℕ → Type 0
FailsSends old new None failed = new ≡ old
FailsSends old new (Some link) failed = CountsChange old new link (with_failed_sends failed)

-- a link is given limits
abbrev pub SetsLimits : Station → Station → ℕ → LinkLimits → Type 0
SetsLimits old new link limits = CountsChange old new link (with_limiter (with_limits limits))
