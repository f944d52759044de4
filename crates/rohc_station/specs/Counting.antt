-- What is counted. Words: uncounted_station, with_fault, with_datagram; IsUncounted; rebuilt_octets,
-- with_packet; CountsAnswer; with_failed_sends; limiter_in, with_limiter; KeepsCounts.
use Rattle.std.specs.Prelude.{◌≡◌, ℕ, ◌+◌, [], length, Bool, Option, Some, None, option_map, slice_index}
use Rattle.rohc_context.specs.Response.{Packet}
use Rattle.rohc_concentrator.specs.Report.{Report, Arrived, OnlyFront, Refused}
use Rattle.rohc_concentrator.specs.declared.setting.LinkSetting.{LinkSetting}
use Rattle.rohc_links.specs.Limits.{counted}
use Rattle.rohc_counts.specs.Counted.{IsCounted}
use Rattle.rohc_station.specs.declared.limits.Limiter.{Limiter}
use Rattle.rohc_station.specs.Limits.{one_if, unlimited}
use Rattle.rohc_station.specs.Unknown.{unknown_in}
use Rattle.rohc_station.specs.declared.counters.DatagramFault.{DatagramFault}
use Rattle.rohc_station.specs.declared.counters.DatagramFault.TheVariants.{Short, UnknownLink, NewCall}
use Rattle.rohc_station.specs.declared.counters.LinkCounters.{LinkCounters}
use Rattle.rohc_station.specs.declared.counters.Octets.{Octets}
use Rattle.rohc_station.specs.declared.counters.StationCounters.{StationCounters}

-- no datagram came yet
abbrev pub uncounted_station : StationCounters
uncounted_station = record { datagrams = 0; short = 0; unknown_link = 0; new_call = 0; uncounted = 0 }

-- one more of the datagrams that have this fault
abbrev pub with_fault : DatagramFault → StationCounters → StationCounters
with_fault Short c = record c { short = counted c.short 1 }
with_fault UnknownLink c = record c { unknown_link = counted c.unknown_link 1 }
with_fault NewCall c = record c { new_call = counted c.new_call 1 }

abbrev pub with_fault_if : Option DatagramFault → StationCounters → StationCounters
with_fault_if None c = c
with_fault_if (Some fault) c = with_fault fault c

-- One more datagram, which may have a fault. For want of memory its answer may be uncounted for its call.
abbrev pub with_datagram : Option DatagramFault → (is_uncounted : Bool) → StationCounters → StationCounters
with_datagram fault is_uncounted c = with_fault_if fault (record c {
  datagrams = counted c.datagrams 1;
  uncounted = counted c.uncounted (one_if is_uncounted);
})

-- nothing is counted yet
pub record IsUncounted (c : LinkCounters) : Type 0 where
  pub outcomes : (k : ℕ) → slice_index c.answers.outcomes k ≡ 0
  pub words : (k : ℕ) → slice_index c.answers.words k ≡ 0
  pub no_fronts : c.answers.fronts ≡ 0
  pub none_relayed : c.answers.relayed ≡ 0
  pub no_octets : c.octets ≡ record { received = 0; compressed = 0; rebuilt = 0 }
  pub none_repaired : c.repaired ≡ 0
  pub none_failed : c.failed_sends ≡ 0
  pub no_limiter : c.limiter ≡ unlimited
  pub none_unknown : c.unknown.items ≡ []

-- how many octets the rebuilt packet of an answer has, if it has one
abbrev pub rebuilt_octets : Report → Option ℕ
rebuilt_octets (Arrived cid response relayed) =
    option_map (λ (p : Packet). length p.head + length p.payload) response.packet
rebuilt_octets (OnlyFront relayed) = None
rebuilt_octets (Refused refusal) = None

-- The octets of a packet that arrived, and those of the packet that it was rebuilt to, if it was.
abbrev pub with_packet : (arrived : ℕ) → (rebuilt : Option ℕ) → Octets → Octets
with_packet arrived None o = record o { received = counted o.received arrived }
with_packet arrived (Some rebuilt) o = record {
  received = counted o.received arrived;
  compressed = counted o.compressed arrived;
  rebuilt = counted o.rebuilt rebuilt;
}

-- One more answer, to a packet of so many octets, which may be repaired, in the counts of a link that has
-- some. These CIDs of the link have a context after it.
abbrev pub CountsAnswer : (stands : ℕ → Bool) → (arrived : ℕ) → Report → (is_repaired : Bool)
    → Option LinkCounters → Option LinkCounters → Type 0
CountsAnswer stands arrived report is_repaired None after = after ≡ None
CountsAnswer stands arrived report is_repaired (Some before) None = ⊥
CountsAnswer stands arrived report is_repaired (Some before) (Some after) =
    IsCounted report before.answers after.answers
    × (after.repaired ≡ counted before.repaired (one_if is_repaired))
    × (after.unknown.items ≡ unknown_in stands report before.unknown.items)
    × (after.octets ≡ with_packet arrived (rebuilt_octets report) before.octets)
    × (after.failed_sends ≡ before.failed_sends) × (after.limiter ≡ before.limiter)

-- so many more failed sends
abbrev pub with_failed_sends : ℕ → LinkCounters → LinkCounters
with_failed_sends failed c = record c { failed_sends = counted c.failed_sends failed }

-- the limits of a link that may have counts, and what they did
abbrev pub limiter_in : Option LinkCounters → Limiter
limiter_in None = unlimited
limiter_in (Some c) = c.limiter

-- the limits change so
abbrev pub with_limiter : (Limiter → Limiter) → LinkCounters → LinkCounters
with_limiter change c = record c { limiter = change c.limiter }

-- The counts of a link, by its entry in a file that is taken: it keeps those that it has, and begins with
-- none. A link that isn't in the file has no counts.
abbrev pub KeepsCounts : Option LinkCounters → Option LinkSetting → Option LinkCounters → Type 0
KeepsCounts before None after = after ≡ None
KeepsCounts (Some before) (Some s) after = after ≡ Some before
KeepsCounts None (Some s) None = ⊥
KeepsCounts None (Some s) (Some after) = IsUncounted after
