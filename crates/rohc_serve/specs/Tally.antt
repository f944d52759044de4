-- What is counted. Words: counts_of a datagram; added, which stays at the greatest u64.
use Rattle.std.specs.Prelude.{ℕ, length, Bool, is_some, if◌then◌else◌}
use Rattle.rohc_links.specs.Limits.{counted}
use Rattle.rohc_serve.specs.declared.tally.ServeTally.{ServeTally}
use Rattle.rohc_serve.specs.Outgoing.{Outgoing}

abbrev pub one_if : Bool → ℕ
one_if holds = if holds then 1 else 0

-- the counts of one datagram: by what was to be sent for it, and by its failed sends
abbrev pub counts_of : Outgoing → ℕ → ServeTally
counts_of outgoing failed = record {
  datagrams = 1;
  delivered = one_if (is_some outgoing.packet);
  feedback = one_if (is_some outgoing.feedback);
  relayed = length outgoing.relayed;
  refused = one_if outgoing.refused;
  failed = failed;
}

-- a tally plus more counts, each up to the greatest u64
abbrev pub added : ServeTally → ServeTally → ServeTally
added t more = record {
  datagrams = counted t.datagrams more.datagrams;
  delivered = counted t.delivered more.delivered;
  feedback = counted t.feedback more.feedback;
  relayed = counted t.relayed more.relayed;
  refused = counted t.refused more.refused;
  failed = counted t.failed more.failed;
}
