-- What packets named that isn't there, the newest last: the last 64 CIDs of a link without a context, whose
-- packets were refused for that, and the last 16 links. Words: is_no_context; entry_of a number; packets_in;
-- without; with_last; named_again; unknown_after an answer, unknown_in a report; links_after a datagram.
use Rattle.std.specs.Prelude.{ℕ, List, [], ◌∷◌, ◌++◌, length, drop, filter, find, not, ◌==◌, Bool, true, false, if◌then◌else◌, Option, Some, None}
use Rattle.rohc_context.specs.declared.refusal.Refusal.{Refusal}
use Rattle.rohc_context.specs.Refusal.{number_of}
use Rattle.rohc_concentrator.specs.Report.{Report, Arrived, OnlyFront, Refused}
use Rattle.rohc_links.specs.Limits.{counted}
use Rattle.rohc_links.specs.declared.ports.Ports.{Ports}
use Rattle.rohc_station.specs.Told.{refusal_of}
use Rattle.rohc_station.specs.declared.unknown.Unknown.{Unknown}

abbrev pub is_no_context : Option Refusal → Bool
is_no_context None = false
is_no_context (Some refusal) = number_of refusal == 10

-- the entry of a number
abbrev pub entry_of : (number : ℕ) → List Unknown → Option Unknown
entry_of number us = find (λ (u : Unknown). u.number == number) us

-- how many packets an entry counts, if it is there
abbrev pub packets_in : Option Unknown → ℕ
packets_in None = 0
packets_in (Some u) = u.packets

abbrev pub without : (number : ℕ) → List Unknown → List Unknown
without number us = filter (λ (u : Unknown). not (u.number == number)) us

-- one more at the end; at so many the list is full, and the first gives way
abbrev pub with_last : (most : ℕ) → Unknown → List Unknown → List Unknown
with_last most u us = (if length us == most then drop 1 us else us) ++ u ∷ []

-- a number that a packet names goes last, with one packet more
abbrev pub named_again : (most number : ℕ) → List Unknown → List Unknown
named_again most number us =
    with_last most (record { number = number; packets = counted (packets_in (entry_of number us)) 1 })
    (without number us)

-- A CID that has a context after the answer leaves the list. One that has none, and whose packet was refused
-- for that, goes last, with one packet more.
abbrev pub unknown_after : (stands : Bool) → (cid : ℕ) → Option Refusal → List Unknown → List Unknown
unknown_after true cid refusal us = without cid us
unknown_after false cid refusal us = if is_no_context refusal then named_again 64 cid us else us

-- the same of a report, where these CIDs of its link have a context after it
abbrev pub unknown_in : (stands : ℕ → Bool) → Report → List Unknown → List Unknown
unknown_in stands (Arrived cid r relayed) us = unknown_after (stands cid) cid (refusal_of r.outcome) us
unknown_in stands (OnlyFront relayed) us = us
unknown_in stands (Refused refusal) us = us

-- A datagram of a link with these ports, or without any: then the link isn't there.
abbrev pub links_after : Option Ports → (link : ℕ) → List Unknown → List Unknown
links_after (Some ports) link us = us
links_after None link us = named_again 16 link us
