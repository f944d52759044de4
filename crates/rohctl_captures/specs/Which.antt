-- Which packets of an input are shown. Words: has.
use Rattle.std.specs.Prelude.{ℕ, Bool, true, false, ◌&&◌, nat_eq, Option, Some, None}
use Rattle.rohctl_captures.specs.declared.place.Span.{Span}
use Rattle.rohctl_captures.specs.declared.narrow.Seen.{Seen}
use Rattle.rohctl_captures.specs.declared.narrow.Which.{Which}
use Rattle.rohctl_captures.specs.declared.narrow.Which.TheVariants.{All, Within, Call}
use Rattle.rohctl_captures.specs.Times.{is_within}

-- a packet whose CID can't be read is of no call
abbrev pub is_cid : ℕ → Option ℕ → Bool
is_cid cid None = false
is_cid cid (Some own) = nat_eq own cid

abbrev pub has : Which → Seen → Bool
has All seen = true
has (Within span) seen = is_within span.first span.last seen.number
has (Call link cid) seen = nat_eq seen.link link && is_cid cid seen.cid
