-- One datagram. Words: AreSettingsOf a concentrator; named_link, datagram_packet; place_of, ports_of a link;
-- Answers.
use Rattle.std.specs.Prelude.{◌≡◌, ℕ, ◌+◌, ◌*◌, List, drop, ◌==◌, Option, Some, None, length, nat_lt, if◌then◌else◌, slice_index, slice_get, position}
use Rattle.std.specs.Option.{option_and_then}
use Rattle.rohc_concentrator.specs.declared.concentrator.Concentrator.{Concentrator}
use Rattle.rohc_concentrator.specs.declared.setting.LinkSetting.{LinkSetting}
use Rattle.rohc_concentrator.specs.Tables.{setting_at, settings_in_order}
use Rattle.rohc_concentrator.specs.Setup.{entry_of}
use Rattle.rohc_concentrator.specs.Report.{Report}
use Rattle.rohc_concentrator.specs.Events.{Arrives}
use Rattle.rohc_links.specs.declared.ports.Ports.{Ports}
use Rattle.rohc_links.specs.Links.{Lists}
use Rattle.rohc_serve.specs.Outgoing.{Outgoing, refused_for, sends_of}

-- these are the settings of the concentrator's links, in their order
pub record AreSettingsOf (k : Concentrator) (settings : List LinkSetting) : Type 0 where
  pub in_order : settings_in_order k ≡ settings
  pub each : (link : ℕ) → setting_at k link ≡ entry_of link settings

-- the link in a datagram's first two octets, most significant octet first, if it has two
abbrev pub named_link : List ℕ → Option ℕ
named_link octets =
    if nat_lt (length octets) 2 then None else Some (slice_index octets 0 * 256 + slice_index octets 1)

-- the packet after them
abbrev pub datagram_packet : List ℕ → List ℕ
datagram_packet octets = drop 2 octets

-- the index of a link's first entry, if it has one
abbrev pub place_of : ℕ → List LinkSetting → Option ℕ
place_of link settings = position (λ (s : LinkSetting). s.link == link) settings

-- the ports at this index
abbrev pub ports_of : ℕ → Lists → Option Ports
ports_of link lists = option_and_then (slice_get lists.ports) (place_of link lists.settings)

-- The packet arrives on the link that its datagram names, and what is sent is the answer. A datagram that
-- names no link is refused.
abbrev pub AnswersOn : Lists → Concentrator → ℕ → Option ℕ → List ℕ
    → Outgoing → Concentrator → Type 0
AnswersOn links old moment None packet outgoing new = (new ≡ old) × (outgoing ≡ refused_for None)
AnswersOn links old moment (Some link) packet outgoing new =
    (report : Report) × Arrives old link moment packet report new
    × (outgoing ≡ sends_of (ports_of link links) report)

-- what is to be sent for a datagram that arrived at this time, and the concentrator after it
abbrev pub Answers : Lists → Concentrator → ℕ → List ℕ → Outgoing → Concentrator → Type 0
Answers links old moment octets outgoing new =
    AnswersOn links old moment (named_link octets) (datagram_packet octets) outgoing new
