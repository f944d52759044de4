-- Packets of links whose payloads have a known length. Words: payload_in; trimmed_as.
use Rattle.std.specs.Prelude.{ℕ, List, Option, Some, None, nat_eq}
use Rattle.indexmap.specs.IndexMap.{get}
use Rattle.rohc_concentrator.specs.declared.concentrator.Concentrator.{Concentrator}
use Rattle.rohc_concentrator.specs.Tables.{setting_at, record_at}
use Rattle.rohc_concentrator.specs.Trimmed.{trimmed}
use Rattle.rohctl_captures.specs.declared.payloads.Payloads.{Payloads}

-- how many octets the payloads of a link have at most, if that is known
abbrev pub payload_in : Payloads → ℕ → Option ℕ
payload_in payloads link = get nat_eq payloads.by_link link

-- a packet of a link without what a layer below added, if that is known
abbrev pub trimmed_as : Option ℕ → Concentrator → ℕ → List ℕ → List ℕ
trimmed_as None k link packet = packet
trimmed_as (Some n) k link packet = trimmed n (setting_at k link) (record_at k link) packet
