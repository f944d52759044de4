-- The keys of a links file. Words: name_of.
use Rattle.std.specs.Prelude.{ℕ, List, codes}
use Rattle.rohc_links.specs.declared.fault.Key.{Key}
use Rattle.rohc_links.specs.declared.fault.Key.TheVariants as key

-- a key as it stands in the file
abbrev pub name_of : Key → List ℕ
name_of key.Link = codes "link"
name_of key.Number = codes "number"
name_of key.Cid = codes "cid"
name_of key.MaxCid = codes "max_cid"
name_of key.Mode = codes "mode"
name_of key.K1 = codes "k1"
name_of key.N1 = codes "n1"
name_of key.K2 = codes "k2"
name_of key.N2 = codes "n2"
name_of key.PacketMs = codes "packet_ms"
name_of key.StaticNackMs = codes "static_nack_ms"
name_of key.DeliverPort = codes "deliver_port"
name_of key.FeedbackPort = codes "feedback_port"
name_of key.RelayPort = codes "relay_port"
name_of key.IdleMs = codes "idle_ms"
name_of key.Range = codes "range"
