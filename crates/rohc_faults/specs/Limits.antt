-- The limits of an entry's settings. Words: is_within; keys_beyond; FindsBeyond.
use Rattle.std.specs.Prelude.{◌≡◌, ◌↔◌, ℕ, List, [], ◌∷◌, filter, Bool, true, not, ◌&&◌, nat_le}
use Rattle.rohc_frame.specs.Header.{greatest_cid}
use Rattle.rohc_concentrator.specs.declared.setting.LinkSetting.{LinkSetting}
use Rattle.rohc_concentrator.specs.Setting.{are_in_order, IsGoodSetting}
use Rattle.rohc_links.specs.declared.fault.Key.{Key}
use Rattle.rohc_links.specs.declared.fault.Key.TheVariants as key

-- from the least to the greatest
abbrev pub is_from_to : ℕ → ℕ → ℕ → Bool
is_from_to least greatest n = nat_le least n && nat_le n greatest

-- what is set at the key is within its limits
abbrev pub is_within : Key → LinkSetting → Bool
is_within key.MaxCid s = nat_le s.settings.max_cid (greatest_cid s.settings.size)
is_within key.K1 s = is_from_to 1 s.settings.n1 s.settings.k1
is_within key.N1 s = is_from_to 1 64 s.settings.n1
is_within key.K2 s = is_from_to 1 s.settings.n2 s.settings.k2
is_within key.N2 s = is_from_to 1 64 s.settings.n2
is_within key.PacketMs s = is_from_to 1 60000 s.settings.packet_ms
is_within key.StaticNackMs s = nat_le s.settings.static_nack_ms 3600000
is_within key.IdleMs s = nat_le s.settings.idle_ms 86400000
is_within key.Range s = are_in_order 0 s.settings.max_cid s.ranges.items
is_within _ s = true

-- the keys whose values have limits
abbrev pub limited_keys : List Key
limited_keys =
    key.MaxCid ∷ key.K1 ∷ key.N1 ∷ key.K2 ∷ key.N2 ∷ key.PacketMs ∷ key.StaticNackMs ∷ key.IdleMs
    ∷ key.Range ∷ []

-- the keys whose values are outside their limits
abbrev pub keys_beyond : LinkSetting → List Key
keys_beyond s = filter (λ k. not (is_within k s)) limited_keys

-- there are such keys exactly if a concentrator refuses the setting
abbrev pub FindsBeyond : Type 0
FindsBeyond = (s : LinkSetting) → (keys_beyond s ≡ []) ↔ IsGoodSetting s
