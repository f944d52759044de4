-- The content of one entry of a links file. Words: has_known_keys; entry_in; numbered_entry, with the entry
-- in a fault.
use Rattle.std.specs.Prelude.{ℕ, List, [], ◌∷◌, ◌++◌, map, Bool, if◌then◌else◌, Result, Ok, Err, unwrap_or}
use Rattle.std.specs.Result.{result_map_both}
use Rattle.arrayvec.specs.ArrayVec.{ArrayVec}
use Rattle.rohc_context.specs.declared.settings.Settings.{Settings}
use Rattle.rohc_concentrator.specs.declared.setting.CidRange.{CidRange}
use Rattle.rohc_concentrator.specs.declared.setting.LinkSetting.{LinkSetting}
use Rattle.toml.specs.Data.{Members}
use Rattle.rohc_links.specs.declared.ports.Ports.{Ports}
use Rattle.rohc_links.specs.declared.version.Version.{Version}
use Rattle.rohc_links.specs.declared.version.Version.TheVariants.{One, Two}
use Rattle.rohc_links.specs.declared.fault.Key.{Key}
use Rattle.rohc_links.specs.declared.fault.Key.TheVariants as key
use Rattle.rohc_links.specs.declared.fault.LinksFault.{LinksFault}
use Rattle.rohc_links.specs.declared.fault.LinksFault.TheVariants.{UnknownKey, BadKey}
use Rattle.rohc_links.specs.Keys.{name_of}
use Rattle.rohc_links.specs.Fields.{whole_number, size, mode, required_field, optional_field, has_only}
use Rattle.rohc_links.specs.Ranges.{ranges}

infixl 10 ◌>>=◌
-- the next step, from what the step before it gave
abbrev pub ◌>>=◌ : {A B E : Type 0} → Result A E → (A → Result B E) → Result B E
(Ok x) >>= f = f x
(Err e) >>= f = Err e

-- the keys of version 1, in the order in which they are judged
abbrev pub first_keys : List Key
first_keys =
    key.Number ∷ key.Cid ∷ key.MaxCid ∷ key.Mode ∷ key.K1 ∷ key.N1 ∷ key.K2 ∷ key.N2
    ∷ key.PacketMs ∷ key.StaticNackMs ∷ key.DeliverPort ∷ key.FeedbackPort ∷ key.RelayPort ∷ []

-- the keys that a version knows
abbrev pub keys : Version → List Key
keys One = first_keys
keys Two = first_keys ++ key.IdleMs ∷ key.Range ∷ []

-- the version knows each key of the entry
unfoldable pub has_known_keys : Version → Members → Bool
has_known_keys version ms = has_only (map name_of (keys version)) ms

-- the ports
unfoldable pub ports_in : Members → Result Ports Key
ports_in ms = do
  deliver ← required_field (whole_number 1 65535) key.DeliverPort ms
  feedback ← required_field (whole_number 1 65535) key.FeedbackPort ms
  relay ← required_field (whole_number 1 65535) key.RelayPort ms
  let ports : Ports = record { deliver = deliver; feedback = feedback; relay = relay }
  Ok ports

-- after how long a record counts as none; in version 1 it is 0, which means never
abbrev pub idle_in : Version → Members → Result ℕ Key
idle_in One ms = Ok 0
idle_in Two ms = required_field (whole_number 0 4294967295) key.IdleMs ms

-- the ranges: none in version 1, and none if the key is missing
abbrev pub ranges_in : Version → Members → Result (ArrayVec CidRange) Key
ranges_in One ms = Ok (record { items = [] })
ranges_in Two ms = do
  given ← optional_field ranges key.Range ms
  Ok (unwrap_or given (record { items = [] }))

-- the setting and the ports of an entry, else its first key that is missing or wrong
unfoldable pub entry_in : Version → Members → Result (LinkSetting × Ports) Key
entry_in version ms = do
  link ← required_field (whole_number 0 65535) key.Number ms
  size ← required_field size key.Cid ms
  max_cid ← required_field (whole_number 0 65535) key.MaxCid ms
  mode ← required_field mode key.Mode ms
  k1 ← required_field (whole_number 0 255) key.K1 ms
  n1 ← required_field (whole_number 0 255) key.N1 ms
  k2 ← required_field (whole_number 0 255) key.K2 ms
  n2 ← required_field (whole_number 0 255) key.N2 ms
  packet_ms ← required_field (whole_number 0 4294967295) key.PacketMs ms
  static_nack_ms ← required_field (whole_number 0 4294967295) key.StaticNackMs ms
  ports ← ports_in ms
  idle_ms ← idle_in version ms
  ranges ← ranges_in version ms
  let settings : Settings = record {
    size = size;
    max_cid = max_cid;
    mode = mode;
    k1 = k1;
    n1 = n1;
    k2 = k2;
    n2 = n2;
    packet_ms = packet_ms;
    static_nack_ms = static_nack_ms;
    idle_ms = idle_ms;
  }
  let setting : LinkSetting = record { link = link; settings = settings; ranges = ranges }
  Ok (setting, ports)

-- the setting and the ports of the entry with this number, else its first fault
abbrev pub numbered_entry : Version → ℕ → Members → Result (LinkSetting × Ports) LinksFault
numbered_entry version n ms =
    if has_known_keys version ms then result_map_both (λ set. set) (BadKey n) (entry_in version ms)
    else Err (UnknownKey n)
