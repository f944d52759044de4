-- The faults of one entry. Words: number_of; readable_settings, setting_of; earlier; AreFaultsOf.
use Rattle.std.specs.Prelude.{◌≡◌, ◌==◌, ◌+◌, ℕ, List, [], ◌∷◌, map, codes, Option, Some, None, unwrap_or, if◌then◌else◌, Result, Ok, Err, Bool, false}
use Rattle.toml.specs.Data.{Members}
use Rattle.rohc_frame.specs.Header.{greatest_cid}
use Rattle.rohc_frame.specs.declared.header.CidKind.{CidKind}
use Rattle.rohc_frame.specs.declared.header.CidKind.TheVariants.{Large}
use Rattle.rohc_context.specs.declared.settings.Mode.TheVariants.{U}
use Rattle.rohc_context.specs.declared.settings.Settings.{Settings}
use Rattle.rohc_concentrator.specs.declared.setting.LinkSetting.{LinkSetting}
use Rattle.rohc_links.specs.declared.version.Version.{Version}
use Rattle.rohc_links.specs.declared.ports.Ports.{Ports}
use Rattle.rohc_links.specs.declared.fault.LinksFault.{LinksFault}
use Rattle.rohc_links.specs.Keys.{name_of}
use Rattle.rohc_links.specs.Fields.{whole_number, size, mode, field_at}
use Rattle.rohc_links.specs.Ranges.{ranges}
use Rattle.rohc_links.specs.Entry.{keys, numbered_entry}
use Rattle.rohc_links.specs.Unfit.{unfit_keys, names_beside}
use Rattle.rohc_faults.specs.Limits.{keys_beyond}
use Rattle.rohc_faults.specs.declared.entry.EntryFaults.{EntryFaults}

-- a number up to the greatest under this name, else another
abbrev pub number_or : ℕ → ℕ → List ℕ → Members → ℕ
number_or other greatest name ms = unwrap_or (field_at (whole_number 0 greatest) name ms) other

-- the link's number, if it can be read
abbrev pub number_of : Members → Option ℕ
number_of ms = field_at (whole_number 0 65535) (codes "number") ms

-- the CID kind, if it can be read, else large
abbrev pub size_of : Members → CidKind
size_of ms = unwrap_or (field_at size (codes "cid") ms) Large

-- the settings that can be read, and for the others values within their limits
abbrev pub readable_settings : Members → Settings
readable_settings ms = record {
  size = size_of ms;
  max_cid = number_or (greatest_cid (size_of ms)) 65535 (codes "max_cid") ms;
  mode = unwrap_or (field_at mode (codes "mode") ms) U;
  k1 = number_or 1 255 (codes "k1") ms;
  n1 = number_or 64 255 (codes "n1") ms;
  k2 = number_or 1 255 (codes "k2") ms;
  n2 = number_or 64 255 (codes "n2") ms;
  packet_ms = number_or 1 4294967295 (codes "packet_ms") ms;
  static_nack_ms = number_or 0 4294967295 (codes "static_nack_ms") ms;
  idle_ms = number_or 0 4294967295 (codes "idle_ms") ms;
}

-- the setting that was read, or as much of it as can be read
abbrev pub setting_in : Members → Result (LinkSetting × Ports) LinksFault → LinkSetting
setting_in ms (Ok set) = set.0
setting_in ms (Err e) = record {
  link = unwrap_or (number_of ms) 0;
  settings = readable_settings ms;
  ranges = unwrap_or (field_at ranges (codes "range") ms) (record { items = [] });
}

abbrev pub setting_of : Version → ℕ → Members → LinkSetting
setting_of version n ms = setting_in ms (numbered_entry version n ms)

-- these two are one number
abbrev pub is_number : ℕ → Option ℕ → Bool
is_number n None = false
is_number n (Some other) = other == n

-- the place of the first of the entries with this number, counted on from a place
abbrev pub place_from : ℕ → ℕ → List (Option ℕ) → Option ℕ
place_from place n [] = None
place_from place n (other ∷ others) =
    if is_number n other then Some place else place_from (place + 1) n others

-- the first of the entries, counted from 1, with this number
abbrev pub earlier : Option ℕ → List (Option ℕ) → Option ℕ
earlier None before = None
earlier (Some n) before = place_from 1 n before

-- the faults of the entry with this number, behind entries with these link numbers
pub record AreFaultsOf (version : Version) (before : List (Option ℕ)) (n : ℕ) (ms : Members)
    (faults : EntryFaults) : Type 0 where
  pub unknown : map (λ s. s.now) faults.unknown.items ≡ names_beside (map name_of (keys version)) ms
  pub unfit : faults.unfit.items ≡ unfit_keys version ms
  pub beyond : faults.beyond.items ≡ keys_beyond (setting_of version n ms)
  pub earlier_is : faults.earlier ≡ earlier (number_of ms) before
