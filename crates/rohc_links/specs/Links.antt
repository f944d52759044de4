-- The content of a links file. Words: Lists; read_from a table, read_text; fault_name.
use Rattle.std.specs.Prelude.{ℕ, ◌+◌, ◌==◌, List, [], ◌∷◌, codes, pos, Option, Some, None, if◌then◌else◌, Result, Ok, Err}
use Rattle.std.specs.Option.{ok_or, option_map_or}
use Rattle.rohc_concentrator.specs.declared.setting.LinkSetting.{LinkSetting}
use Rattle.toml.specs.Data.{Data, integer, array, Members, as_table, get_member}
use Rattle.toml.specs.Parse.{parse_document}
use Rattle.rohc_links.specs.declared.ports.Ports.{Ports}
use Rattle.rohc_links.specs.declared.version.Version.{Version}
use Rattle.rohc_links.specs.declared.version.Version.TheVariants.{One, Two}
use Rattle.rohc_links.specs.declared.fault.Key.TheVariants as key
use Rattle.rohc_links.specs.declared.fault.LinksFault.{LinksFault}
use Rattle.rohc_links.specs.declared.fault.LinksFault.TheVariants.{NotToml, BadVersion, UnknownKey, BadKey, NoMemory}
use Rattle.rohc_links.specs.Keys.{name_of}
use Rattle.rohc_links.specs.Fields.{field_at, has_only}
use Rattle.rohc_links.specs.Ranges.{read_each}
use Rattle.rohc_links.specs.Entry.{◌>>=◌, numbered_entry}

-- a setting and its ports for each entry, in order
pub record Lists : Type 0 where
  pub settings : List LinkSetting
  pub ports : List Ports

-- the setting and the ports of an entry, before those of the other entries
abbrev pub with_first : LinkSetting × Ports → Lists → Lists
with_first first others = record { settings = first.0 ∷ others.settings; ports = first.1 ∷ others.ports }

-- a whole number that names a version
abbrev pub version : Data → Option Version
version (integer (pos n)) = if n == 1 then Some One else if n == 2 then Some Two else None
version _ = None

-- the tables of an array, if it holds nothing else
abbrev pub tables : Data → Option (List Members)
tables (array ds) = read_each as_table ds
tables _ = None

-- the tables under `link`; a file without this key has none
abbrev pub entries : Members → Option (List Members)
entries ms = option_map_or tables (get_member (name_of key.Link) ms) (Some [])

-- the settings and ports of the entries, numbered from n, else the first fault
abbrev pub read_from : ℕ → Version → List Members → Result Lists LinksFault
read_from n version [] = Ok (record { settings = []; ports = [] })
read_from n version (ms ∷ rest) = do
  first ← numbered_entry version n ms
  others ← read_from (n + 1) version rest
  Ok (with_first first others)

-- the content of a file's table, else its first fault
unfoldable pub read_table : Members → Result Lists LinksFault
read_table ms = do
  version ← ok_or (field_at version (codes "version") ms) BadVersion
  known ← if has_only (codes "version" ∷ codes "link" ∷ []) ms then Ok ms else Err (UnknownKey 0)
  tables ← ok_or (entries known) (BadKey 0 key.Link)
  read_from 1 version tables

-- the content of a file's text, else its first fault
abbrev pub read_text : List ℕ → Result Lists LinksFault
read_text text = ok_or (parse_document text) NotToml >>= read_table

-- the names of the faults
abbrev pub fault_name : LinksFault → List ℕ
fault_name NotToml = codes "NotToml"
fault_name BadVersion = codes "BadVersion"
fault_name (UnknownKey entry) = codes "UnknownKey"
fault_name (BadKey entry key) = codes "BadKey"
fault_name NoMemory = codes "NoMemory"
