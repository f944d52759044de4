-- Entries that were read, before those that are still to come.
use Rattle.std.proofs.Common.{◌≡◌, ℕ, ◌+◌, List, [], ◌∷◌, ◌++◌, Option, Some, None, option_map, is_some, true, Result, Ok, Err, refl, ap}
use Rattle.std.proofs.lemmas.List.{append_assoc}
use Rattle.std.specs.Option.{option_and_then}
use Rattle.rohc_concentrator.specs.declared.setting.LinkSetting.{LinkSetting}
use Rattle.toml.specs.Data.{Data, Members, Items, item, as_table}
use Rattle.rohc_links.specs.declared.ports.Ports.{Ports}
use Rattle.rohc_links.specs.declared.version.Version.{Version}
use Rattle.rohc_links.specs.declared.fault.LinksFault.{LinksFault}
use Rattle.rohc_links.specs.Ranges.{read_each}
use Rattle.rohc_links.specs.Entry.{◌>>=◌, numbered_entry}
use Rattle.rohc_links.specs.Links.{Lists, with_first, read_from}

-- what was read, and then what the others set, unless they have a fault
abbrev pub joined : Lists → Result Lists LinksFault → Result Lists LinksFault
joined done (Ok others) = Ok (record { settings = done.settings ++ others.settings; ports = done.ports ++ others.ports })
joined done (Err e) = Err e

without_first : {A : Type 0} (first : Option A) (others : Option (List A)) → is_some (option_and_then (λ x. option_and_then (λ xs. Some (x ∷ xs)) others) first) ≡ true → is_some others ≡ true
without_first first (Some xs) some = refl
without_first (Some x) None some = some
without_first None None some = some

-- one more that was read, before the others
joined_others : (done new : Lists) (setting : LinkSetting) (ports : Ports) (others : Result Lists LinksFault)
    → new.settings ≡ done.settings ++ setting ∷ [] → new.ports ≡ done.ports ++ ports ∷ []
    → joined new others ≡ joined done (others >>= λ rest. Ok (with_first (setting, ports) rest))
joined_others done new setting ports (Err e) more_settings more_ports = refl
joined_others done new setting ports (Ok others) more_settings more_ports = rw (more_settings, more_ports, append_assoc done.settings, append_assoc done.ports)

joined_one : (done new : Lists) (setting : LinkSetting) (ports : Ports) (n : ℕ) (version : Version) (ms : Members) (ts : List Members)
    → new.settings ≡ done.settings ++ setting ∷ [] → new.ports ≡ done.ports ++ ports ∷ [] → numbered_entry version n ms ≡ Ok (setting, ports)
    → joined new (read_from (n + 1) version ts) ≡ joined done (read_from n version (ms ∷ ts))
joined_one done new setting ports n version ms ts more_settings more_ports good =
    rw good (joined_others done new setting ports (read_from (n + 1) version ts) more_settings more_ports)

joined_each : (done new : Lists) (setting : LinkSetting) (ports : Ports) (n : ℕ) (version : Version) (ms : Members) (rest : Option (List Members))
    → new.settings ≡ done.settings ++ setting ∷ [] → new.ports ≡ done.ports ++ ports ∷ [] → numbered_entry version n ms ≡ Ok (setting, ports)
    → option_map (λ ts. joined new (read_from (n + 1) version ts)) rest ≡ option_map (λ ts. joined done (read_from n version ts)) (option_map (λ ts. ms ∷ ts) rest)
joined_each done new setting ports n version ms None more_settings more_ports good = refl
joined_each done new setting ports n version ms (Some ts) more_settings more_ports good =
    ap Some (joined_one done new setting ports n version ms ts more_settings more_ports good)

-- a step of the loop over the entries
pub entry_read : (done new : Lists) (setting : LinkSetting) (ports : Ports) (n : ℕ) (version : Version) (d : Data) (ms : Members) (all ds : Items)
    → all ≡ item d ds → as_table d ≡ Some ms → numbered_entry version n ms ≡ Ok (setting, ports)
    → new.settings ≡ done.settings ++ setting ∷ [] → new.ports ≡ done.ports ++ ports ∷ []
    → option_map (λ ts. joined new (read_from (n + 1) version ts)) (read_each as_table ds) ≡ option_map (λ ts. joined done (read_from n version ts)) (read_each as_table all)
entry_read done new setting ports n version d ms all ds first is_table good more_settings more_ports =
    rw (first, is_table) (joined_each done new setting ports n version ms (read_each as_table ds) more_settings more_ports good)

-- items that are all tables are tables without the first
pub others_are_tables : (d : Data) (all ds : Items) → all ≡ item d ds → is_some (read_each as_table all) ≡ true → is_some (read_each as_table ds) ≡ true
others_are_tables d all ds first tables = without_first (as_table d) (read_each as_table ds) (rw first at tables)
