-- All that is wrong with an entry. Words: is_fit; unfit_keys; names_beside others; first_fault, TellsFirst.
use Rattle.std.specs.Prelude.{◌≡◌, ℕ, List, [], ◌∷◌, map, filter, Bool, true, not, is_ok, Option, Some, None}
use Rattle.std.specs.Result.{result_err}
use Rattle.toml.specs.Data.{Members, no_members, member}
use Rattle.rohc_links.specs.declared.version.Version.{Version}
use Rattle.rohc_links.specs.declared.fault.Key.{Key}
use Rattle.rohc_links.specs.declared.fault.Key.TheVariants as key
use Rattle.rohc_links.specs.declared.fault.LinksFault.{LinksFault}
use Rattle.rohc_links.specs.declared.fault.LinksFault.TheVariants.{UnknownKey, BadKey}
use Rattle.rohc_links.specs.Keys.{name_of}
use Rattle.rohc_links.specs.Fields.{whole_number, size, mode, required_field, optional_field, is_among}
use Rattle.rohc_links.specs.Ranges.{ranges}
use Rattle.rohc_links.specs.Entry.{keys, numbered_entry}

-- there is a number up to the greatest at the key
abbrev pub has_number : ℕ → Key → Members → Bool
has_number greatest key ms = is_ok (required_field (whole_number 0 greatest) key ms)

-- there is a port at the key
abbrev pub has_port : Key → Members → Bool
has_port key ms = is_ok (required_field (whole_number 1 65535) key ms)

-- the entry has at the key what is needed there
abbrev pub is_fit : Key → Members → Bool
is_fit key.Link ms = true
is_fit key.Number ms = has_number 65535 key.Number ms
is_fit key.Cid ms = is_ok (required_field size key.Cid ms)
is_fit key.MaxCid ms = has_number 65535 key.MaxCid ms
is_fit key.Mode ms = is_ok (required_field mode key.Mode ms)
is_fit key.K1 ms = has_number 255 key.K1 ms
is_fit key.N1 ms = has_number 255 key.N1 ms
is_fit key.K2 ms = has_number 255 key.K2 ms
is_fit key.N2 ms = has_number 255 key.N2 ms
is_fit key.PacketMs ms = has_number 4294967295 key.PacketMs ms
is_fit key.StaticNackMs ms = has_number 4294967295 key.StaticNackMs ms
is_fit key.DeliverPort ms = has_port key.DeliverPort ms
is_fit key.FeedbackPort ms = has_port key.FeedbackPort ms
is_fit key.RelayPort ms = has_port key.RelayPort ms
is_fit key.IdleMs ms = has_number 4294967295 key.IdleMs ms
is_fit key.Range ms = is_ok (optional_field ranges key.Range ms)

-- the keys of an entry that are missing or wrong, in the order in which they are judged
abbrev pub unfit_keys : Version → Members → List Key
unfit_keys version ms = filter (λ k. not (is_fit k ms)) (keys version)

-- the names of the members
abbrev pub names_of : Members → List (List ℕ)
names_of no_members = []
names_of (member name d ms) = name ∷ names_of ms

-- those names that aren't among the known ones
abbrev pub names_beside : List (List ℕ) → Members → List (List ℕ)
names_beside known ms = filter (λ name. not (is_among known name)) (names_of ms)

-- the fault of an entry, by its unknown names and its keys that are missing or wrong
abbrev pub first_fault : ℕ → List (List ℕ) → List Key → Option LinksFault
first_fault n (name ∷ names) unfit = Some (UnknownKey n)
first_fault n [] (key ∷ unfit) = Some (BadKey n key)
first_fault n [] [] = None

-- an entry's fault is the first of all that is wrong with it
abbrev pub TellsFirst : Type 0
TellsFirst = (version : Version) (n : ℕ) (ms : Members) → result_err (numbered_entry version n ms)
    ≡ first_fault n (names_beside (map name_of (keys version)) ms) (unfit_keys version ms)
