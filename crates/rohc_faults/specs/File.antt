-- The faults of a whole links file. Words: AreEntriesOf; AreFileFaults.
use Rattle.std.specs.Prelude.{◌≡◌, ◌+◌, ℕ, List, [], ◌∷◌, ◌++◌, map, codes, Option, unwrap_or, is_none}
use Rattle.toml.specs.Data.{Members}
use Rattle.rohc_links.specs.declared.version.Version.{Version}
use Rattle.rohc_links.specs.declared.version.Version.TheVariants.{Two}
use Rattle.rohc_links.specs.Fields.{field_at}
use Rattle.rohc_links.specs.Links.{version, entries}
use Rattle.rohc_links.specs.Unfit.{names_beside}
use Rattle.rohc_faults.specs.Entry.{number_of, AreFaultsOf}
use Rattle.rohc_faults.specs.declared.entry.EntryFaults.{EntryFaults}
use Rattle.rohc_faults.specs.declared.file.FileFaults.{FileFaults}

-- the version, if it can be read
abbrev pub version_of : Members → Option Version
version_of ms = field_at version (codes "version") ms

-- the faults of the entries, numbered from n, behind entries with these link numbers
abbrev pub AreEntriesOf : Version → List (Option ℕ) → ℕ → List Members → List EntryFaults → Type 0
AreEntriesOf version before n [] [] = Unit {0}
AreEntriesOf version before n (ms ∷ more) (faults ∷ others) =
    AreFaultsOf version before n ms faults
    × AreEntriesOf version (before ++ number_of ms ∷ []) (n + 1) more others
AreEntriesOf version before n _ _ = ⊥

-- all faults of a file's table; entries of a wrong version are judged by version 2
pub record AreFileFaults (ms : Members) (faults : FileFaults) : Type 0 where
  pub version_is : faults.version ≡ is_none (version_of ms)
  pub unknown : map (λ s. s.now) faults.unknown.items ≡ names_beside (codes "version" ∷ codes "link" ∷ []) ms
  pub link_is : faults.link ≡ is_none (entries ms)
  pub each :
      AreEntriesOf (unwrap_or (version_of ms) Two) [] 1 (unwrap_or (entries ms) []) faults.entries.items
