-- Files that can be read. Words: is_read; TellsUnread.
use Rattle.std.specs.Prelude.{◌≡◌, List, [], ◌∷◌, Bool, true, false, not, ◌&&◌, is_ok}
use Rattle.toml.specs.Data.{Members}
use Rattle.rohc_links.specs.Links.{read_table}
use Rattle.rohc_faults.specs.File.{AreFileFaults}
use Rattle.rohc_faults.specs.declared.entry.EntryFaults.{EntryFaults}
use Rattle.rohc_faults.specs.declared.file.FileFaults.{FileFaults}

-- there is none
abbrev pub is_nil : {A : Type 0} → List A → Bool
is_nil [] = true
is_nil (x ∷ xs) = false

-- each entry has no name that isn't known, and no key that is missing or wrong
abbrev pub are_read : List EntryFaults → Bool
are_read [] = true
are_read (f ∷ fs) = (is_nil f.unknown.items && is_nil f.unfit.items) && are_read fs

-- nothing stands in the way of reading the file
abbrev pub is_read : FileFaults → Bool
is_read f = not f.version && (is_nil f.unknown.items && (not f.link && are_read f.entries.items))

-- a file has such faults exactly if reading it ends with one
abbrev pub TellsUnread : Type 0
TellsUnread = (ms : Members) (f : FileFaults) → AreFileFaults ms f → is_ok (read_table ms) ≡ is_read f
