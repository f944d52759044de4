-- The paths of a save. Words: IsLastSlash, IsFolder; beside.
use Rattle.std.specs.Prelude.{◌⊎◌, ◌≡◌, ◌≢◌, ◌<◌, ℕ, List, ◌++◌, take, length, slice_index, codes}
use Rattle.std.specs.Path.{slash, root_dir, cur_dir}

-- the last slash of a path is at this index
pub record IsLastSlash (path : List ℕ) (index : ℕ) : Type 0 where
  pub within : index < length path
  pub found : slice_index path index ≡ slash
  pub last : (i : ℕ) → index < i → i < length path → slice_index path i ≢ slash

-- The folder of a path: what is before its last slash, `/` if that is nothing, and `.` if there is no slash.
abbrev pub IsFolder : List ℕ → List ℕ → Type 0
IsFolder path folder =
    (((i : ℕ) → i < length path → slice_index path i ≢ slash) × (folder ≡ cur_dir))
    ⊎ (IsLastSlash path 0 × (folder ≡ root_dir))
    ⊎ ((index : ℕ) × (0 < index) × IsLastSlash path index × (folder ≡ take index path))

-- the path of the new file beside a file
abbrev pub beside : List ℕ → List ℕ
beside path = path ++ codes ".new"
