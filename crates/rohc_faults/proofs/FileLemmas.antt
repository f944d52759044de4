-- The faults of the entries so far, before those of the others.
use Rattle.std.proofs.Common.{◌≡◌, ◌+◌, ◌++◌, ◌∷◌, [], ℕ, List, Option, Some, None, is_some, true, refl, arith}
use Rattle.std.proofs.lemmas.List.{append_assoc, append-nil}
use Rattle.std.proofs.lemmas.Grind.{common_steps}
use Rattle.std.specs.Prelude.{unwrap_or, option_and_then}
use Rattle.toml.specs.Data.{Data, Items, no_items, item, Members, as_table}
use Rattle.rohc_links.specs.declared.version.Version.{Version}
use Rattle.rohc_links.specs.Ranges.{read_each}
use Rattle.rohc_faults.specs.Entry.{number_of, AreFaultsOf}
use Rattle.rohc_faults.specs.File.{AreEntriesOf}
use Rattle.rohc_faults.specs.declared.entry.EntryFaults.{EntryFaults}

-- the tables among items that are all tables
abbrev pub tables_of : Items → List Members
tables_of ds = unwrap_or (read_each as_table ds) []

-- faults of the items left, behind those so far, are the faults of all
abbrev pub Leads : Version → List (Option ℕ) → ℕ → Items → List EntryFaults → Items → Type 0
Leads version before n left so_far all = (others : List EntryFaults)
    → AreEntriesOf version before n (tables_of left) others → AreEntriesOf version [] 1 (tables_of all) (so_far ++ others)

tables_first : (ms : Members) (others : Option (List Members)) → is_some others ≡ true
    → unwrap_or (option_and_then (λ xs. Some (ms ∷ xs)) others) [] ≡ ms ∷ unwrap_or others []
tables_first ms (Some xs) some = refl
tables_first ms None some = grind (arith, common_steps)

-- a step of the loop over the entries
pub leads_on : (version : Version) (before more : List (Option ℕ)) (n : ℕ) (d : Data) (ms : Members) (left rest : Items)
    (so_far new : List EntryFaults) (faults : EntryFaults) (all : Items) → left ≡ item d rest → as_table d ≡ Some ms
    → is_some (read_each as_table rest) ≡ true → AreFaultsOf version before n ms faults
    → more ≡ before ++ number_of ms ∷ [] → new ≡ so_far ++ faults ∷ [] → Leads version before n left so_far all
    → Leads version more (n + 1) rest new all
leads_on version before more n d ms left rest so_far new faults all first is_table some are one_more pushed leads others theirs =
    rw (pushed, append_assoc so_far (faults ∷ []) others)
    (leads (faults ∷ others) (rw (first, is_table, tables_first ms (read_each as_table rest) some) (are, rw one_more at theirs)))

-- after the last entry
pub leads_to : (version : Version) (before : List (Option ℕ)) (n : ℕ) (left : Items) (so_far : List EntryFaults) (all : Items)
    → left ≡ no_items → Leads version before n left so_far all → AreEntriesOf version [] 1 (tables_of all) so_far
leads_to version before n left so_far all none leads = rw (append-nil so_far) at (leads [] (rw none tt))
