-- A file has an unknown name, or a key that is missing or wrong, exactly if it can't be read.
use Rattle.std.proofs.Common.{◌≡◌, ◌+◌, ◌++◌, ◌∷◌, [], ℕ, List, Option, Some, None, Bool, true, false, not, map, cond, refl, sym, ap, ◌∙◌, Result, Ok, Err}
use Rattle.std.specs.Prelude.{◌&&◌, is_ok, is_some, is_none, ok_or, unwrap_or, if◌then◌else◌, codes}
use Rattle.std.specs.Result.{result_err}
use Rattle.toml.specs.Data.{Members, no_members, member}
use Rattle.rohc_concentrator.specs.declared.setting.LinkSetting.{LinkSetting}
use Rattle.rohc_links.specs.declared.ports.Ports.{Ports}
use Rattle.rohc_links.specs.declared.version.Version.{Version}
use Rattle.rohc_links.specs.declared.version.Version.TheVariants.{Two}
use Rattle.rohc_links.specs.declared.fault.Key.{Key}
use Rattle.rohc_links.specs.declared.fault.Key.TheVariants as key
use Rattle.rohc_links.specs.declared.fault.LinksFault.{LinksFault}
use Rattle.rohc_links.specs.declared.fault.LinksFault.TheVariants.{BadVersion, UnknownKey, BadKey}
use Rattle.rohc_links.specs.Keys.{name_of}
use Rattle.rohc_links.specs.Fields.{is_among, has_only}
use Rattle.rohc_links.specs.Entry.{◌>>=◌, keys, numbered_entry}
use Rattle.rohc_links.specs.Links.{Lists, with_first, entries, read_from, read_table}
use Rattle.rohc_links.specs.Unfit.{unfit_keys, names_beside, first_fault}
use Rattle.rohc_links.proofs.UnfitLemmas.{tells_first}
use Rattle.rohc_faults.specs.Entry.{number_of, AreFaultsOf}
use Rattle.rohc_faults.specs.File.{version_of, AreEntriesOf}
use Rattle.rohc_faults.specs.Read.{is_nil, are_read, TellsUnread}
use Rattle.rohc_faults.specs.declared.entry.EntryFaults.{EntryFaults}

nil_map : {A B : Type 0} (g : A → B) (xs : List A) → is_nil (map g xs) ≡ is_nil xs
nil_map g [] = refl
nil_map g (x ∷ xs) = refl

ok_without_err : {A E : Type 0} (r : Result A E) → is_ok r ≡ is_none (result_err r)
ok_without_err (Ok x) = refl
ok_without_err (Err e) = refl

none_first : (n : ℕ) (names : List (List ℕ)) (unfit : List Key) → is_none (first_fault n names unfit) ≡ (is_nil names && is_nil unfit)
none_first n [] [] = refl
none_first n [] (k ∷ unfit) = refl
none_first n (name ∷ names) unfit = refl

-- an entry is read exactly if it has no such fault
entry_read : (version : Version) (before : List (Option ℕ)) (n : ℕ) (ms : Members) (f : EntryFaults) → AreFaultsOf version before n ms f
    → is_ok (numbered_entry version n ms) ≡ (is_nil f.unknown.items && is_nil f.unfit.items)
entry_read version before n ms f are =
    let known = map name_of (keys version) in
    let named : is_nil (names_beside known ms) ≡ is_nil f.unknown.items =
    sym (ap (λ names. is_nil names) are.unknown) ∙ nil_map (λ s. s.now) f.unknown.items in
    ok_without_err (numbered_entry version n ms)
    ∙ ap (λ e. is_none e) (tells_first version n ms)
    ∙ none_first n (names_beside known ms) (unfit_keys version ms)
    ∙ ap (λ b. b && is_nil (unfit_keys version ms)) named
    ∙ ap (λ ks. is_nil f.unknown.items && is_nil ks) (sym are.unfit)

both_read : (r : Result (LinkSetting × Ports) LinksFault) (rest : Result Lists LinksFault)
    → is_ok (r >>= λ first. (rest >>= λ others. Ok (with_first first others))) ≡ (is_ok r && is_ok rest)
both_read (Err e) rest = refl
both_read (Ok x) (Ok y) = refl
both_read (Ok x) (Err e) = refl

-- all entries are read exactly if none has such a fault
from_read : (version : Version) (before : List (Option ℕ)) (n : ℕ) (tables : List Members) (fs : List EntryFaults)
    → AreEntriesOf version before n tables fs → is_ok (read_from n version tables) ≡ are_read fs
from_read version before n [] [] are = refl
from_read version before n [] (f ∷ fs) are = elim are [ ]
from_read version before n (ms ∷ more) [] are = elim are [ ]
from_read version before n (ms ∷ more) (f ∷ fs) (are, others) =
    both_read (numbered_entry version n ms) (read_from (n + 1) version more)
    ∙ ap (λ b. b && is_ok (read_from (n + 1) version more)) (entry_read version before n ms f are)
    ∙ ap (λ b. (is_nil f.unknown.items && is_nil f.unfit.items) && b) (from_read version (before ++ number_of ms ∷ []) (n + 1) more fs others)

tables_read : (version : Version) (tables : Option (List Members)) (e : LinksFault) (fs : List EntryFaults)
    → AreEntriesOf version [] 1 (unwrap_or tables []) fs → is_ok (ok_or tables e >>= λ ts. read_from 1 version ts) ≡ (is_some tables && are_read fs)
tables_read version None e fs are = refl
tables_read version (Some ts) e fs are = from_read version [] 1 ts fs are

known_read : (b : Bool) (ms : Members) (e : LinksFault) (next : Members → Result Lists LinksFault)
    → is_ok ((if b then Ok ms else Err e) >>= next) ≡ (b && is_ok (next ms))
known_read true ms e next = refl
known_read false ms e next = refl

version_read : (v : Option Version) (e : LinksFault) (next : Version → Result Lists LinksFault)
    → is_ok (ok_or v e >>= next) ≡ (is_some v && is_ok (next (unwrap_or v Two)))
version_read None e next = refl
version_read (Some v) e next = refl

some_not_none : {A : Type 0} (o : Option A) → is_some o ≡ not (is_none o)
some_not_none None = refl
some_not_none (Some x) = refl

beside : (b h : Bool) (name : List ℕ) (others : List (List ℕ)) → h ≡ is_nil others → (b && h) ≡ is_nil (cond (not b) (name ∷ others) others)
beside true h name others e = e
beside false h name others e = refl

none_beside : (known : List (List ℕ)) (ms : Members) → has_only known ms ≡ is_nil (names_beside known ms)
none_beside known no_members = refl
none_beside known (member name d ms) = beside (is_among known name) (has_only known ms) name (names_beside known ms) (none_beside known ms)

top : List (List ℕ)
top = codes "version" ∷ codes "link" ∷ []

pub tells_unread : TellsUnread
unfolding read_table top
tells_unread ms f are =
    let v = version_of ms in
    let next : Version → Members → Result Lists LinksFault = λ version known. ok_or (entries known) (BadKey 0 key.Link) >>= λ tables. read_from 1 version tables in
    let known : has_only top ms ≡ is_nil f.unknown.items =
    none_beside top ms ∙ sym (ap (λ names. is_nil names) are.unknown) ∙ nil_map (λ s. s.now) f.unknown.items in
    version_read v BadVersion (λ version. (if has_only top ms then Ok ms else Err (UnknownKey 0)) >>= next version)
    ∙ ap (λ b. is_some v && b) (known_read (has_only top ms) ms (UnknownKey 0) (next (unwrap_or v Two)))
    ∙ ap (λ b. is_some v && (has_only top ms && b)) (tables_read (unwrap_or v Two) (entries ms) (BadKey 0 key.Link) f.entries.items are.each)
    ∙ ap (λ b. b && (has_only top ms && (is_some (entries ms) && are_read f.entries.items))) (some_not_none v ∙ ap not (sym are.version_is))
    ∙ ap (λ b. not f.version && (b && (is_some (entries ms) && are_read f.entries.items))) known
    ∙ ap (λ b. not f.version && (is_nil f.unknown.items && (b && are_read f.entries.items))) (some_not_none (entries ms) ∙ ap not (sym are.link_is))
