-- Reading a saved concentrator from left to right, up to the first fault. A place counts octets from 0, and
-- is the length of the whole text without what is left of it. Words: link_at, form_at; HasLinks; restored.
use Rattle.std.specs.Prelude.{ℕ, zero, suc, ◌-◌, ◌+◌, ◌*◌, ◌^◌, ◌≤◌, List, [], ◌∷◌, ◌++◌, length, take, drop, Bool, true, false, not, nat_le, nat_lt, ◌==◌, ◌&&◌, bytes_eq, Result, Ok, Err, MatchResult, ◌≡◌, ◌⊎◌}
use Rattle.std.specs.List.{list_any}
use Rattle.sha2.specs.Sha256.{sha256}
use Rattle.rohc_bits.specs.Reading.{◌>>=◌, next_octet, next_word}
use Rattle.rohc_frame.specs.declared.header.CidKind.{CidKind}
use Rattle.rohc_frame.specs.declared.header.CidKind.TheVariants.{Small, Large}
use Rattle.rohc_frame.specs.Header.{greatest_cid}
use Rattle.rohc_context.specs.declared.context_fault.ContextFault.{ContextFault}
use Rattle.rohc_context.specs.declared.context_fault.ContextFault.TheVariants as context_faults
use Rattle.rohc_context.specs.Record.{Record}
use Rattle.rohc_context.specs.SavedReading.{saved_at}
use Rattle.rohc_saved.specs.declared.fault.SavedFault.{SavedFault}
use Rattle.rohc_saved.specs.declared.fault.SavedFault.TheVariants.{NotSaved, Version, Short, BadLink, BadContext, BadOrder, Digest, Long, NoMemory}
use Rattle.rohc_saved.specs.Form.{Link, Form, magic}

-- a value and the octets after it, or the first fault
abbrev pub Read : Type 0 → Type 0
Read A = Result (A × List ℕ) SavedFault

-- the value, if the test holds; else this fault
abbrev pub given : {A : Type 0} → Bool → SavedFault → A → Result A SavedFault
given true fault x = Ok x
given false fault x = Err fault

-- What a reader that makes lists gives, and the octets that it left, are what the definition gives; or there
-- is no memory where some is wanted.
abbrev pub Gives : {A B : Type 0} → (A → B) → (wants : Type 0) → Result A SavedFault → List ℕ → Read B →
    Type 0
Gives view wants result behind read =
    MatchResult result (λ x. read ≡ Ok (view x, behind)) (λ e. ((e ≡ NoMemory) × wants) ⊎ (read ≡ Err e))

-- One more was read, and is kept behind those before it; or there is no memory.
abbrev pub AddsNext : {A : Type 0} → Result Unit SavedFault → (old new : List A) → List ℕ → Read A → Type 0
AddsNext {A} result old new behind read =
    MatchResult result (λ _. (x : A) × (read ≡ Ok (x, behind)) × (new ≡ old ++ x ∷ []))
    (λ e. (e ≡ NoMemory) ⊎ (read ≡ Err e))

-- a reader's value, whatever octets it left, or its fault
abbrev pub IsValue : {A : Type 0} → Result A SavedFault → Read A → Type 0
IsValue {A} result read =
    MatchResult result (λ x. (behind : List ℕ) × (read ≡ Ok (x, behind))) (λ e. read ≡ Err e)

-- what a reader of no value leaves is what the definition leaves
abbrev pub Passes : Result Unit SavedFault → List ℕ → Result (List ℕ) SavedFault → Type 0
Passes result behind read = MatchResult result (λ _. read ≡ Ok behind) (λ e. read ≡ Err e)

-- so many octets, or this fault if fewer are left
unfoldable pub part_at : ℕ → SavedFault → List ℕ → Read (List ℕ)
part_at count short text = given (nat_le count (length text)) short (take count text, drop count text)

unfoldable pub magic_at : List ℕ → Result (List ℕ) SavedFault
magic_at text = do
  (name, after) ← part_at 9 NotSaved text
  given (bytes_eq name magic) NotSaved after

-- Each reader takes the length of the whole text first.

abbrev pub octet_at : ℕ → List ℕ → Read ℕ
octet_at total text = next_octet (Short total) text

abbrev pub word_at : ℕ → List ℕ → Read ℕ
word_at total text = next_word (Short total) text

unfoldable pub quad_at : ℕ → List ℕ → Read ℕ
quad_at total text = do
  (high, text) ← word_at total text
  (low, text) ← word_at total text
  Ok (high * 65536 + low, text)

unfoldable pub long_at : ℕ → List ℕ → Read ℕ
long_at total text = do
  (high, text) ← quad_at total text
  (low, text) ← quad_at total text
  Ok (high * 2 ^ 32 + low, text)

unfoldable pub version_at : ℕ → List ℕ → Result (List ℕ) SavedFault
version_at total text = do
  (version, after) ← word_at total text
  given (version == 1) (Version (total - length text)) after

-- a fault of a context, by how many octets are left there, at its place in the whole text
abbrev pub placed : ℕ → ContextFault → SavedFault
placed total context_faults.Short = Short total
placed total (context_faults.Bad left) = BadContext (total - left)
placed total (context_faults.Long left) = Long (total - left)

abbrev pub in_whole : {A : Type 0} → ℕ → Result A ContextFault → Result A SavedFault
in_whole total (Ok x) = Ok x
in_whole total (Err fault) = Err (placed total fault)

abbrev pub record_text_at : ℕ → List ℕ → Read Record
record_text_at total text = in_whole total (saved_at text)

-- one of these has the number
abbrev pub has : {A : Type 0} → ℕ → List (ℕ × A) → Bool
has {A} n held = list_any (λ (x : ℕ × A). n == x.0) held

-- a CID that is within the link's greatest, and that none of the contexts before has
unfoldable pub cid_at : (total greatest : ℕ) → List (ℕ × Record) → List ℕ → Read ℕ
cid_at total greatest held text = do
  (cid, after) ← word_at total text
  given (nat_le cid greatest && not (has cid held)) (BadOrder (total - length text)) (cid, after)

unfoldable pub context_at : (total greatest : ℕ) → List (ℕ × Record) → List ℕ → Read (ℕ × Record)
context_at total greatest held text = do
  (cid, text) ← cid_at total greatest held text
  (r, text) ← record_text_at total text
  Ok ((cid, r), text)

-- so many contexts behind those that were read
unfoldable pub contexts_at : (total greatest count : ℕ) → List (ℕ × Record) → List ℕ
    → Read (List (ℕ × Record))
contexts_at total greatest zero held text = Ok (held, text)
contexts_at total greatest (suc count) held text = do
  (one, text) ← context_at total greatest held text
  contexts_at total greatest count (held ++ one ∷ []) text

-- the number of a link that none of the links before has
unfoldable pub number_at : ℕ → List (ℕ × Link) → List ℕ → Read ℕ
number_at total held text = do
  (number, after) ← word_at total text
  given (not (has number held)) (BadOrder (total - length text)) (number, after)

abbrev pub size_of : ℕ → CidKind
size_of zero = Small
size_of (suc n) = Large

unfoldable pub size_at : ℕ → List ℕ → Read CidKind
size_at total text = do
  (octet, after) ← octet_at total text
  given (nat_lt octet 2) (BadLink (total - length text)) (size_of octet, after)

-- the reserved octet is 0
unfoldable pub reserved_at : ℕ → List ℕ → Result (List ℕ) SavedFault
reserved_at total text = do
  (octet, after) ← octet_at total text
  given (octet == 0) (BadLink (total - length text)) after

-- a greatest CID that links of this kind can have
unfoldable pub greatest_at : ℕ → CidKind → List ℕ → Read ℕ
greatest_at total size text = do
  (greatest, after) ← word_at total text
  given (nat_le greatest (greatest_cid size)) (BadLink (total - length text)) (greatest, after)

unfoldable pub link_at : ℕ → List (ℕ × Link) → List ℕ → Read (ℕ × Link)
link_at total held text = do
  (number, text) ← number_at total held text
  (size, text) ← size_at total text
  text ← reserved_at total text
  (greatest, text) ← greatest_at total size text
  (count, text) ← word_at total text
  (contexts, text) ← contexts_at total greatest count [] text
  Ok ((number, record { size = size; greatest = greatest; contexts = contexts }), text)

-- so many links behind those that were read
unfoldable pub links_at : (total count : ℕ) → List (ℕ × Link) → List ℕ → Read (List (ℕ × Link))
links_at total zero held text = Ok (held, text)
links_at total (suc count) held text = do
  (one, text) ← link_at total held text
  links_at total count (held ++ one ∷ []) text

-- the moment of saving, behind the name and the version
unfoldable pub moment_at : ℕ → List ℕ → Read ℕ
moment_at total text = do
  text ← magic_at text
  text ← version_at total text
  long_at total text

unfoldable pub form_at : ℕ → List ℕ → Read Form
form_at total text = do
  text ← magic_at text
  text ← version_at total text
  (moment, text) ← long_at total text
  (count, text) ← word_at total text
  (links, text) ← links_at total count [] text
  Ok (record { moment = moment; links = links }, text)

-- how many links stand behind the name, the version and the moment
unfoldable pub count_at : ℕ → List ℕ → Read ℕ
count_at total text = do
  text ← magic_at text
  text ← version_at total text
  (moment, text) ← long_at total text
  word_at total text

-- the octets begin as those of a saved concentrator do that has links
abbrev pub HasLinks : ℕ → List ℕ → Type 0
HasLinks total text = (count : ℕ) × (behind : List ℕ) × (count_at total text ≡ Ok (count, behind))
    × (1 ≤ count)

-- the digest is that of the octets before it
unfoldable pub digest_at : (whole text : List ℕ) → Result (List ℕ) SavedFault
digest_at whole text = do
  (digest, after) ← part_at 32 (Short (length whole)) text
  given (bytes_eq digest (sha256 (take (length whole - length text) whole)))
      (Digest (length whole - length text)) after

-- what a text spells, or its first fault
unfoldable pub restored : List ℕ → Result Form SavedFault
restored whole = do
  (form, text) ← form_at (length whole) whole
  text ← digest_at whole text
  given (length text == 0) (Long (length whole - length text)) form
