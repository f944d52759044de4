use Rattle.std.proofs.Common.{◌≡◌, ℕ, ◌+◌, ◌*◌, ◌%◌, ◌<◌, ◌≤◌, true, false, List, [], ◌∷◌, length, take, get_or, Ok, refl, sym, ap, ⊎_elim, Fits, w8, arith}
use Rattle.std.specs.Prelude.{All, nat_lt}
use Rattle.std.proofs.lemmas.Bool.Decides.{nat_tests}
use Rattle.std.proofs.lemmas.Bool.{cases_lt}
use Rattle.std.proofs.lemmas.List.Elements.{All-head, All-tail, All-take, All-from_get_or}
use Rattle.rohc_bits.specs.Spelling.{IsSpelled}
use Rattle.rohc_bits.proofs.Arithmetic.{spelled_as, is_spelled}
use Rattle.rohc_frame.specs.declared.header.CidKind.{CidKind}
use Rattle.rohc_frame.specs.declared.header.CidKind.TheVariants.{Small, Large}
use Rattle.rohc_frame.specs.declared.header.HeadKind.{HeadKind}
use Rattle.rohc_frame.specs.declared.header.HeadKind.TheVariants.{Ir, IrDyn, Other}
use Rattle.rohc_frame.specs.Header.{is_kind, is_identifier, is_header, greatest_cid}
use Rattle.rohc_frame.specs.Parts.{kind_of, large_cid, two_octets}

-- an octet that starts a header of a kind fits that kind
pub kind_fits : (first : ℕ) (kind : HeadKind) → kind_of first ≡ Ok kind → is_kind kind first ≡ true
kind_fits first kind e = grind (arith, nat_tests)

-- conversely, an octet that fits a kind starts a header of it
pub kind_from : (first : ℕ) (kind : HeadKind) → is_kind kind first ≡ true → kind_of first ≡ Ok kind
kind_from first (Ir true) e = grind (arith, nat_tests)
kind_from first (Ir false) e = grind (arith, nat_tests)
kind_from first IrDyn e = grind (arith, nat_tests)
kind_from first Other e = grind (arith, nat_tests)

-- The identifier of a large link.

two_fit : (a : ℕ) (octets : List ℕ) (cid count : ℕ) → 128 ≤ a → a < 192 → two_octets a octets ≡ Ok (cid, count) → is_identifier Large cid (take count (a ∷ octets)) ≡ true
two_fit a [] cid count high low e = cc
two_fit a (b ∷ octets) cid count high low e =
    let pair : ◌≡◌ {A = ℕ × ℕ} (a % 64 * 256 + b, 2) (cid, count) = cc in
    let is : a % 64 * 256 + b ≡ cid = ap (λ (x : ℕ × ℕ). x.0) pair in
    let two : 2 ≡ count = ap (λ (x : ℕ × ℕ). x.1) pair in
    rw (← two, ← is) (grind (arith, nat_tests))

pub large_fits : (octets : List ℕ) (cid count : ℕ) → large_cid octets ≡ Ok (cid, count) → is_identifier Large cid (take count octets) ≡ true
large_fits [] cid count e = cc
large_fits (a ∷ octets) cid count e = ⊎_elim
    (λ (one : a < 128).
    let test : nat_lt a 128 ≡ true = grind (arith, nat_tests) in
    let pair : ◌≡◌ {A = ℕ × ℕ} (a, 1) (cid, count) = let f = rw test at e in cc in
    let is : a ≡ cid = ap (λ (x : ℕ × ℕ). x.0) pair in
    let single : 1 ≡ count = ap (λ (x : ℕ × ℕ). x.1) pair in
    rw (← single, ← is) (grind (arith, nat_tests)))
    (λ (two : 128 ≤ a). ⊎_elim
    (λ (low : a < 192).
    let test : nat_lt a 128 ≡ false = grind (arith, nat_tests) in
    let more : nat_lt a 192 ≡ true = grind (arith, nat_tests) in
    two_fit a octets cid count two low (rw (test, more) at e))
    (λ (high : 192 ≤ a).
    let test : nat_lt a 128 ≡ false = grind (arith, nat_tests) in
    let more : nat_lt a 192 ≡ false = grind (arith, nat_tests) in
    let f = rw (test, more) at e in cc)
    (cases_lt a 192))
    (cases_lt a 128)

-- an identifier is at most the greatest that its link can spell
pub identifier_bound : (size : CidKind) (cid : ℕ) (octets : List ℕ) → All (λ octet. octet < 256) octets → is_identifier size cid octets ≡ true → cid ≤ greatest_cid size
identifier_bound Small cid [] all e = grind (arith, nat_tests)
identifier_bound Small cid (a ∷ []) all e = grind (arith, nat_tests)
identifier_bound Small cid (a ∷ b ∷ octets) all e = cc
identifier_bound Large cid [] all e = cc
identifier_bound Large cid (a ∷ []) all e = grind (arith, nat_tests)
identifier_bound Large cid (a ∷ b ∷ []) all e =
    let P : ℕ → Type 0 = λ octet. octet < 256 in
    let octet : b < 256 = All-head P b [] (All-tail P a (b ∷ []) all) in
    grind (arith, nat_tests)
identifier_bound Large cid (a ∷ b ∷ c ∷ octets) all e = cc

-- A large CID and a first octet, as the code reads them, make a header.
pub large_header_fits : (octets : List ℕ) (cid count first : ℕ) (kind : HeadKind) → Ok (cid, count) ≡ large_cid octets → Ok kind ≡ kind_of first → is_header Large cid kind first (take count octets) ≡ true
large_header_fits octets cid count first kind identifier kinds = rw (large_fits octets cid count (sym identifier), kind_fits first kind (sym kinds)) refl

pub large_header_bound : (octets : List ℕ) (first : ℕ) (behind : List ℕ) (cid count : ℕ) → ((i : ℕ) → Fits w8 (get_or octets i 0)) → octets ≡ first ∷ behind → Ok (cid, count) ≡ large_cid behind → cid ≤ greatest_cid Large
large_header_bound octets first behind cid count fits e identifier =
    let P : ℕ → Type 0 = λ octet. octet < 256 in
    let all : All P octets = All-from_get_or P octets 0 (λ i _. omega (arith, fits i)) in
    identifier_bound Large cid (take count behind) (All-take P count behind (All-tail P first behind (rw e at all))) (large_fits behind cid count (sym identifier))

-- The octets of a large identifier are a spelling of it, of one or two octets.
spelled_from : (cid : ℕ) (octets : List ℕ) → All (λ octet. octet < 256) octets → is_identifier Large cid octets ≡ true → IsSpelled octets cid × (length octets ≤ 2)
spelled_from cid [] all e = cc
spelled_from cid (a ∷ []) all e = (is_spelled (a ∷ []) cid all (grind (arith, nat_tests), grind (arith, nat_tests)), omega arith)
spelled_from cid (a ∷ b ∷ []) all e = (is_spelled (a ∷ b ∷ []) cid all (grind (arith, nat_tests), grind (arith, nat_tests)), omega arith)
spelled_from cid (a ∷ b ∷ c ∷ octets) all e = cc

from_spelled : (cid : ℕ) (octets : List ℕ) → IsSpelled octets cid × (length octets ≤ 2) → is_identifier Large cid octets ≡ true
from_spelled cid [] is = absurd (spelled_as [] cid is.0)
from_spelled cid (a ∷ []) is = let s = spelled_as (a ∷ []) cid is.0 in grind (arith, nat_tests)
from_spelled cid (a ∷ b ∷ []) is = let s = spelled_as (a ∷ b ∷ []) cid is.0 in grind (arith, nat_tests)
from_spelled cid (a ∷ b ∷ c ∷ octets) is = let short = is.1 in absurd (omega arith)

pub spells_large : (cid : ℕ) (octets : List ℕ) → All (λ octet. octet < 256) octets → (is_identifier Large cid octets ≡ true → IsSpelled octets cid × (length octets ≤ 2)) × (IsSpelled octets cid × (length octets ≤ 2) → is_identifier Large cid octets ≡ true)
spells_large cid octets all = (spelled_from cid octets all, from_spelled cid octets)
