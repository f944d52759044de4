-- What is saved is read back.
use Rattle.std.proofs.Common.{◌≡◌, ℕ, ◌-◌, ◌/◌, ◌%◌, ◌^◌, ◌<◌, ◌≤◌, suc, List, [], ◌∷◌, ◌++◌, flat_map, map, length, take, true, false, Ok, refl, sym, ap, subst, ◌∙◌, arith, append_assoc, append-nil, nat_eq, length-append}
use Rattle.std.specs.Prelude.{All, nat_le, bytes_eq}
use Rattle.std.specs.List.{AllByRecursion, IsDistinct}
use Rattle.std.proofs.lemmas.Map.Keys.{IsDistinct-head, IsDistinct-tail}
use Rattle.std.proofs.lemmas.Bool.Decides.{nat_tests}
use Rattle.std.proofs.lemmas.List.{take_at}
use Rattle.std.proofs.lemmas.List.Elements.{All-head, All-tail}
use Rattle.std.proofs.lemmas.Slice.Eq.{bytes_eq-Decides}
use Rattle.sha2.specs.Sha256.{sha256}
use Rattle.sha2.proofs.Facts256.{length-sha256}
use Rattle.rohc_bits.specs.Reading.{next_octet, next_word}
use Rattle.rohc_frame.specs.declared.header.CidKind.{CidKind}
use Rattle.rohc_frame.specs.declared.header.CidKind.TheVariants.{Small, Large}
use Rattle.rohc_frame.specs.Header.{greatest_cid}
use Rattle.rohc_context.specs.Record.{Record}
use Rattle.rohc_saved.specs.declared.fault.SavedFault.TheVariants.{NotSaved, Short}
use Rattle.rohc_saved.specs.Form.{Link, Form, word, quad, long, size_octet, context_text, head_text, link_text, magic, start_text, form_text, signed}
use Rattle.rohc_saved.specs.Reading.{part_at, magic_at, word_at, quad_at, long_at, version_at, has, cid_at, context_at, contexts_at, number_at, size_at, reserved_at, greatest_at, link_at, links_at, form_at, digest_at, restored}
use Rattle.rohc_saved.specs.Laws.{IsGoodContext, IsGoodLink, IsGoodForm, IsReadBack}
use Rattle.rohc_saved.proofs.KeptLemmas.{kept_back}
use Rattle.rohc_saved.proofs.ReadingLemmas.{part_is, context_reads, contexts_step, links_step}

word_mod : (total n : ℕ) (rest : List ℕ) → word_at total (word n ++ rest) ≡ Ok (n % 65536, rest)
unfolding next_word next_octet
word_mod total n rest = ap (λ m. Ok (m, rest)) (omega arith)

word_back : (total n : ℕ) (rest : List ℕ) → n < 65536 → word_at total (word n ++ rest) ≡ Ok (n, rest)
word_back total n rest small = word_mod total n rest ∙ ap (λ m. Ok (m, rest)) (omega arith)

quad_mod : (total n : ℕ) (rest : List ℕ) → quad_at total (quad n ++ rest) ≡ Ok (n % 2 ^ 32, rest)
unfolding quad_at
quad_mod total n rest = rw (word_mod total (n / 65536) (word n ++ rest), word_mod total n rest) (ap (λ m. Ok (m, rest)) (omega arith))

long_back : (total n : ℕ) (rest : List ℕ) → n < 2 ^ 64 → long_at total (long n ++ rest) ≡ Ok (n, rest)
unfolding long_at long
long_back total n rest small = rw (quad_mod total (n / 2 ^ 32) (quad n ++ rest), quad_mod total n rest) (ap (λ m. Ok (m, rest)) (omega arith))

magic_back : (rest : List ℕ) → magic_at (magic ++ rest) ≡ Ok rest
unfolding magic_at
magic_back rest = rw (part_is 9 NotSaved magic rest refl) refl

version_back : (total : ℕ) (rest : List ℕ) → version_at total (word 1 ++ rest) ≡ Ok rest
unfolding version_at
version_back total rest = rw (word_back total 1 rest (omega arith)) refl

size_back : (total : ℕ) (size : CidKind) (rest : List ℕ) → size_at total (size_octet size ∷ rest) ≡ Ok (size, rest)
unfolding size_at next_octet
size_back total Small rest = refl
size_back total Large rest = refl

reserved_back : (total : ℕ) (rest : List ℕ) → reserved_at total (0 ∷ rest) ≡ Ok rest
unfolding reserved_at next_octet
reserved_back total rest = refl

greatest_small : (size : CidKind) → greatest_cid size < 65536
greatest_small Small = omega arith
greatest_small Large = omega arith

greatest_back : (total n : ℕ) (size : CidKind) (rest : List ℕ) → n ≤ greatest_cid size → greatest_at total size (word n ++ rest) ≡ Ok (n, rest)
unfolding greatest_at
greatest_back total n size rest within =
    let test : nat_le n (greatest_cid size) ≡ true = grind (arith, nat_tests) in
    let small = greatest_small size in
    rw (word_back total n rest (omega (arith, within, small)), test) refl

-- none of these has the number
abbrev Lacks : {A : Type 0} → ℕ → List (ℕ × A) → Type 0
Lacks n held = has n held ≡ false

number_back : (total n : ℕ) (held : List (ℕ × Link)) (rest : List ℕ) → n < 65536 → Lacks n held → number_at total held (word n ++ rest) ≡ Ok (n, rest)
unfolding number_at
number_back total n held rest small fresh = rw (word_back total n rest small, fresh) refl

context_back : (total greatest : ℕ) (held : List (ℕ × Record)) (c : ℕ × Record) (rest : List ℕ) → greatest < 65536 → IsGoodContext greatest c → Lacks c.0 held
    → context_at total greatest held (context_text c ++ rest) ≡ Ok (c, rest)
unfolding cid_at
context_back total greatest held c rest small good fresh =
    let kept = kept_back total c rest good.good in
    let within : c.0 ≤ greatest = good.within in
    let test : nat_le c.0 greatest ≡ true = grind (arith, nat_tests, within) in
    let cid : cid_at total greatest held (word c.0 ++ kept.text) ≡ Ok (c.0, kept.text) = rw (word_back total c.0 kept.text (omega (arith, within, small)), test, fresh) refl in
    ap (context_at total greatest held) kept.parts ∙ context_reads total greatest c.0 held (word c.0 ++ kept.text) kept.text rest c.1 cid kept.reads

-- each of these has a number that none before it has
abbrev Fresh : {A : Type 0} → List (ℕ × A) → List (ℕ × A) → Type 0
Fresh held [] = Unit {0}
Fresh {A} held (x ∷ more) = Lacks x.0 held × Fresh (held ++ x ∷ []) more

-- a number that comes behind distinct ones is none of them
lacks_front : {A : Type 0} (held more : List (ℕ × A)) (x : ℕ × A) → IsDistinct nat_eq (map (λ (y : ℕ × A). y.0) (held ++ x ∷ more)) → Lacks x.0 held
lacks_front [] more x distinct = refl
lacks_front {A} (h ∷ held) more x distinct =
    let rest = lacks_front held more x (IsDistinct-tail nat_eq h.0 (map (λ (y : ℕ × A). y.0) (held ++ x ∷ more)) distinct) in
    let other : nat_eq h.0 x.0 ≡ false = apart_at h.0 held more x (IsDistinct-head nat_eq h.0 (map (λ (y : ℕ × A). y.0) (held ++ x ∷ more)) distinct) in
    let same : nat_eq x.0 h.0 ≡ false = grind (arith, nat_tests, other) in
    rw same rest
  where
    apart_at : (n : ℕ) (front more : List (ℕ × A)) (x : ℕ × A) → AllByRecursion (λ y. nat_eq n y ≡ false) (map (λ (y : ℕ × A). y.0) (front ++ x ∷ more)) → nat_eq n x.0 ≡ false
    apart_at n [] more x all = all.0
    apart_at n (f ∷ front) more x all = apart_at n front more x all.1

fresh_by : {A : Type 0} (held more : List (ℕ × A)) → IsDistinct nat_eq (map (λ (y : ℕ × A). y.0) (held ++ more)) → Fresh held more
fresh_by held [] distinct = tt
fresh_by {A} held (x ∷ more) distinct =
    (lacks_front held more x distinct, fresh_by (held ++ x ∷ []) more (subst (λ xs. IsDistinct nat_eq (map (λ (y : ℕ × A). y.0) xs)) (sym (append_assoc held (x ∷ []) more)) distinct))

contexts_back : (total greatest : ℕ) (held more : List (ℕ × Record)) (rest : List ℕ) → greatest < 65536 → All (IsGoodContext greatest) more → Fresh held more
    → contexts_at total greatest (length more) held (flat_map context_text more ++ rest) ≡ Ok (held ++ more, rest)
unfolding contexts_at
contexts_back total greatest held [] rest small good fresh = ap (λ xs. Ok (xs, rest)) (sym (append-nil held))
contexts_back total greatest held (c ∷ more) rest small good fresh =
    let first = context_back total greatest held c (flat_map context_text more ++ rest) small (All-head (IsGoodContext greatest) c more good) fresh.0 in
    let others = contexts_back total greatest (held ++ c ∷ []) more rest small (All-tail (IsGoodContext greatest) c more good) fresh.1 in
    let split : (context_text c ++ flat_map context_text more) ++ rest ≡ context_text c ++ (flat_map context_text more ++ rest) = append_assoc (context_text c) (flat_map context_text more) rest in
    ap (contexts_at total greatest (suc (length more)) held) split ∙ contexts_step total greatest (length more) held (held ++ c ∷ []) (context_text c ++ (flat_map context_text more ++ rest)) (flat_map context_text more ++ rest) c first refl
    ∙ others ∙ ap (λ xs. Ok (xs, rest)) (append_assoc held (c ∷ []) more)

link_back : (total : ℕ) (held : List (ℕ × Link)) (l : ℕ × Link) (rest : List ℕ) → IsGoodLink l → Lacks l.0 held → link_at total held (link_text l ++ rest) ≡ Ok (l, rest)
unfolding link_at link_text head_text
link_back total held l rest good fresh =
    let texts : List ℕ = flat_map context_text l.1.contexts in
    let small : l.1.greatest < 65536 = let bound = greatest_small l.1.size in omega (arith, bound, good.greatest) in
    let fits : l.0 < 65536 = good.number in
    let few : length l.1.contexts < 65536 = good.few in
    rw (number_back total l.0 held (size_octet l.1.size ∷ 0 ∷ (word l.1.greatest ++ (word (length l.1.contexts) ++ (texts ++ rest)))) fits fresh)
    (rw (size_back total l.1.size (0 ∷ (word l.1.greatest ++ (word (length l.1.contexts) ++ (texts ++ rest)))))
    (rw (reserved_back total (word l.1.greatest ++ (word (length l.1.contexts) ++ (texts ++ rest))))
    (rw (greatest_back total l.1.greatest l.1.size (word (length l.1.contexts) ++ (texts ++ rest)) good.greatest)
    (rw (word_back total (length l.1.contexts) (texts ++ rest) few)
    (rw (contexts_back total l.1.greatest [] l.1.contexts rest small good.contexts (fresh_by [] l.1.contexts good.apart)) refl)))))

links_back : (total : ℕ) (held more : List (ℕ × Link)) (rest : List ℕ) → All IsGoodLink more → Fresh held more
    → links_at total (length more) held (flat_map link_text more ++ rest) ≡ Ok (held ++ more, rest)
unfolding links_at
links_back total held [] rest good fresh = ap (λ xs. Ok (xs, rest)) (sym (append-nil held))
links_back total held (l ∷ more) rest good fresh =
    let first = link_back total held l (flat_map link_text more ++ rest) (All-head IsGoodLink l more good) fresh.0 in
    let others = links_back total (held ++ l ∷ []) more rest (All-tail IsGoodLink l more good) fresh.1 in
    ap (links_at total (suc (length more)) held) (append_assoc (link_text l) (flat_map link_text more) rest)
    ∙ links_step total (length more) held (held ++ l ∷ []) (link_text l ++ (flat_map link_text more ++ rest)) (flat_map link_text more ++ rest) l first refl
    ∙ others ∙ ap (λ xs. Ok (xs, rest)) (append_assoc held (l ∷ []) more)

form_back : (total : ℕ) (form : Form) (rest : List ℕ) → IsGoodForm form → form_at total (form_text form ++ rest) ≡ Ok (form, rest)
unfolding form_at form_text start_text
form_back total form rest good =
    let texts : List ℕ = flat_map link_text form.links in
    let behind : List ℕ = word (length form.links) ++ (texts ++ rest) in
    let split = append_assoc (long form.moment ++ word (length form.links)) texts rest ∙ append_assoc (long form.moment) (word (length form.links)) (texts ++ rest) in
    ap (λ t. form_at total (magic ++ (word 1 ++ t))) split
    ∙ rw (magic_back (word 1 ++ (long form.moment ++ behind))) (rw (version_back total (long form.moment ++ behind)) (rw (long_back total form.moment behind good.moment)
    (rw (word_back total (length form.links) (texts ++ rest) good.few) (rw (links_back total [] form.links rest good.links (fresh_by [] form.links good.apart)) refl))))

same_bytes : (xs : List ℕ) → bytes_eq xs xs ≡ true
same_bytes xs = (bytes_eq-Decides xs xs).1 refl

-- the digest that stands behind a text is that of the text
digest_back : (text : List ℕ) → digest_at (text ++ sha256 text) (sha256 text) ≡ Ok []
unfolding digest_at
digest_back text =
    let whole : List ℕ = text ++ sha256 text in
    let before : length whole - length (sha256 text) ≡ length text = omega (arith, length-append text (sha256 text)) in
    let front : take (length whole - length (sha256 text)) whole ≡ text = take_at text (sha256 text) (length whole - length (sha256 text)) (sym before) in
    let part : part_at 32 (Short (length whole)) (sha256 text) ≡ Ok (sha256 text, []) = ap (part_at 32 (Short (length whole))) (sym (append-nil (sha256 text))) ∙ part_is 32 (Short (length whole)) (sha256 text) [] (length-sha256 text) in
    rw (part, front, same_bytes (sha256 text)) refl

pub read_back : IsReadBack
unfolding restored signed
read_back form good =
    let text : List ℕ = form_text form in
    rw (form_back (length (text ++ sha256 text)) form (sha256 text) good, digest_back text) refl
