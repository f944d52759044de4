-- What is read is what was saved.
use Rattle.std.proofs.Common.{◌≡◌, ℕ, ◌+◌, ◌-◌, ◌*◌, ◌/◌, ◌%◌, ◌^◌, ◌<◌, zero, suc, List, [], ◌∷◌, ◌++◌, flat_map, length, take, drop, Bool, true, false, Result, Ok, refl, sym, ap, subst, ◌∙◌, arith, append_assoc, append-nil, length-append}
use Rattle.std.specs.Prelude.{All, nat_le, nat_lt, ◌==◌, ◌&&◌, not, bytes_eq}
use Rattle.std.proofs.lemmas.Bool.{eqb-true}
use Rattle.std.proofs.lemmas.Bool.Decides.{nat_tests}
use Rattle.std.proofs.lemmas.List.{take_at, take-append-drop}
use Rattle.std.proofs.lemmas.List.Elements.{All-head, All-tail}
use Rattle.std.proofs.lemmas.Slice.Eq.{bytes_eq-Decides}
use Rattle.sha2.specs.Sha256.{sha256}
use Rattle.rohc_bits.specs.Bits.{IsOctet}
use Rattle.rohc_bits.specs.Reading.{◌>>=◌, next_octet, next_word}
use Rattle.rohc_bits.proofs.Steps.{ok_is, bind_ok}
use Rattle.rohc_frame.specs.declared.header.CidKind.{CidKind}
use Rattle.rohc_frame.specs.Header.{greatest_cid}
use Rattle.rohc_context.specs.Record.{Record}
use Rattle.rohc_saved.specs.declared.fault.SavedFault.{SavedFault}
use Rattle.rohc_saved.specs.declared.fault.SavedFault.TheVariants.{NotSaved, Version, Short, BadLink, BadOrder, Digest, Long}
use Rattle.rohc_saved.specs.Form.{Link, word, quad, long, size_octet, context_text, head_text, link_text, magic, start_text, form_text, signed}
use Rattle.rohc_saved.specs.Reading.{Read, given, part_at, magic_at, octet_at, word_at, quad_at, long_at, version_at, has, record_text_at, cid_at, context_at, contexts_at, number_at, size_of, size_at, reserved_at, greatest_at, link_at, links_at, form_at, digest_at, restored}
use Rattle.rohc_saved.specs.Laws.{FormIsSpelled}
use Rattle.rohc_saved.proofs.KeptLemmas.{kept_spells}

-- A reader reads only what a text spells, and such values.
abbrev Spells : {A : Type 0} → (List ℕ → Read A) → (A → List ℕ) → (A → Type 0) → Type 0
Spells {A} at t Good = (text : List ℕ) (y : A × List ℕ) → All IsOctet text → at text ≡ Ok y → (text ≡ t y.0 ++ y.1) × Good y.0

-- a reader of no value passes only this
abbrev Skips : (List ℕ → Result (List ℕ) SavedFault) → List ℕ → Type 0
Skips at t = (text rest : List ℕ) → All IsOctet text → at text ≡ Ok rest → text ≡ t ++ rest

abbrev Any : {A : Type 0} → A → Type 0
Any x = Unit {0}

all_behind : (front behind : List ℕ) → All IsOctet (front ++ behind) → All IsOctet behind
all_behind [] behind all = all
all_behind (x ∷ front) behind all = all_behind front behind (All-tail IsOctet x (front ++ behind) all)

-- of two steps that gave something, what the first read, and what the second did
record Took {A B : Type 0} (t : A → List ℕ) (Good : A → Type 0) (f : A × List ℕ → Result B SavedFault) (text : List ℕ) (y : B) : Type 0 where
  value : A
  mid : List ℕ
  whole : text ≡ t value ++ mid
  good : Good value
  octets : All IsOctet mid
  more : f (value, mid) ≡ Ok y

took : {A B : Type 0} (at : List ℕ → Read A) (t : A → List ℕ) (Good : A → Type 0) → Spells at t Good → (f : A × List ℕ → Result B SavedFault) (text : List ℕ) (y : B)
    → All IsOctet text → (at text >>= f) ≡ Ok y → Took t Good f text y
took {A} {B} at t Good spells f text y all e =
    let step = bind_ok (at text) f y e in
    let is = spells text step.0 all step.1 in
    record {
      value = step.0.0;
      mid = step.0.1;
      whole = is.0;
      good = is.1;
      octets = all_behind (t step.0.0) step.0.1 (subst (All IsOctet) is.0 all);
      more = step.2;
    }

-- the same where the first reads no value
record Went {B : Type 0} (t : List ℕ) (f : List ℕ → Result B SavedFault) (text : List ℕ) (y : B) : Type 0 where
  mid : List ℕ
  whole : text ≡ t ++ mid
  octets : All IsOctet mid
  more : f mid ≡ Ok y

went : {B : Type 0} (at : List ℕ → Result (List ℕ) SavedFault) (t : List ℕ) → Skips at t → (f : List ℕ → Result B SavedFault) (text : List ℕ) (y : B) → All IsOctet text → (at text >>= f) ≡ Ok y → Went t f text y
went {B} at t skips f text y all e =
    let step = bind_ok (at text) f y e in
    let is = skips text step.0 all step.1 in
    record { mid = step.0; whole = is; octets = all_behind t step.0 (subst (All IsOctet) is all); more = step.2 }

given_ok : {A : Type 0} (test : Bool) (fault : SavedFault) (x y : A) → given test fault x ≡ Ok y → (test ≡ true) × (x ≡ y)
given_ok {A} true fault x y e = (refl, ok_is {E = SavedFault} x y e)
given_ok false fault x y e = cc

abbrev one : ℕ → List ℕ
one n = n ∷ []

octet_spells : (total : ℕ) → Spells (octet_at total) one IsOctet
unfolding next_octet
octet_spells total [] y all e = cc
octet_spells total (a ∷ text) y all e = subst (λ y. (a ∷ text ≡ one y.0 ++ y.1) × IsOctet y.0) (ok_is {E = SavedFault} (a, text) y e) (refl, All-head IsOctet a text all)

abbrev IsWord : ℕ → Type 0
IsWord n = n < 65536

word_spells : (total : ℕ) → Spells (word_at total) word IsWord
unfolding next_word next_octet
word_spells total [] y all e = cc
word_spells total (a ∷ []) y all e = cc
word_spells total (a ∷ b ∷ text) y all e =
    let large : a < 256 = All-head IsOctet a (b ∷ text) all in
    let small : b < 256 = All-head IsOctet b text (All-tail IsOctet a (b ∷ text) all) in
    let high : (a * 256 + b) / 256 % 256 ≡ a = omega arith in
    let low : (a * 256 + b) % 256 ≡ b = omega arith in
    subst (λ y. (a ∷ b ∷ text ≡ word y.0 ++ y.1) × IsWord y.0) (ok_is {E = SavedFault} (a * 256 + b, text) y e) (rw (high, low) refl, omega arith)

-- the low 16 bits alone stand in a word
word_low : (n m : ℕ) → n % 65536 ≡ m % 65536 → word n ≡ word m
word_low n m e =
    let high : n / 256 % 256 ≡ m / 256 % 256 = omega (arith, e) in
    let low : n % 256 ≡ m % 256 = omega (arith, e) in
    rw (high, low) refl

-- the low 32 bits alone stand in a quad
quad_low : (n m : ℕ) → n % 2 ^ 32 ≡ m % 2 ^ 32 → quad n ≡ quad m
quad_low n m e =
    let high : n / 65536 % 65536 ≡ m / 65536 % 65536 = omega (arith, e) in
    let low : n % 65536 ≡ m % 65536 = omega (arith, e) in
    (λ i. word_low (n / 65536) (m / 65536) high i ++ word_low n m low i)

quad_of : (a b : ℕ) → a < 65536 → b < 65536 → word a ++ word b ≡ quad (a * 65536 + b)
quad_of a b large small =
    let high : a % 65536 ≡ (a * 65536 + b) / 65536 % 65536 = omega (arith, large, small) in
    let low : b % 65536 ≡ (a * 65536 + b) % 65536 = omega (arith, large, small) in
    (λ i. word_low a ((a * 65536 + b) / 65536) high i ++ word_low b (a * 65536 + b) low i)

long_of : (a b : ℕ) → a < 2 ^ 32 → b < 2 ^ 32 → quad a ++ quad b ≡ long (a * 2 ^ 32 + b)
unfolding long
long_of a b large small =
    let high : a % 2 ^ 32 ≡ (a * 2 ^ 32 + b) / 2 ^ 32 % 2 ^ 32 = omega (arith, large, small) in
    let low : b % 2 ^ 32 ≡ (a * 2 ^ 32 + b) % 2 ^ 32 = omega (arith, large, small) in
    (λ i. quad_low a ((a * 2 ^ 32 + b) / 2 ^ 32) high i ++ quad_low b (a * 2 ^ 32 + b) low i)

abbrev IsQuad : ℕ → Type 0
IsQuad n = n < 2 ^ 32

-- one text behind another
two_of : (text a mid b rest both : List ℕ) → text ≡ a ++ mid → mid ≡ b ++ rest → a ++ b ≡ both → text ≡ both ++ rest
two_of text a mid b rest both e f is = e ∙ ap (λ t. a ++ t) f ∙ sym (append_assoc a b rest) ∙ ap (λ t. t ++ rest) is

quad_spells : (total : ℕ) → Spells (quad_at total) quad IsQuad
unfolding quad_at
quad_spells total text y all e =
    let a = took (word_at total) word IsWord (word_spells total) _ text y all e in
    let b = took (word_at total) word IsWord (word_spells total) _ a.mid y a.octets a.more in
    let large : a.value < 65536 = a.good in
    let small : b.value < 65536 = b.good in
    subst (λ y. (text ≡ quad y.0 ++ y.1) × IsQuad y.0) (ok_is {E = SavedFault} (a.value * 65536 + b.value, b.mid) y b.more)
    (two_of text (word a.value) a.mid (word b.value) b.mid (quad (a.value * 65536 + b.value)) a.whole b.whole (quad_of a.value b.value large small), omega arith)

long_spells : (total : ℕ) → Spells (long_at total) long Any
unfolding long_at
long_spells total text y all e =
    let a = took (quad_at total) quad IsQuad (quad_spells total) _ text y all e in
    let b = took (quad_at total) quad IsQuad (quad_spells total) _ a.mid y a.octets a.more in
    subst (λ y. (text ≡ long y.0 ++ y.1) × Any y.0) (ok_is {E = SavedFault} (a.value * 2 ^ 32 + b.value, b.mid) y b.more)
    (two_of text (quad a.value) a.mid (quad b.value) b.mid (long (a.value * 2 ^ 32 + b.value)) a.whole b.whole (long_of a.value b.value a.good b.good), tt)

abbrev Itself : List ℕ → List ℕ
Itself a = a

part_spells : (count : ℕ) (short : SavedFault) → Spells (part_at count short) Itself Any
unfolding part_at
part_spells count short text y all e =
    let is = given_ok (nat_le count (length text)) short (take count text, drop count text) y e in
    subst (λ y. (text ≡ Itself y.0 ++ y.1) × Any y.0) is.1 (sym (take-append-drop count text), tt)

magic_skips : Skips magic_at magic
unfolding magic_at
magic_skips text rest all e =
    let a = took (part_at 9 NotSaved) Itself Any (part_spells 9 NotSaved) _ text rest all e in
    let is = given_ok (bytes_eq a.value magic) NotSaved a.mid rest a.more in
    let name : a.value ≡ magic = (bytes_eq-Decides a.value magic).0 is.0 in
    subst (λ rest. text ≡ magic ++ rest) is.1 (a.whole ∙ ap (λ t. t ++ a.mid) name)

version_skips : (total : ℕ) → Skips (version_at total) (word 1)
unfolding version_at
version_skips total text rest all e =
    let a = took (word_at total) word IsWord (word_spells total) _ text rest all e in
    let is = given_ok (a.value == 1) (Version (total - length text)) a.mid rest a.more in
    let name : a.value ≡ 1 = eqb-true a.value 1 is.0 in
    subst (λ rest. text ≡ word 1 ++ rest) is.1 (a.whole ∙ ap (λ n. word n ++ a.mid) name)

reserved_skips : (total : ℕ) → Skips (reserved_at total) (0 ∷ [])
unfolding reserved_at
reserved_skips total text rest all e =
    let a = took (octet_at total) one IsOctet (octet_spells total) _ text rest all e in
    let is = given_ok (a.value == 0) (BadLink (total - length text)) a.mid rest a.more in
    let name : a.value ≡ 0 = eqb-true a.value 0 is.0 in
    subst (λ rest. text ≡ 0 ∷ rest) is.1 (a.whole ∙ ap (λ n. n ∷ a.mid) name)

size_octet_of : (n : ℕ) → nat_lt n 2 ≡ true → size_octet (size_of n) ≡ n
size_octet_of zero small = refl
size_octet_of (suc zero) small = refl
size_octet_of (suc (suc n)) small =
    let few : suc (suc n) < 2 = grind (arith, nat_tests, small) in
    absurd (omega arith)

abbrev size_text : CidKind → List ℕ
size_text size = size_octet size ∷ []

size_spells : (total : ℕ) → Spells (size_at total) size_text Any
unfolding size_at
size_spells total text y all e =
    let a = took (octet_at total) one IsOctet (octet_spells total) _ text y all e in
    let is = given_ok (nat_lt a.value 2) (BadLink (total - length text)) (size_of a.value, a.mid) y a.more in
    subst (λ y. (text ≡ size_text y.0 ++ y.1) × Any y.0) is.1 (a.whole ∙ ap (λ n. n ∷ a.mid) (sym (size_octet_of a.value is.0)), tt)

greatest_spells : (total : ℕ) (size : CidKind) → Spells (greatest_at total size) word Any
unfolding greatest_at
greatest_spells total size text y all e =
    let a = took (word_at total) word IsWord (word_spells total) _ text y all e in
    let is = given_ok (nat_le a.value (greatest_cid size)) (BadLink (total - length text)) (a.value, a.mid) y a.more in
    subst (λ y. (text ≡ word y.0 ++ y.1) × Any y.0) is.1 (a.whole, tt)

number_spells : (total : ℕ) (held : List (ℕ × Link)) → Spells (number_at total held) word Any
unfolding number_at
number_spells total held text y all e =
    let a = took (word_at total) word IsWord (word_spells total) _ text y all e in
    let is = given_ok (not (has a.value held)) (BadOrder (total - length text)) (a.value, a.mid) y a.more in
    subst (λ y. (text ≡ word y.0 ++ y.1) × Any y.0) is.1 (a.whole, tt)

cid_spells : (total greatest : ℕ) (held : List (ℕ × Record)) → Spells (cid_at total greatest held) word Any
unfolding cid_at
cid_spells total greatest held text y all e =
    let a = took (word_at total) word IsWord (word_spells total) _ text y all e in
    let is = given_ok (nat_le a.value greatest && not (has a.value held)) (BadOrder (total - length text)) (a.value, a.mid) y a.more in
    subst (λ y. (text ≡ word y.0 ++ y.1) × Any y.0) is.1 (a.whole, tt)

context_spells : (total greatest : ℕ) (held : List (ℕ × Record)) → Spells (context_at total greatest held) context_text Any
unfolding context_at
context_spells total greatest held text y all e =
    let a = took (cid_at total greatest held) word Any (cid_spells total greatest held) _ text y all e in
    let b = bind_ok (record_text_at total a.mid) _ y a.more in
    let is = kept_spells total a.value text a.mid b.0 a.octets a.whole b.1 in
    subst (λ y. (text ≡ context_text y.0 ++ y.1) × Any y.0) (ok_is {E = SavedFault} ((a.value, b.0.0), b.0.1) y b.2) (is, tt)

-- what was read behind others
record Behind {A : Type 0} (t : A → List ℕ) (count : ℕ) (held : List A) (text : List ℕ) (y : List A × List ℕ) : Type 0 where
  more : List A
  all : y.0 ≡ held ++ more
  whole : text ≡ flat_map t more ++ y.1
  counted : length more ≡ count

-- one was read, and then others
behind_more : {A : Type 0} (t : A → List ℕ) (count : ℕ) (held : List A) (x : A) (text mid : List ℕ) (y : List A × List ℕ) → text ≡ t x ++ mid → Behind t count (held ++ x ∷ []) mid y
    → Behind t (suc count) held text y
behind_more t count held x text mid y first h = record {
  more = x ∷ h.more;
  all = h.all ∙ append_assoc held (x ∷ []) h.more;
  whole = first ∙ ap (λ rest. t x ++ rest) h.whole ∙ sym (append_assoc (t x) (flat_map t h.more) y.1);
  counted = ap suc h.counted;
}

behind_none : {A : Type 0} (t : A → List ℕ) (held : List A) (text : List ℕ) (y : List A × List ℕ) → ◌≡◌ {A = Read (List A)} (Ok (held, text)) (Ok y) → Behind t 0 held text y
behind_none t held text y e =
    subst (λ y. Behind t 0 held text y) (ok_is {E = SavedFault} (held, text) y e) (record { more = []; all = sym (append-nil held); whole = refl; counted = refl })

contexts_spell : (total greatest count : ℕ) (held : List (ℕ × Record)) (text : List ℕ) (y : List (ℕ × Record) × List ℕ) → All IsOctet text → contexts_at total greatest count held text ≡ Ok y
    → Behind context_text count held text y
unfolding contexts_at
contexts_spell total greatest zero held text y all e = behind_none context_text held text y e
contexts_spell total greatest (suc count) held text y all e =
    let a = took (context_at total greatest held) context_text Any (context_spells total greatest held) _ text y all e in
    behind_more context_text count held a.value text a.mid y a.whole (contexts_spell total greatest count (held ++ a.value ∷ []) a.mid y a.octets a.more)

-- the parts of a link, one behind the other
link_whole : (number count greatest : ℕ) (size : CidKind) (contexts : List (ℕ × Record)) (text m1 m2 m3 m4 m5 rest : List ℕ) → text ≡ word number ++ m1 → m1 ≡ size_text size ++ m2
    → m2 ≡ (0 ∷ []) ++ m3 → m3 ≡ word greatest ++ m4 → m4 ≡ word count ++ m5 → m5 ≡ flat_map context_text contexts ++ rest → length contexts ≡ count
    → text ≡ link_text (number, record { size = size; greatest = greatest; contexts = contexts }) ++ rest
unfolding link_text head_text
link_whole number count greatest size contexts text m1 m2 m3 m4 m5 rest a b c d f g counted =
    a ∙ ap (λ t. word number ++ t) b ∙ ap (λ t. word number ++ (size_text size ++ t)) c ∙ ap (λ t. word number ++ (size_text size ++ (0 ∷ t))) d
    ∙ ap (λ t. word number ++ (size_text size ++ (0 ∷ (word greatest ++ t)))) f
    ∙ ap (λ t. word number ++ (size_text size ++ (0 ∷ (word greatest ++ (word count ++ t))))) g
    ∙ ap (λ n. word number ++ (size_text size ++ (0 ∷ (word greatest ++ (word n ++ (flat_map context_text contexts ++ rest)))))) (sym counted)

-- a number of contexts or links from none on
from_none : {A : Type 0} (t : A → List ℕ) (count : ℕ) (text : List ℕ) (y : List A × List ℕ) → Behind t count [] text y → (text ≡ flat_map t y.0 ++ y.1) × (length y.0 ≡ count)
from_none t count text y h = (h.whole ∙ ap (λ xs. flat_map t xs ++ y.1) (sym h.all), ap length h.all ∙ h.counted)

link_spells : (total : ℕ) (held : List (ℕ × Link)) → Spells (link_at total held) link_text Any
unfolding link_at
link_spells total held text y all e =
    let a = took (number_at total held) word Any (number_spells total held) _ text y all e in
    let b = took (size_at total) size_text Any (size_spells total) _ a.mid y a.octets a.more in
    let c = went (reserved_at total) (0 ∷ []) (reserved_skips total) _ b.mid y b.octets b.more in
    let d = took (greatest_at total b.value) word Any (greatest_spells total b.value) _ c.mid y c.octets c.more in
    let f = took (word_at total) word IsWord (word_spells total) _ d.mid y d.octets d.more in
    let g = bind_ok (contexts_at total d.value f.value [] f.mid) _ y f.more in
    let texts = from_none context_text f.value f.mid g.0 (contexts_spell total d.value f.value [] f.mid g.0 f.octets g.1) in
    subst (λ y. (text ≡ link_text y.0 ++ y.1) × Any y.0) (ok_is {E = SavedFault} ((a.value, record { size = b.value; greatest = d.value; contexts = g.0.0 }), g.0.1) y g.2)
    (link_whole a.value f.value d.value b.value g.0.0 text a.mid b.mid c.mid d.mid f.mid g.0.1 a.whole b.whole c.whole d.whole f.whole texts.0 texts.1, tt)

links_spell : (total count : ℕ) (held : List (ℕ × Link)) (text : List ℕ) (y : List (ℕ × Link) × List ℕ) → All IsOctet text → links_at total count held text ≡ Ok y
    → Behind link_text count held text y
unfolding links_at
links_spell total zero held text y all e = behind_none link_text held text y e
links_spell total (suc count) held text y all e =
    let a = took (link_at total held) link_text Any (link_spells total held) _ text y all e in
    behind_more link_text count held a.value text a.mid y a.whole (links_spell total count (held ++ a.value ∷ []) a.mid y a.octets a.more)

-- the parts of a form, one behind the other
form_whole : (moment count : ℕ) (links : List (ℕ × Link)) (text m1 m2 m3 m4 rest : List ℕ) → text ≡ magic ++ m1 → m1 ≡ word 1 ++ m2 → m2 ≡ long moment ++ m3 → m3 ≡ word count ++ m4
    → m4 ≡ flat_map link_text links ++ rest → length links ≡ count → text ≡ form_text (record { moment = moment; links = links }) ++ rest
unfolding form_text start_text
form_whole moment count links text m1 m2 m3 m4 rest a b c d f counted =
    let texts : List ℕ = flat_map link_text links in
    let split = append_assoc (long moment ++ word (length links)) texts rest ∙ append_assoc (long moment) (word (length links)) (texts ++ rest) in
    a ∙ ap (λ t. magic ++ t) b ∙ ap (λ t. magic ++ (word 1 ++ t)) c ∙ ap (λ t. magic ++ (word 1 ++ (long moment ++ t))) d
    ∙ ap (λ t. magic ++ (word 1 ++ (long moment ++ (word count ++ t)))) f
    ∙ ap (λ n. magic ++ (word 1 ++ (long moment ++ (word n ++ (texts ++ rest))))) (sym counted)
    ∙ ap (λ t. magic ++ (word 1 ++ t)) (sym split)

form_spells : (total : ℕ) → Spells (form_at total) form_text Any
unfolding form_at
form_spells total text y all e =
    let a = went magic_at magic magic_skips _ text y all e in
    let b = went (version_at total) (word 1) (version_skips total) _ a.mid y a.octets a.more in
    let c = took (long_at total) long Any (long_spells total) _ b.mid y b.octets b.more in
    let d = took (word_at total) word IsWord (word_spells total) _ c.mid y c.octets c.more in
    let g = bind_ok (links_at total d.value [] d.mid) _ y d.more in
    let texts = from_none link_text d.value d.mid g.0 (links_spell total d.value [] d.mid g.0 d.octets g.1) in
    subst (λ y. (text ≡ form_text y.0 ++ y.1) × Any y.0) (ok_is {E = SavedFault} (record { moment = c.value; links = g.0.0 }, g.0.1) y g.2)
    (form_whole c.value d.value g.0.0 text a.mid b.mid c.mid d.mid g.0.1 a.whole b.whole c.whole d.whole texts.0 texts.1, tt)

-- a digest that isn't refused is that of the octets before it
digest_spells : (front text rest : List ℕ) → All IsOctet text → digest_at (front ++ text) text ≡ Ok rest → text ≡ sha256 front ++ rest
unfolding digest_at
digest_spells front text rest all e =
    let whole : List ℕ = front ++ text in
    let a = took (part_at 32 (Short (length whole))) Itself Any (part_spells 32 (Short (length whole))) _ text rest all e in
    let is = given_ok (bytes_eq a.value (sha256 (take (length whole - length text) whole))) (Digest (length whole - length text)) a.mid rest a.more in
    let before : length front ≡ length whole - length text = omega (arith, length-append front text) in
    let same : a.value ≡ sha256 front = (bytes_eq-Decides a.value (sha256 (take (length whole - length text) whole))).0 is.0 ∙ ap sha256 (take_at front text (length whole - length text) before) in
    subst (λ rest. text ≡ sha256 front ++ rest) is.1 (a.whole ∙ ap (λ t. t ++ a.mid) same)

nothing : (text : List ℕ) → (length text == 0) ≡ true → text ≡ []
nothing [] e = refl
nothing (x ∷ text) e = absurd (let none : length (x ∷ text) ≡ 0 = eqb-true (length (x ∷ text)) 0 e in omega (arith, none))

pub spelled : FormIsSpelled
unfolding restored signed
spelled text form all e =
    let a = took (form_at (length text)) form_text Any (form_spells (length text)) _ text form all e in
    let b = bind_ok (digest_at text a.mid) _ form a.more in
    let last = given_ok (length b.0 == 0) (Long (length text - length b.0)) a.value form b.2 in
    let digest = digest_spells (form_text a.value) a.mid b.0 a.octets (subst (λ whole. digest_at whole a.mid ≡ Ok b.0) a.whole b.1) in
    let whole : text ≡ form_text a.value ++ sha256 (form_text a.value) =
    a.whole ∙ ap (λ t. form_text a.value ++ t) (digest ∙ ap (λ t. sha256 (form_text a.value) ++ t) (nothing b.0 last.0) ∙ append-nil (sha256 (form_text a.value))) in
    subst (λ form. text ≡ form_text form ++ sha256 (form_text form)) last.1 whole
