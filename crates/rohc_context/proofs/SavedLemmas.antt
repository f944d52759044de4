-- What is saved is read back, and what is read was saved.
use Rattle.std.proofs.Common.{◌≡◌, ℕ, ◌+◌, ◌*◌, ◌/◌, ◌%◌, ◌^◌, ◌<◌, ◌≤◌, ◌∷◌, ◌++◌, zero, suc, List, [], length, Bool, true, false, Option, Some, None, Result, Ok, Err, refl, sym, ap, subst, ◌∙◌, arith, append_assoc}
use Rattle.std.specs.Prelude.{◌==◌, ◌&&◌, nat_le, nat_lt, All, IfSome, IsOk, IfOk, MatchResult}
use Rattle.std.proofs.lemmas.Bool.{ne_eqb, eqb-true}
use Rattle.std.proofs.lemmas.Bool.Decides.{nat_tests}
use Rattle.std.proofs.lemmas.List.{append-nil}
use Rattle.std.proofs.lemmas.List.Elements.{All-head, All-tail}
use Rattle.std.proofs.Math.Nat.{mod-eq_of_lt}
use Rattle.rohc_bits.specs.Bits.{IsOctet}
use Rattle.rohc_bits.specs.Reading.{◌>>=◌, next_octet, next_word}
use Rattle.rohc_bits.proofs.Steps.{ok_is, bind_ok}
use Rattle.rohc_checks.specs.Division.{bits, number}
use Rattle.rohc_checks.proofs.Division.{length-bits, number-bits, number-lt, bits-number}
use Rattle.rohc_header.specs.declared.fields.Static.{Static}
use Rattle.rohc_header.specs.declared.fields.Dynamic.{Dynamic}
use Rattle.rohc_header.specs.Original.{octet, word, quad, flag}
use Rattle.rohc_chain.specs.Good.{IsGoodStride}
use Rattle.rohc_context.specs.Good.{IsGoodReference, IsGoodPrevious, IsGoodState, IsGoodRecord}
use Rattle.rohc_context.specs.Record.{Reference, State, Plain, NoContext, StaticContext, FullContext, Record, record_of}
use Rattle.rohc_context.specs.declared.record.Context.{Context}
use Rattle.rohc_context.proofs.GoodLemmas.{context_good}
use Rattle.rohc_context.specs.declared.context_fault.ContextFault.{ContextFault}
use Rattle.rohc_context.specs.declared.context_fault.ContextFault.TheVariants.{Bad}
use Rattle.rohc_context.specs.SavedText.{long_text, flag_text, window_text, static_text, numbers_text, marks_text, fields_text, stride_text, shared_text, reference_text, held_text, previous_text, state_text, saved_text}
use Rattle.rohc_context.specs.SavedReading.{Read, given, octet_at, word_at, quad_at, long_at, flag_at, window_at, address_at, static_at, numbers_at, payload_type_at, marks_at, fields_at, stride_by, stride_at, blank, shared_at, reference_at, held_by, held_at, previous_by, previous_at, no_context_at, static_context_at, full_context_at, state_by, state_at, saved_at, ended, restored}
use Rattle.rohc_context.specs.SavedLaws.{ComesBack, RecordIsSpelled}

-- ---- What is appended

-- one text after another
pub two_puts : (a b c x y : List ℕ) → b ≡ a ++ x → c ≡ b ++ y → c ≡ a ++ (x ++ y)
two_puts a b c x y e f = f ∙ ap (λ t. t ++ y) e ∙ append_assoc a x y

-- a window, by its length and its bits
pub window_saved : (count value : ℕ) → value < 2 ^ count → window_text (bits count value) ≡ octet count ++ long_text value
unfolding window_text
window_saved count value fits =
    let whole : number (bits count value) ≡ value = number-bits count value ∙ mod-eq_of_lt fits in
    rw (length-bits count value, whole) refl

-- ---- What is saved is read back

word_back : (n : ℕ) (rest : List ℕ) → word_at (word n ++ rest) ≡ Ok (n, rest)
unfolding next_word next_octet
word_back n rest = ap (λ m. Ok (m, rest)) (omega arith)

quad_back : (n : ℕ) (rest : List ℕ) → quad_at (quad n ++ rest) ≡ Ok (n, rest)
unfolding quad_at next_word next_octet
quad_back n rest = ap (λ m. Ok (m, rest)) (omega arith)

long_back : (n : ℕ) (rest : List ℕ) → long_at (long_text n ++ rest) ≡ Ok (n, rest)
unfolding long_at long_text
long_back n rest = rw (quad_back (n / 2 ^ 32) (quad (n % 2 ^ 32) ++ rest), quad_back (n % 2 ^ 32) rest) (ap (λ m. Ok (m, rest)) (omega arith))

flag_back : (b : Bool) (rest : List ℕ) → flag_at (flag_text b ++ rest) ≡ Ok (b, rest)
unfolding flag_at next_octet
flag_back true rest = refl
flag_back false rest = refl

window_back : (w : List Bool) (rest : List ℕ) → length w ≤ 64 → window_at (window_text w ++ rest) ≡ Ok (w, rest)
unfolding window_at window_text next_octet
window_back w rest few =
    let small : nat_le (length w) 64 ≡ true = grind (arith, nat_tests) in
    let fits : nat_lt (number w) (2 ^ length w) ≡ true = grind (arith, nat_tests, number-lt w) in
    rw (small, long_back (number w) rest, fits, bits-number w) refl

address_back : (a rest : List ℕ) → length a ≡ 4 → address_at (a ++ rest) ≡ Ok (a, rest)
unfolding address_at next_octet
address_back [] rest e = absurd (omega arith)
address_back (a ∷ []) rest e = absurd (omega arith)
address_back (a ∷ b ∷ []) rest e = absurd (omega arith)
address_back (a ∷ b ∷ c ∷ []) rest e = absurd (omega arith)
address_back (a ∷ b ∷ c ∷ d ∷ []) rest e = refl
address_back (a ∷ b ∷ c ∷ d ∷ x ∷ more) rest e = absurd (omega arith)

static_go : (f : Static) (rest : List ℕ) → length f.source ≡ 4 → length f.destination ≡ 4
    → static_at (f.source ++ (f.destination ++ ((word f.source_port ++ (word f.destination_port ++ quad f.ssrc)) ++ rest))) ≡ Ok (f, rest)
unfolding static_at
static_go f rest e g =
    rw (address_back f.source (f.destination ++ ((word f.source_port ++ (word f.destination_port ++ quad f.ssrc)) ++ rest)) e)
    (rw (address_back f.destination ((word f.source_port ++ (word f.destination_port ++ quad f.ssrc)) ++ rest) g)
    (rw (word_back f.source_port ((word f.destination_port ++ quad f.ssrc) ++ rest)) (rw (word_back f.destination_port (quad f.ssrc ++ rest)) (rw (quad_back f.ssrc rest) refl))))

static_back : (f : Static) (rest : List ℕ) → length f.source ≡ 4 → length f.destination ≡ 4 → static_at (static_text f ++ rest) ≡ Ok (f, rest)
unfolding static_text
static_back f rest e g =
    let tail : List ℕ = word f.source_port ++ (word f.destination_port ++ quad f.ssrc) in
    let whole : (f.source ++ (f.destination ++ tail)) ++ rest ≡ f.source ++ (f.destination ++ (tail ++ rest)) = append_assoc f.source (f.destination ++ tail) rest ∙ ap (λ t. f.source ++ t) (append_assoc f.destination tail rest) in
    ap static_at whole ∙ static_go f rest e g

numbers_back : (m beside : Dynamic) (rest : List ℕ) → numbers_at beside (numbers_text m ++ rest)
    ≡ Ok (record beside { tos = m.tos; ttl = m.ttl; id = m.id; udp_sum = m.udp_sum; sn = m.sn; ts = m.ts }, rest)
unfolding numbers_at numbers_text next_octet
numbers_back m beside rest =
    rw (word_back m.id (word m.udp_sum ++ word m.sn ++ quad m.ts ++ rest), word_back m.udp_sum (word m.sn ++ quad m.ts ++ rest), word_back m.sn (quad m.ts ++ rest), quad_back m.ts rest) refl

payload_type_back : (n : ℕ) (rest : List ℕ) → n < 128 → payload_type_at (octet n ++ rest) ≡ Ok (n, rest)
unfolding payload_type_at next_octet
payload_type_back n rest narrow =
    let test : nat_lt n 128 ≡ true = grind (arith, nat_tests) in
    rw test refl

marks_back : (m beside : Dynamic) (rest : List ℕ) → m.payload_type < 128 → marks_at beside (marks_text m ++ rest)
    ≡ Ok (record beside { payload_type = m.payload_type; df = m.df; padding = m.padding; extension = m.extension }, rest)
unfolding marks_at marks_text
marks_back m beside rest narrow =
    rw (payload_type_back m.payload_type (flag_text m.df ++ flag_text m.padding ++ flag_text m.extension ++ rest) narrow, flag_back m.df (flag_text m.padding ++ flag_text m.extension ++ rest), flag_back m.padding (flag_text m.extension ++ rest), flag_back m.extension rest) refl

fields_back : (m beside : Dynamic) (rest : List ℕ) → m.payload_type < 128 → fields_at beside (fields_text m ++ rest)
    ≡ Ok (record beside { tos = m.tos; ttl = m.ttl; id = m.id; udp_sum = m.udp_sum; sn = m.sn; ts = m.ts; payload_type = m.payload_type; df = m.df; padding = m.padding; extension = m.extension }, rest)
unfolding fields_at fields_text
fields_back m beside rest narrow =
    rw (append_assoc (numbers_text m) (marks_text m) rest) (rw (numbers_back m beside (marks_text m ++ rest))
    (marks_back m (record beside { tos = m.tos; ttl = m.ttl; id = m.id; udp_sum = m.udp_sum; sn = m.sn; ts = m.ts }) rest narrow))

stride_back : (s : Option ℕ) (rest : List ℕ) → IsGoodStride s → stride_at (stride_text s ++ rest) ≡ Ok (s, rest)
unfolding stride_at stride_text
stride_back None rest good = rw (flag_back false (quad 0 ++ rest), quad_back 0 rest) refl
stride_back (Some n) rest good =
    let above : nat_le 1 n ≡ true = grind (arith, nat_tests) in
    let within : nat_le n 536870911 ≡ true = grind (arith, nat_tests) in
    rw (flag_back true (quad n ++ rest), quad_back n rest, above, within) refl

shared_back : (r : Reference) (beside : Dynamic) (rest : List ℕ) → IsGoodStride r.moving.stride → shared_at beside (shared_text r ++ rest)
    ≡ Ok (record { moving = record beside { rnd = r.moving.rnd; nbo = r.moving.nbo; stride = r.moving.stride }; carries_sum = r.carries_sum }, rest)
unfolding shared_at shared_text
shared_back r beside rest good =
    let last : List ℕ = stride_text r.moving.stride ++ rest in
    rw (flag_back r.moving.rnd (flag_text r.moving.nbo ++ (flag_text r.carries_sum ++ last)), flag_back r.moving.nbo (flag_text r.carries_sum ++ last), flag_back r.carries_sum last, stride_back r.moving.stride rest good) refl

reference_back : (r : Reference) (rest : List ℕ) → IsGoodReference r → reference_at (reference_text r ++ rest) ≡ Ok (r, rest)
unfolding reference_at reference_text
reference_back r rest good =
    rw (append_assoc (fields_text r.moving) (shared_text r) rest) (rw (fields_back r.moving blank (shared_text r ++ rest) good.moving.payload_type)
    (shared_back r (record r.moving { marker = false; rnd = false; nbo = false; stride = None }) rest good.moving.stride
    ∙ ap (λ b. Ok (record { moving = record r.moving { marker = b }; carries_sum = r.carries_sum }, rest)) (sym good.unmarked)))

held_back : (o : Option Reference) (rest : List ℕ) → IfSome o IsGoodReference → held_at (held_text o ++ rest) ≡ Ok (o, rest)
unfolding held_at held_by held_text
held_back None rest good = rw (flag_back false rest) refl
held_back (Some r) rest good = rw (flag_back true (reference_text r ++ rest), reference_back r rest good) refl

-- a previous reference, by what it shares with the reference beside it
same_previous : (r p : Reference) → IsGoodReference r → IsGoodPrevious r p
    → record { moving = record r.moving { tos = p.moving.tos; ttl = p.moving.ttl; id = p.moving.id; udp_sum = p.moving.udp_sum; sn = p.moving.sn; ts = p.moving.ts; payload_type = p.moving.payload_type; df = p.moving.df; padding = p.moving.padding; extension = p.moving.extension }; carries_sum = r.carries_sum } ≡ p
same_previous r p held good =
    let marker : r.moving.marker ≡ p.moving.marker = held.unmarked ∙ sym good.good.unmarked in
    rw (marker, good.numbering.rnd, good.numbering.nbo, good.numbering.stride, good.sum) refl

previous_back : (r : Reference) (o : Option Reference) (rest : List ℕ) → IsGoodReference r → IfSome o (IsGoodPrevious r) → previous_at r (previous_text o ++ rest) ≡ Ok (o, rest)
unfolding previous_at previous_by previous_text
previous_back r None rest held good = rw (flag_back false rest) refl
previous_back r (Some p) rest held good =
    rw (flag_back true (fields_text p.moving ++ rest), fields_back p.moving r.moving rest good.good.moving.payload_type)
    (ap (λ q. Ok (Some q, rest)) (same_previous r p held good))

static_context_back : (f : Static) (o : Option Reference) (v w : List Bool) (rest : List ℕ) → IsGoodState (StaticContext f o v w)
    → static_context_at ((static_text f ++ (held_text o ++ (window_text v ++ window_text w))) ++ rest) ≡ Ok (StaticContext f o v w, rest)
unfolding static_context_at
static_context_back f o v w rest good =
    rw (append_assoc (static_text f) (held_text o ++ (window_text v ++ window_text w)) rest, append_assoc (held_text o) (window_text v ++ window_text w) rest, append_assoc (window_text v) (window_text w) rest)
    (rw (static_back f (held_text o ++ (window_text v ++ (window_text w ++ rest))) good.0.source.four good.0.destination.four)
    (rw (held_back o (window_text v ++ (window_text w ++ rest)) good.1)
    (rw (window_back v (window_text w ++ rest) good.2) (rw (window_back w rest good.3) refl))))

full_context_back : (f : Static) (r : Reference) (o : Option Reference) (w : List Bool) (rest : List ℕ) → IsGoodState (FullContext f r o w)
    → full_context_at ((static_text f ++ (reference_text r ++ (previous_text o ++ window_text w))) ++ rest) ≡ Ok (FullContext f r o w, rest)
unfolding full_context_at
full_context_back f r o w rest good =
    rw (append_assoc (static_text f) (reference_text r ++ (previous_text o ++ window_text w)) rest, append_assoc (reference_text r) (previous_text o ++ window_text w) rest, append_assoc (previous_text o) (window_text w) rest)
    (rw (static_back f (reference_text r ++ (previous_text o ++ (window_text w ++ rest))) good.0.source.four good.0.destination.four)
    (rw (reference_back r (previous_text o ++ (window_text w ++ rest)) good.1)
    (rw (previous_back r o (window_text w ++ rest) good.1 good.2) (rw (window_back w rest good.3) refl))))

state_back : (s : State) (rest : List ℕ) → IsGoodState s → state_at (state_text s ++ rest) ≡ Ok (s, rest)
unfolding state_at state_text no_context_at next_octet
state_back Plain rest good = refl
state_back (NoContext nacked) rest good = rw (long_back nacked rest) refl
state_back (StaticContext f o v w) rest good = static_context_back f o v w rest good
state_back (FullContext f r o w) rest good = full_context_back f r o w rest good

pub comes_back : ComesBack
unfolding saved_at saved_text
comes_back r rest good =
    rw (append_assoc (long_text r.accepted) (state_text r.state) rest) (rw (long_back r.accepted (state_text r.state ++ rest)) (rw (state_back r.state rest good.state) refl))

-- ---- What is read was saved

-- A reader reads only what a text spells, and such values.
abbrev Spells : {A : Type 0} → (List ℕ → Read A) → (A → List ℕ) → (A → Type 0) → Type 0
Spells {A} at t Good = (text : List ℕ) (y : A × List ℕ) → All IsOctet text → at text ≡ Ok y → (text ≡ t y.0 ++ y.1) × Good y.0

-- of two steps that gave something, what the first read, and what the second did
record Took {A B : Type 0} (t : A → List ℕ) (Good : A → Type 0) (f : A × List ℕ → Read B) (text : List ℕ) (y : B × List ℕ) : Type 0 where
  value : A
  mid : List ℕ
  whole : text ≡ t value ++ mid
  good : Good value
  octets : All IsOctet mid
  more : f (value, mid) ≡ Ok y

all_behind : (front behind : List ℕ) → All IsOctet (front ++ behind) → All IsOctet behind
all_behind [] behind all = all
all_behind (x ∷ front) behind all = all_behind front behind (All-tail IsOctet x (front ++ behind) all)

took : {A B : Type 0} (at : List ℕ → Read A) (t : A → List ℕ) (Good : A → Type 0) → Spells at t Good → (f : A × List ℕ → Read B) (text : List ℕ) (y : B × List ℕ)
    → All IsOctet text → (at text >>= f) ≡ Ok y → Took t Good f text y
took {A} {B} at t Good spells f text y all e =
    let step = bind_ok (at text) f y e in
    let is = spells text step.0 all step.1 in
    record {
      value = step.0.0;
      mid = step.0.1;
      whole = is.0;
      good = is.1;
      octets = all_behind (t step.0.0) step.0.1 (subst (All IsOctet) is.0 all);
      more = step.2;
    }

-- one text behind another
behind : (text a mid b rest : List ℕ) → text ≡ a ++ mid → mid ≡ b ++ rest → text ≡ (a ++ b) ++ rest
behind text a mid b rest e f = e ∙ ap (λ t. a ++ t) f ∙ sym (append_assoc a b rest)

abbrev Any : {A : Type 0} → A → Type 0
Any x = Unit {0}

given_ok : {A : Type 0} (test : Bool) (here : List ℕ) (x y : A) → given test here x ≡ Ok y → (test ≡ true) × (x ≡ y)
given_ok {A} true here x y e = (refl, ok_is {E = ContextFault} x y e)
given_ok false here x y e = cc

octet_spells : Spells octet_at octet IsOctet
unfolding next_octet
octet_spells [] y all e = cc
octet_spells (a ∷ text) y all e = subst (λ y. (a ∷ text ≡ octet y.0 ++ y.1) × IsOctet y.0) (ok_is {E = ContextFault} (a, text) y e) (refl, All-head IsOctet a text all)

abbrev IsWord : ℕ → Type 0
IsWord n = n < 65536

word_spells : Spells word_at word IsWord
unfolding next_word next_octet
word_spells [] y all e = cc
word_spells (a ∷ []) y all e = cc
word_spells (a ∷ b ∷ text) y all e =
    let large : a < 256 = All-head IsOctet a (b ∷ text) all in
    let small : b < 256 = All-head IsOctet b text (All-tail IsOctet a (b ∷ text) all) in
    let high : (a * 256 + b) / 256 ≡ a = omega arith in
    let low : (a * 256 + b) % 256 ≡ b = omega arith in
    subst (λ y. (a ∷ b ∷ text ≡ word y.0 ++ y.1) × IsWord y.0) (ok_is {E = ContextFault} (a * 256 + b, text) y e) (rw (high, low) refl, omega arith)

abbrev IsQuad : ℕ → Type 0
IsQuad n = n < 2 ^ 32

quad_spells : Spells quad_at quad IsQuad
unfolding quad_at
quad_spells text y all e =
    let a = took word_at word IsWord word_spells _ text y all e in
    let b = took word_at word IsWord word_spells _ a.mid y a.octets a.more in
    let large : a.value < 65536 = a.good in
    let small : b.value < 65536 = b.good in
    let high : (a.value * 65536 + b.value) / 65536 ≡ a.value = omega arith in
    let low : (a.value * 65536 + b.value) % 65536 ≡ b.value = omega arith in
    subst (λ y. (text ≡ quad y.0 ++ y.1) × IsQuad y.0) (ok_is {E = ContextFault} (a.value * 65536 + b.value, b.mid) y b.more)
    (rw (high, low) (behind text (word a.value) a.mid (word b.value) b.mid a.whole b.whole), omega arith)

long_spells : Spells long_at long_text Any
unfolding long_at long_text
long_spells text y all e =
    let a = took quad_at quad IsQuad quad_spells _ text y all e in
    let b = took quad_at quad IsQuad quad_spells _ a.mid y a.octets a.more in
    let small : b.value < 2 ^ 32 = b.good in
    let high : (a.value * 2 ^ 32 + b.value) / 2 ^ 32 ≡ a.value = omega arith in
    let low : (a.value * 2 ^ 32 + b.value) % 2 ^ 32 ≡ b.value = omega arith in
    subst (λ y. (text ≡ long_text y.0 ++ y.1) × Any y.0) (ok_is {E = ContextFault} (a.value * 2 ^ 32 + b.value, b.mid) y b.more)
    (rw (high, low) (behind text (quad a.value) a.mid (quad b.value) b.mid a.whole b.whole), tt)

flag_octet : (n : ℕ) → nat_lt n 2 ≡ true → flag (n == 1) 1 ≡ n
flag_octet zero small = refl
flag_octet (suc zero) small = refl
flag_octet (suc (suc n)) small =
    let few : suc (suc n) < 2 = grind (arith, nat_tests, small) in
    absurd (omega arith)

flag_spells : Spells flag_at flag_text Any
unfolding flag_at
flag_spells text y all e =
    let a = took octet_at octet IsOctet octet_spells _ text y all e in
    let is = given_ok (nat_lt a.value 2) text (a.value == 1, a.mid) y a.more in
    subst (λ y. (text ≡ flag_text y.0 ++ y.1) × Any y.0) is.1 (rw (flag_octet a.value is.0) a.whole, tt)

payload_type_spells : Spells payload_type_at octet Any
unfolding payload_type_at
payload_type_spells text y all e =
    let a = took octet_at octet IsOctet octet_spells _ text y all e in
    let is = given_ok (nat_lt a.value 128) text (a.value, a.mid) y a.more in
    subst (λ y. (text ≡ octet y.0 ++ y.1) × Any y.0) is.1 (a.whole, tt)

window_spells : Spells window_at window_text Any
unfolding window_at window_text
window_spells text y all e =
    let a = took octet_at octet IsOctet octet_spells _ text y all e in
    let step = bind_ok (given (nat_le a.value 64) text a.value) _ y a.more in
    let few = given_ok (nat_le a.value 64) text a.value step.0 step.1 in
    let b = took long_at long_text Any long_spells _ a.mid y a.octets step.2 in
    let is = given_ok (nat_lt b.value (2 ^ step.0)) a.mid (bits step.0 b.value, b.mid) y b.more in
    let fits : b.value < 2 ^ step.0 = grind (arith, nat_tests, is.0) in
    let whole : number (bits step.0 b.value) ≡ b.value = number-bits step.0 b.value ∙ mod-eq_of_lt fits in
    let head : text ≡ octet step.0 ++ a.mid = a.whole ∙ ap (λ n. octet n ++ a.mid) few.1 in
    subst (λ y. (text ≡ window_text y.0 ++ y.1) × Any y.0) is.1 (rw (length-bits step.0 b.value, whole) (behind text (octet step.0) a.mid (long_text b.value) b.mid head b.whole), tt)

abbrev Itself : List ℕ → List ℕ
Itself a = a

address_spells : Spells address_at Itself Any
unfolding address_at
address_spells text y all e =
    let a = took octet_at octet IsOctet octet_spells _ text y all e in
    let b = took octet_at octet IsOctet octet_spells _ a.mid y a.octets a.more in
    let c = took octet_at octet IsOctet octet_spells _ b.mid y b.octets b.more in
    let d = took octet_at octet IsOctet octet_spells _ c.mid y c.octets c.more in
    subst (λ y. (text ≡ Itself y.0 ++ y.1) × Any y.0) (ok_is {E = ContextFault} (a.value ∷ b.value ∷ c.value ∷ d.value ∷ [], d.mid) y d.more)
    (behind text (octet a.value) a.mid (octet b.value ++ (octet c.value ++ (octet d.value))) d.mid a.whole (behind a.mid (octet b.value) b.mid (octet c.value ++ (octet d.value)) d.mid b.whole (behind b.mid (octet c.value) c.mid (octet d.value) d.mid c.whole d.whole)), tt)

static_spells : Spells static_at static_text Any
unfolding static_at static_text
static_spells text y all e =
    let a = took address_at Itself Any address_spells _ text y all e in
    let b = took address_at Itself Any address_spells _ a.mid y a.octets a.more in
    let c = took word_at word IsWord word_spells _ b.mid y b.octets b.more in
    let d = took word_at word IsWord word_spells _ c.mid y c.octets c.more in
    let f = took quad_at quad IsQuad quad_spells _ d.mid y d.octets d.more in
    subst (λ y. (text ≡ static_text y.0 ++ y.1) × Any y.0)
    (ok_is {E = ContextFault} (record { source = a.value; destination = b.value; source_port = c.value; destination_port = d.value; ssrc = f.value }, f.mid) y f.more)
    (behind text (a.value) a.mid (b.value ++ (word c.value ++ (word d.value ++ (quad f.value)))) f.mid a.whole (behind a.mid (b.value) b.mid (word c.value ++ (word d.value ++ (quad f.value))) f.mid b.whole (behind b.mid (word c.value) c.mid (word d.value ++ (quad f.value)) f.mid c.whole (behind c.mid (word d.value) d.mid (quad f.value) f.mid d.whole f.whole))), tt)

numbers_spells : (m : Dynamic) → Spells (numbers_at m) numbers_text Any
unfolding numbers_at numbers_text
numbers_spells m text y all e =
    let a = took octet_at octet IsOctet octet_spells _ text y all e in
    let b = took octet_at octet IsOctet octet_spells _ a.mid y a.octets a.more in
    let c = took word_at word IsWord word_spells _ b.mid y b.octets b.more in
    let d = took word_at word IsWord word_spells _ c.mid y c.octets c.more in
    let f = took word_at word IsWord word_spells _ d.mid y d.octets d.more in
    let g = took quad_at quad IsQuad quad_spells _ f.mid y f.octets f.more in
    subst (λ y. (text ≡ numbers_text y.0 ++ y.1) × Any y.0)
    (ok_is {E = ContextFault} (record m { tos = a.value; ttl = b.value; id = c.value; udp_sum = d.value; sn = f.value; ts = g.value }, g.mid) y g.more)
    (behind text (octet a.value) a.mid (octet b.value ++ (word c.value ++ (word d.value ++ (word f.value ++ (quad g.value))))) g.mid a.whole (behind a.mid (octet b.value) b.mid (word c.value ++ (word d.value ++ (word f.value ++ (quad g.value)))) g.mid b.whole (behind b.mid (word c.value) c.mid (word d.value ++ (word f.value ++ (quad g.value))) g.mid c.whole (behind c.mid (word d.value) d.mid (word f.value ++ (quad g.value)) g.mid d.whole (behind d.mid (word f.value) f.mid (quad g.value) g.mid f.whole g.whole)))), tt)

abbrev SharesNumbers : Dynamic → Dynamic → Type 0
SharesNumbers m n = numbers_text m ≡ numbers_text n

marks_spells : (m : Dynamic) → Spells (marks_at m) marks_text (SharesNumbers m)
unfolding marks_at marks_text numbers_text
marks_spells m text y all e =
    let a = took payload_type_at octet Any payload_type_spells _ text y all e in
    let b = took flag_at flag_text Any flag_spells _ a.mid y a.octets a.more in
    let c = took flag_at flag_text Any flag_spells _ b.mid y b.octets b.more in
    let d = took flag_at flag_text Any flag_spells _ c.mid y c.octets c.more in
    subst (λ y. (text ≡ marks_text y.0 ++ y.1) × SharesNumbers m y.0)
    (ok_is {E = ContextFault} (record m { payload_type = a.value; df = b.value; padding = c.value; extension = d.value }, d.mid) y d.more)
    (behind text (octet a.value) a.mid (flag_text b.value ++ (flag_text c.value ++ (flag_text d.value))) d.mid a.whole (behind a.mid (flag_text b.value) b.mid (flag_text c.value ++ (flag_text d.value)) d.mid b.whole (behind b.mid (flag_text c.value) c.mid (flag_text d.value) d.mid c.whole d.whole)), refl)

fields_spells : (m : Dynamic) → Spells (fields_at m) fields_text Any
unfolding fields_at fields_text
fields_spells m text y all e =
    let a = took (numbers_at m) numbers_text Any (numbers_spells m) _ text y all e in
    let b = marks_spells a.value a.mid y a.octets a.more in
    let head : text ≡ numbers_text y.0 ++ a.mid = a.whole ∙ ap (λ t. t ++ a.mid) b.1 in
    (behind text (numbers_text y.0) a.mid (marks_text y.0) y.1 head b.0, tt)

stride_go : (has : Bool) (here mid rest : List ℕ) (n : ℕ) (y : Option ℕ × List ℕ) → here ≡ flag_text has ++ mid → mid ≡ quad n ++ rest → stride_by has mid rest n ≡ Ok y
    → here ≡ stride_text y.0 ++ y.1
unfolding stride_text
stride_go true here mid rest n y head more e =
    let is = given_ok (nat_le 1 n && nat_le n 536870911) mid (Some n, rest) y e in
    subst (λ y. here ≡ stride_text y.0 ++ y.1) is.1 (behind here (flag_text true) mid (quad n) rest head more)
stride_go false here mid rest n y head more e =
    let is = given_ok (n == 0) mid (None, rest) y e in
    let zero : n ≡ 0 = eqb-true n 0 is.0 in
    subst (λ y. here ≡ stride_text y.0 ++ y.1) is.1 (behind here (flag_text false) mid (quad 0) rest head (more ∙ ap (λ n. quad n ++ rest) zero))

stride_spells : Spells stride_at stride_text Any
unfolding stride_at
stride_spells text y all e =
    let a = took flag_at flag_text Any flag_spells _ text y all e in
    let b = took quad_at quad IsQuad quad_spells _ a.mid y a.octets a.more in
    (stride_go a.value text a.mid b.mid b.value y a.whole b.whole b.more, tt)

abbrev SharesFields : Dynamic → Reference → Type 0
SharesFields m r = fields_text m ≡ fields_text r.moving

shared_spells : (m : Dynamic) → Spells (shared_at m) shared_text (SharesFields m)
unfolding shared_at shared_text fields_text numbers_text marks_text
shared_spells m text y all e =
    let a = took flag_at flag_text Any flag_spells _ text y all e in
    let b = took flag_at flag_text Any flag_spells _ a.mid y a.octets a.more in
    let c = took flag_at flag_text Any flag_spells _ b.mid y b.octets b.more in
    let d = took stride_at stride_text Any stride_spells _ c.mid y c.octets c.more in
    subst (λ y. (text ≡ shared_text y.0 ++ y.1) × SharesFields m y.0)
    (ok_is {E = ContextFault} (record { moving = record m { rnd = a.value; nbo = b.value; stride = d.value }; carries_sum = c.value }, d.mid) y d.more)
    (behind text (flag_text a.value) a.mid (flag_text b.value ++ (flag_text c.value ++ (stride_text d.value))) d.mid a.whole (behind a.mid (flag_text b.value) b.mid (flag_text c.value ++ (stride_text d.value)) d.mid b.whole (behind b.mid (flag_text c.value) c.mid (stride_text d.value) d.mid c.whole d.whole)), refl)

reference_spells : Spells reference_at reference_text Any
unfolding reference_at reference_text
reference_spells text y all e =
    let a = took (fields_at blank) fields_text Any (fields_spells blank) _ text y all e in
    let b = shared_spells a.value a.mid y a.octets a.more in
    let head : text ≡ fields_text y.0.moving ++ a.mid = a.whole ∙ ap (λ t. t ++ a.mid) b.1 in
    (behind text (fields_text y.0.moving) a.mid (shared_text y.0) y.1 head b.0, tt)

held_go : (has : Bool) (text mid : List ℕ) (y : Option Reference × List ℕ) → text ≡ flag_text has ++ mid → All IsOctet mid → held_by has mid ≡ Ok y → text ≡ held_text y.0 ++ y.1
unfolding held_by held_text
held_go false text mid y whole all e = subst (λ y. text ≡ held_text y.0 ++ y.1) (ok_is {E = ContextFault} (None, mid) y e) whole
held_go true text mid y whole all e =
    let a = took reference_at reference_text Any reference_spells _ mid y all e in
    subst (λ y. text ≡ held_text y.0 ++ y.1) (ok_is {E = ContextFault} (Some a.value, a.mid) y a.more) (behind text (flag_text true) mid (reference_text a.value) a.mid whole a.whole)

held_spells : Spells held_at held_text Any
unfolding held_at
held_spells text y all e =
    let a = took flag_at flag_text Any flag_spells _ text y all e in
    (held_go a.value text a.mid y a.whole a.octets a.more, tt)

previous_go : (has : Bool) (r : Reference) (text mid : List ℕ) (y : Option Reference × List ℕ) → text ≡ flag_text has ++ mid → All IsOctet mid → previous_by has r mid ≡ Ok y
    → text ≡ previous_text y.0 ++ y.1
unfolding previous_by previous_text
previous_go false r text mid y whole all e = subst (λ y. text ≡ previous_text y.0 ++ y.1) (ok_is {E = ContextFault} (None, mid) y e) whole
previous_go true r text mid y whole all e =
    let a = took (fields_at r.moving) fields_text Any (fields_spells r.moving) _ mid y all e in
    subst (λ y. text ≡ previous_text y.0 ++ y.1) (ok_is {E = ContextFault} (Some (record { moving = a.value; carries_sum = r.carries_sum }), a.mid) y a.more)
    (behind text (flag_text true) mid (fields_text a.value) a.mid whole a.whole)

previous_spells : (r : Reference) → Spells (previous_at r) previous_text Any
unfolding previous_at
previous_spells r text y all e =
    let a = took flag_at flag_text Any flag_spells _ text y all e in
    (previous_go a.value r text a.mid y a.whole a.octets a.more, tt)

state_go : (tag : ℕ) (text mid : List ℕ) (y : State × List ℕ) → text ≡ octet tag ++ mid → All IsOctet mid → state_by tag text mid ≡ Ok y → text ≡ state_text y.0 ++ y.1
unfolding state_text no_context_at static_context_at full_context_at
state_go zero text mid y whole all e = subst (λ y. text ≡ state_text y.0 ++ y.1) (ok_is {E = ContextFault} (Plain, mid) y e) whole
state_go (suc zero) text mid y whole all e =
    let a = took long_at long_text Any long_spells _ mid y all e in
    subst (λ y. text ≡ state_text y.0 ++ y.1) (ok_is {E = ContextFault} (NoContext a.value, a.mid) y a.more) (behind text (octet 1) mid (long_text a.value) a.mid whole a.whole)
state_go (suc (suc zero)) text mid y whole all e =
    let a = took static_at static_text Any static_spells _ mid y all e in
    let b = took held_at held_text Any held_spells _ a.mid y a.octets a.more in
    let c = took window_at window_text Any window_spells _ b.mid y b.octets b.more in
    let d = took window_at window_text Any window_spells _ c.mid y c.octets c.more in
    subst (λ y. text ≡ state_text y.0 ++ y.1) (ok_is {E = ContextFault} (StaticContext a.value b.value c.value d.value, d.mid) y d.more)
    (behind text (octet 2) mid (static_text a.value ++ (held_text b.value ++ (window_text c.value ++ (window_text d.value)))) d.mid whole (behind mid (static_text a.value) a.mid (held_text b.value ++ (window_text c.value ++ (window_text d.value))) d.mid a.whole (behind a.mid (held_text b.value) b.mid (window_text c.value ++ (window_text d.value)) d.mid b.whole (behind b.mid (window_text c.value) c.mid (window_text d.value) d.mid c.whole d.whole))))
state_go (suc (suc (suc zero))) text mid y whole all e =
    let a = took static_at static_text Any static_spells _ mid y all e in
    let b = took reference_at reference_text Any reference_spells _ a.mid y a.octets a.more in
    let c = took (previous_at b.value) previous_text Any (previous_spells b.value) _ b.mid y b.octets b.more in
    let d = took window_at window_text Any window_spells _ c.mid y c.octets c.more in
    subst (λ y. text ≡ state_text y.0 ++ y.1) (ok_is {E = ContextFault} (FullContext a.value b.value c.value d.value, d.mid) y d.more)
    (behind text (octet 3) mid (static_text a.value ++ (reference_text b.value ++ (previous_text c.value ++ (window_text d.value)))) d.mid whole (behind mid (static_text a.value) a.mid (reference_text b.value ++ (previous_text c.value ++ (window_text d.value))) d.mid a.whole (behind a.mid (reference_text b.value) b.mid (previous_text c.value ++ (window_text d.value)) d.mid b.whole (behind b.mid (previous_text c.value) c.mid (window_text d.value) d.mid c.whole d.whole))))
state_go (suc (suc (suc (suc n)))) text mid y whole all e =
    let tag : ℕ = suc (suc (suc (suc n))) in
    let not_0 : (suc (suc (suc (suc n))) == 0) ≡ false = ne_eqb tag 0 (λ f. omega arith) in
    let not_1 : (suc (suc (suc (suc n))) == 1) ≡ false = ne_eqb tag 1 (λ f. omega arith) in
    let not_2 : (suc (suc (suc (suc n))) == 2) ≡ false = ne_eqb tag 2 (λ f. omega arith) in
    let not_3 : (suc (suc (suc (suc n))) == 3) ≡ false = ne_eqb tag 3 (λ f. omega arith) in
    let is : state_by (suc (suc (suc (suc n)))) text mid ≡ Err (Bad (length text)) = rw (not_0, not_1, not_2, not_3) refl in
    let never : ◌≡◌ {A = Read State} (Err (Bad (length text))) (Ok y) = sym is ∙ e in
    cc

state_spells : Spells state_at state_text Any
unfolding state_at
state_spells text y all e =
    let a = took octet_at octet IsOctet octet_spells _ text y all e in
    (state_go a.value text a.mid y a.whole a.octets a.more, tt)

saved_spells : Spells saved_at saved_text Any
unfolding saved_at saved_text
saved_spells text y all e =
    let a = took long_at long_text Any long_spells _ text y all e in
    let b = took state_at state_text Any state_spells _ a.mid y a.octets a.more in
    subst (λ y. (text ≡ saved_text y.0 ++ y.1) × Any y.0) (ok_is {E = ContextFault} (record { accepted = a.value; state = b.value }, b.mid) y b.more)
    (behind text (long_text a.value) a.mid (state_text b.value) b.mid a.whole b.whole, tt)

pub is_spelled : RecordIsSpelled
is_spelled text rest r all e = (saved_spells text (r, rest) all e).0

-- ---- Whole texts

ended_ok : {A : Type 0} (x y : A) (text : List ℕ) → ended x text ≡ Ok y → (x ≡ y) × (text ≡ [])
ended_ok {A} x y [] e = (ok_is {E = ContextFault} x y e, refl)
ended_ok x y (octet ∷ text) e = cc

whole_spelled : (text : List ℕ) (r : Record) → All IsOctet text → restored text ≡ Ok r → text ≡ saved_text r
unfolding restored
whole_spelled text r all e =
    let step = bind_ok (saved_at text) (λ x. ended x.0 x.1) r e in
    let last = ended_ok step.0.0 r step.0.1 step.2 in
    let is = saved_spells text step.0 all step.1 in
    is.0 ∙ ap (λ t. saved_text step.0.0 ++ t) last.1 ∙ append-nil (saved_text step.0.0) ∙ ap saved_text last.0

whole_back : (r : Record) → IsGoodRecord r → restored (saved_text r) ≡ Ok r
unfolding restored
whole_back r good = ap restored (sym (append-nil (saved_text r))) ∙ rw (comes_back r [] good) refl

-- what a reader of whole texts answers
abbrev pub RestoresWhole : List ℕ → Result Context ContextFault → Type 0
RestoresWhole text result = MatchResult result (λ c. restored text ≡ Ok (record_of c)) (λ e. restored text ≡ Err e)

pub answers_spelled : (text : List ℕ) (result : Result Context ContextFault) → All IsOctet text → RestoresWhole text result → IfOk result (λ c. text ≡ saved_text (record_of c))
answers_spelled text (Ok c) all is = whole_spelled text (record_of c) all is
answers_spelled text (Err e) all is = tt

pub answers_only : (text : List ℕ) (result : Result Context ContextFault) → RestoresWhole text result → (c : Context) → text ≡ saved_text (record_of c)
    → IsOk result × IfOk result (λ d. record_of d ≡ record_of c)
answers_only text (Ok d) is c e = (refl, ok_is {E = ContextFault} (record_of d) (record_of c) (sym is ∙ ap restored e ∙ whole_back (record_of c) (context_good c)))
answers_only text (Err fault) is c e =
    let never : ◌≡◌ {A = Result Record ContextFault} (Err fault) (Ok (record_of c)) = sym is ∙ ap restored e ∙ whole_back (record_of c) (context_good c) in
    cc
