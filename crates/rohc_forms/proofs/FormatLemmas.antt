-- Of a packet whose first octet is below E0 exactly one format fits, and of an extension 0, 1 or 2.
use Rattle.std.proofs.Common.{◌≡◌, ℕ, ◌+◌, ◌*◌, ◌/◌, ◌%◌, ◌^◌, ◌<◌, [], ◌∷◌, length, Bool, true, false, ◌==◌, ◌&&◌, refl, sym, ap, ◌∙◌, arith}
use Rattle.std.specs.Prelude.{◌↔◌, nat_lt, if◌then◌else◌}
use Rattle.std.proofs.lemmas.Bool.Decides.{nat_tests}
use Rattle.rohc_bits.specs.Reading.{bit}
use Rattle.rohc_forms.specs.declared.form.FormKind.{FormKind}
use Rattle.rohc_forms.specs.declared.form.FormKind.TheVariants.{Uo0, Uo1, Uo1Id, Uo1Ts, Uor2, Uor2Id, Uor2Ts}
use Rattle.rohc_forms.specs.Slices.{slice}
use Rattle.rohc_forms.specs.Content.{form_kind}
use Rattle.rohc_forms.specs.Formats.{is_found, number_of, begin_with, has_format, base_of, FitsOne, FitsOneExtension}
use Rattle.rohc_forms.specs.Table.{plus, minus, layout_0, layout_1, layout_2, short_layout, FirstOctet, IpOctet, RtpOctet, TypeOctet, Prefix, S, R-TS, Tsc, I, IP, RTP, TOS, TTL, DF, PR, IPX, NBO, RND, IP2, Mode, R-PT, M, R-X, CSRC, TSS, TIS, P, PT}
use Rattle.rohc_forms.specs.Laws.{BeginsWith11, HaveEightBits, StandInPlace}

-- the format that fits is the one that is read
only : (kind : FormKind) (rnd : Bool) (a b c : ℕ) → a < 224 → b < 256 → c < 256 → has_format kind rnd (a ∷ b ∷ c ∷ []) ≡ true → kind ≡ form_kind (base_of a b c) rnd
only Uo0 true a b c l m n e = grind (arith, nat_tests)
only Uo0 false a b c l m n e = grind (arith, nat_tests)
only Uo1 true a b c l m n e = grind (arith, nat_tests)
only Uo1 false a b c l m n e = cc
only Uo1Id true a b c l m n e = cc
only Uo1Id false a b c l m n e = grind (arith, nat_tests)
only Uo1Ts true a b c l m n e = cc
only Uo1Ts false a b c l m n e = grind (arith, nat_tests)
only Uor2 true a b c l m n e = grind (arith, nat_tests)
only Uor2 false a b c l m n e = cc
only Uor2Id true a b c l m n e = cc
only Uor2Id false a b c l m n e = grind (arith, nat_tests)
only Uor2Ts true a b c l m n e = cc
only Uor2Ts false a b c l m n e = grind (arith, nat_tests)

-- the format that is read fits
read_by : (rnd uo0 uo1 t1 t2 : Bool) (a b c : ℕ) → a < 224 → b < 256 → c < 256 → nat_lt a 128 ≡ uo0 → nat_lt a 192 ≡ uo1 → bit 5 a ≡ t1 → bit 15 (a * 65536 + (b * 256 + c)) ≡ t2 →
    has_format (form_kind (base_of a b c) rnd) rnd (a ∷ b ∷ c ∷ []) ≡ true
read_by rnd true uo1 t1 t2 a b c l m n e f g h = rw e (grind (arith, nat_tests))
read_by true false true t1 t2 a b c l m n e f g h = rw (e, f) (grind (arith, nat_tests))
read_by false false true true t2 a b c l m n e f g h = rw (e, f, g) (grind (arith, nat_tests))
read_by false false true false t2 a b c l m n e f g h = rw (e, f, g) (grind (arith, nat_tests))
read_by true false false t1 t2 a b c l m n e f g h = rw (e, f) (grind (arith, nat_tests))
read_by false false false t1 true a b c l m n e f g h = rw (e, f, h) (grind (arith, nat_tests))
read_by false false false t1 false a b c l m n e f g h = rw (e, f, h) (grind (arith, nat_tests))

pub fits_one : FitsOne
fits_one = λ rnd a b c l m n kind. (only kind rnd a b c l m n, λ is. rw is (read_by rnd (nat_lt a 128) (nat_lt a 192) (bit 5 a) (bit 15 (a * 65536 + (b * 256 + c))) a b c l m n refl refl refl refl))

-- the fields +T and -T have no number of their own
plus_found : (kind : FormKind) (n : ℕ) → is_found (plus kind) n ≡ true
plus_found Uo0 n = refl
plus_found Uo1 n = refl
plus_found Uo1Id n = refl
plus_found Uo1Ts n = refl
plus_found Uor2 n = refl
plus_found Uor2Id n = refl
plus_found Uor2Ts n = refl

minus_found : (kind : FormKind) (n : ℕ) → is_found (minus kind) n ≡ true
minus_found Uo0 n = refl
minus_found Uo1 n = refl
minus_found Uo1Id n = refl
minus_found Uo1Ts n = refl
minus_found Uor2 n = refl
minus_found Uor2Id n = refl
minus_found Uor2Ts n = refl

-- so of an extension the two bits that it begins with decide
and_true : (x : Bool) → (x && true) ≡ x
and_true true = refl
and_true false = refl

begin_0 : (kind : FormKind) (a b c : ℕ) → begin_with (layout_0 kind) (a ∷ b ∷ c ∷ []) ≡ (number_of (a ∷ []) / 2 ^ 6 % 2 ^ 2 == 0)
begin_0 kind a b c = (λ i. (number_of (a ∷ []) / 2 ^ 6 % 2 ^ 2 == 0) && (plus_found kind (slice (number_of (a ∷ [])) 0 3).value i && true)) ∙ and_true (number_of (a ∷ []) / 2 ^ 6 % 2 ^ 2 == 0)

begin_1 : (kind : FormKind) (a b c : ℕ) → begin_with (layout_1 kind) (a ∷ b ∷ c ∷ []) ≡ (number_of (a ∷ b ∷ []) / 2 ^ 14 % 2 ^ 2 == 1)
begin_1 kind a b c =
    let n = number_of (a ∷ b ∷ []) in
    (λ i. (n / 2 ^ 14 % 2 ^ 2 == 1) && (plus_found kind (slice n 8 3).value i && (minus_found kind (slice n 0 8).value i && true))) ∙ and_true (n / 2 ^ 14 % 2 ^ 2 == 1)

begin_2 : (kind : FormKind) (a b c : ℕ) → begin_with (layout_2 kind) (a ∷ b ∷ c ∷ []) ≡ (number_of (a ∷ b ∷ c ∷ []) / 2 ^ 22 % 2 ^ 2 == 2)
begin_2 kind a b c =
    let n = number_of (a ∷ b ∷ c ∷ []) in
    (λ i. (n / 2 ^ 22 % 2 ^ 2 == 2) && (plus_found kind (slice n 16 3).value i && (plus_found kind (slice n 8 8).value i && (minus_found kind (slice n 0 8).value i && true)))) ∙ and_true (n / 2 ^ 22 % 2 ^ 2 == 2)

-- the format that is read tells what the first octet begins with
read_0 : (kind : FormKind) (one two : Bool) → (if one then layout_0 kind else if two then layout_1 kind else layout_2 kind) ≡ layout_0 kind → one ≡ true
read_0 kind true two e = refl
read_0 kind false true e = let l : 4 ≡ 3 = ap length e in absurd (omega (arith, l))
read_0 kind false false e = let l : 5 ≡ 3 = ap length e in absurd (omega (arith, l))

read_1 : (kind : FormKind) (one two : Bool) → (if one then layout_0 kind else if two then layout_1 kind else layout_2 kind) ≡ layout_1 kind → (one ≡ false) × (two ≡ true)
read_1 kind true two e = let l : 3 ≡ 4 = ap length e in absurd (omega (arith, l))
read_1 kind false true e = (refl, refl)
read_1 kind false false e = let l : 5 ≡ 4 = ap length e in absurd (omega (arith, l))

read_2 : (kind : FormKind) (one two : Bool) → (if one then layout_0 kind else if two then layout_1 kind else layout_2 kind) ≡ layout_2 kind → (one ≡ false) × (two ≡ false)
read_2 kind true two e = let l : 3 ≡ 5 = ap length e in absurd (omega (arith, l))
read_2 kind false true e = let l : 4 ≡ 5 = ap length e in absurd (omega (arith, l))
read_2 kind false false e = (refl, refl)

fits_0 : (kind : FormKind) (a b c : ℕ) → a < 192 → (begin_with (layout_0 kind) (a ∷ b ∷ c ∷ []) ≡ true) ↔ (short_layout kind a ≡ layout_0 kind)
fits_0 kind a b c l = (
  (λ e.
      let begins : (number_of (a ∷ []) / 2 ^ 6 % 2 ^ 2 == 0) ≡ true = sym (begin_0 kind a b c) ∙ e in
      let low : nat_lt a 64 ≡ true = grind (arith, nat_tests) in
      rw low refl),
  (λ e.
      let low : nat_lt a 64 ≡ true = read_0 kind (nat_lt a 64) (nat_lt a 128) e in
      let begins : (number_of (a ∷ []) / 2 ^ 6 % 2 ^ 2 == 0) ≡ true = grind (arith, nat_tests) in
      begin_0 kind a b c ∙ begins),
)

fits_1 : (kind : FormKind) (a b c : ℕ) → a < 192 → b < 256 → (begin_with (layout_1 kind) (a ∷ b ∷ c ∷ []) ≡ true) ↔ (short_layout kind a ≡ layout_1 kind)
fits_1 kind a b c l m = (
  (λ e.
      let begins : (number_of (a ∷ b ∷ []) / 2 ^ 14 % 2 ^ 2 == 1) ≡ true = sym (begin_1 kind a b c) ∙ e in
      let low : nat_lt a 64 ≡ false = grind (arith, nat_tests) in
      let high : nat_lt a 128 ≡ true = grind (arith, nat_tests) in
      rw (low, high) refl),
  (λ e.
      let is = read_1 kind (nat_lt a 64) (nat_lt a 128) e in
      let low : nat_lt a 64 ≡ false = is.0 in
      let high : nat_lt a 128 ≡ true = is.1 in
      let begins : (number_of (a ∷ b ∷ []) / 2 ^ 14 % 2 ^ 2 == 1) ≡ true = grind (arith, nat_tests) in
      begin_1 kind a b c ∙ begins),
)

fits_2 : (kind : FormKind) (a b c : ℕ) → a < 192 → b < 256 → c < 256 → (begin_with (layout_2 kind) (a ∷ b ∷ c ∷ []) ≡ true) ↔ (short_layout kind a ≡ layout_2 kind)
fits_2 kind a b c l m n = (
  (λ e.
      let begins : (number_of (a ∷ b ∷ c ∷ []) / 2 ^ 22 % 2 ^ 2 == 2) ≡ true = sym (begin_2 kind a b c) ∙ e in
      let low : nat_lt a 64 ≡ false = grind (arith, nat_tests) in
      let high : nat_lt a 128 ≡ false = grind (arith, nat_tests) in
      rw (low, high) refl),
  (λ e.
      let is = read_2 kind (nat_lt a 64) (nat_lt a 128) e in
      let low : nat_lt a 64 ≡ false = is.0 in
      let high : nat_lt a 128 ≡ false = is.1 in
      let begins : (number_of (a ∷ b ∷ c ∷ []) / 2 ^ 22 % 2 ^ 2 == 2) ≡ true = grind (arith, nat_tests) in
      begin_2 kind a b c ∙ begins),
)

pub fits_one_extension : FitsOneExtension
fits_one_extension = λ kind a b c l m n. (fits_0 kind a b c l, fits_1 kind a b c l m, fits_2 kind a b c l m n)

-- the prefix of an extension 3
pub begins_with_11 : BeginsWith11
begins_with_11 = λ first l. ((λ m. omega arith), λ e. omega (arith, e))

-- the octets of an extension 3
pub eight_bits : HaveEightBits
eight_bits FirstOctet = refl
eight_bits IpOctet = refl
eight_bits RtpOctet = refl
eight_bits TypeOctet = refl

pub in_place : StandInPlace
in_place Prefix = (FirstOctet, [], S ∷ R-TS ∷ Tsc ∷ I ∷ IP ∷ RTP ∷ [], refl, refl)
in_place S = (FirstOctet, Prefix ∷ [], R-TS ∷ Tsc ∷ I ∷ IP ∷ RTP ∷ [], refl, refl)
in_place R-TS = (FirstOctet, Prefix ∷ S ∷ [], Tsc ∷ I ∷ IP ∷ RTP ∷ [], refl, refl)
in_place Tsc = (FirstOctet, Prefix ∷ S ∷ R-TS ∷ [], I ∷ IP ∷ RTP ∷ [], refl, refl)
in_place I = (FirstOctet, Prefix ∷ S ∷ R-TS ∷ Tsc ∷ [], IP ∷ RTP ∷ [], refl, refl)
in_place IP = (FirstOctet, Prefix ∷ S ∷ R-TS ∷ Tsc ∷ I ∷ [], RTP ∷ [], refl, refl)
in_place RTP = (FirstOctet, Prefix ∷ S ∷ R-TS ∷ Tsc ∷ I ∷ IP ∷ [], [], refl, refl)
in_place TOS = (IpOctet, [], TTL ∷ DF ∷ PR ∷ IPX ∷ NBO ∷ RND ∷ IP2 ∷ [], refl, refl)
in_place TTL = (IpOctet, TOS ∷ [], DF ∷ PR ∷ IPX ∷ NBO ∷ RND ∷ IP2 ∷ [], refl, refl)
in_place DF = (IpOctet, TOS ∷ TTL ∷ [], PR ∷ IPX ∷ NBO ∷ RND ∷ IP2 ∷ [], refl, refl)
in_place PR = (IpOctet, TOS ∷ TTL ∷ DF ∷ [], IPX ∷ NBO ∷ RND ∷ IP2 ∷ [], refl, refl)
in_place IPX = (IpOctet, TOS ∷ TTL ∷ DF ∷ PR ∷ [], NBO ∷ RND ∷ IP2 ∷ [], refl, refl)
in_place NBO = (IpOctet, TOS ∷ TTL ∷ DF ∷ PR ∷ IPX ∷ [], RND ∷ IP2 ∷ [], refl, refl)
in_place RND = (IpOctet, TOS ∷ TTL ∷ DF ∷ PR ∷ IPX ∷ NBO ∷ [], IP2 ∷ [], refl, refl)
in_place IP2 = (IpOctet, TOS ∷ TTL ∷ DF ∷ PR ∷ IPX ∷ NBO ∷ RND ∷ [], [], refl, refl)
in_place Mode = (RtpOctet, [], R-PT ∷ M ∷ R-X ∷ CSRC ∷ TSS ∷ TIS ∷ [], refl, refl)
in_place R-PT = (RtpOctet, Mode ∷ [], M ∷ R-X ∷ CSRC ∷ TSS ∷ TIS ∷ [], refl, refl)
in_place M = (RtpOctet, Mode ∷ R-PT ∷ [], R-X ∷ CSRC ∷ TSS ∷ TIS ∷ [], refl, refl)
in_place R-X = (RtpOctet, Mode ∷ R-PT ∷ M ∷ [], CSRC ∷ TSS ∷ TIS ∷ [], refl, refl)
in_place CSRC = (RtpOctet, Mode ∷ R-PT ∷ M ∷ R-X ∷ [], TSS ∷ TIS ∷ [], refl, refl)
in_place TSS = (RtpOctet, Mode ∷ R-PT ∷ M ∷ R-X ∷ CSRC ∷ [], TIS ∷ [], refl, refl)
in_place TIS = (RtpOctet, Mode ∷ R-PT ∷ M ∷ R-X ∷ CSRC ∷ TSS ∷ [], [], refl, refl)
in_place P = (TypeOctet, [], PT ∷ [], refl, refl)
in_place PT = (TypeOctet, P ∷ [], [], refl, refl)
