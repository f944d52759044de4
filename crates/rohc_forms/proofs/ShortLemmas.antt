-- Extensions 1 and 2 octet by octet: the first octet is an extension 0's.
use Rattle.std.proofs.Common.{◌≡◌, ℕ, ◌+◌, ◌*◌, ◌<◌, ◌≤◌, Bool, true, false, List, Ok, Err, refl, sym, ap, ◌∙◌, arith}
use Rattle.std.specs.Prelude.{nat_lt}
use Rattle.std.proofs.lemmas.Bool.Decides.{nat_tests}
use Rattle.rohc_bits.specs.LowBits.{LowBits}
use Rattle.rohc_bits.specs.Grammar.{Octet, Word, Which, As}
use Rattle.rohc_forms.specs.declared.form.FormKind.{FormKind}
use Rattle.rohc_bits.specs.Reading.{next_octet, next_word}
use Rattle.rohc_forms.specs.declared.refusal.FormRefusal.{FormRefusal}
use Rattle.rohc_forms.specs.declared.refusal.FormRefusal.TheVariants.{Truncated}
use Rattle.rohc_forms.specs.Slices.{slice}
use Rattle.rohc_forms.specs.Octets.{read}
use Rattle.rohc_forms.specs.Packets.{short_extension_at}
use Rattle.rohc_forms.specs.Table.{Said, Sn, and_said, plus, minus, under, layout_0, layout_1, layout_2}

abbrev pub eight : ℕ → LowBits
eight octet = record { count = 8; value = octet }

bits_are : (count a b : ℕ) → a ≡ b → ◌≡◌ {A = LowBits} (record { count = count; value = a }) (record { count = count; value = b })
bits_are count a b e = ap (λ v. record { count = count; value = v }) e

pub two_octets : (kind : FormKind) (first second : ℕ) (said : Said) → second < 256 →
    and_said (minus kind) (eight second) (under (layout_0 kind) first said) ≡ under (layout_1 kind) (first * 256 + second) said
two_octets kind first second said small =
    let n = first * 256 + second in
    let sn : slice first 3 3 ≡ slice n 11 3 = bits_are 3 _ _ (omega arith) in
    let high : slice first 0 3 ≡ slice n 8 3 = bits_are 3 _ _ (omega arith) in
    let low : eight second ≡ slice n 0 8 = bits_are 8 _ _ (omega arith) in
    ap (λ (d : LowBits). and_said (minus kind) (eight second) (and_said (plus kind) (slice first 0 3) (and_said Sn d said))) sn
    ∙ ap (λ (d : LowBits). and_said (minus kind) (eight second) (and_said (plus kind) d (and_said Sn (slice n 11 3) said))) high
    ∙ ap (λ (d : LowBits). and_said (minus kind) d (and_said (plus kind) (slice n 8 3) (and_said Sn (slice n 11 3) said))) low

pub three_octets : (kind : FormKind) (first second third : ℕ) (said : Said) → second < 256 → third < 256 →
    and_said (minus kind) (eight third) (and_said (plus kind) (eight second) (under (layout_0 kind) first said))
    ≡ under (layout_2 kind) (first * 65536 + (second * 256 + third)) said
three_octets kind first second third said small smaller =
    let n = first * 65536 + (second * 256 + third) in
    let sn : slice first 3 3 ≡ slice n 19 3 = bits_are 3 _ _ (omega arith) in
    let high : slice first 0 3 ≡ slice n 16 3 = bits_are 3 _ _ (omega arith) in
    let middle : eight second ≡ slice n 8 8 = bits_are 8 _ _ (omega arith) in
    let low : eight third ≡ slice n 0 8 = bits_are 8 _ _ (omega arith) in
    ap (λ (d : LowBits). and_said (minus kind) (eight third) (and_said (plus kind) (eight second) (and_said (plus kind) (slice first 0 3) (and_said Sn d said)))) sn
    ∙ ap (λ (d : LowBits). and_said (minus kind) (eight third) (and_said (plus kind) (eight second) (and_said (plus kind) d (and_said Sn (slice n 19 3) said)))) high
    ∙ ap (λ (d : LowBits). and_said (minus kind) (eight third) (and_said (plus kind) d (and_said (plus kind) (slice n 16 3) (and_said Sn (slice n 19 3) said)))) middle
    ∙ ap (λ (d : LowBits). and_said (minus kind) d (and_said (plus kind) (slice n 8 8) (and_said (plus kind) (slice n 16 3) (and_said Sn (slice n 19 3) said)))) low

-- what is read of them, and where they are cut off
pub read_two : (kind : FormKind) (first second : ℕ) (said : Said) (text behind : List ℕ) → 64 ≤ first → first < 128 → second < 256 → next_octet Truncated text ≡ Ok (second, behind) →
    read (short_extension_at kind first said) text ≡ Ok (and_said (minus kind) (eight second) (under (layout_0 kind) first said), behind)
unfolding short_extension_at
read_two kind first second said text behind least most small is =
    let wide : nat_lt first 64 ≡ false = grind (arith, nat_tests) in
    let narrow : nat_lt first 128 ≡ true = grind (arith, nat_tests) in
    rw (wide, narrow, is) (ap (λ (s : Said). Ok (s, behind)) (sym (two_octets kind first second said small)))

pub read_three : (kind : FormKind) (first second third : ℕ) (said : Said) (text middle behind : List ℕ) → 128 ≤ first → second < 256 → third < 256 → next_octet Truncated text ≡ Ok (second, middle) → next_octet Truncated middle ≡ Ok (third, behind) →
    read (short_extension_at kind first said) text ≡ Ok (and_said (minus kind) (eight third) (and_said (plus kind) (eight second) (under (layout_0 kind) first said)), behind)
unfolding short_extension_at next_word
read_three kind first second third said text middle behind least small smaller is then_is =
    let wide : nat_lt first 64 ≡ false = grind (arith, nat_tests) in
    let wider : nat_lt first 128 ≡ false = grind (arith, nat_tests) in
    rw (wide, wider, is, then_is) (ap (λ (s : Said). Ok (s, behind)) (sym (three_octets kind first second third said small smaller)))

cut_by : (one : Bool) (f g : ℕ → Said) (text : List ℕ) (refusal : FormRefusal) → next_octet Truncated text ≡ Err refusal →
    read (Which one (As f Octet) (As g Word)) text ≡ Err refusal
unfolding next_word
cut_by true f g text refusal is = rw is refl
cut_by false f g text refusal is = rw is refl

pub cut_second : (kind : FormKind) (first : ℕ) (said : Said) (text : List ℕ) (refusal : FormRefusal) → 64 ≤ first → next_octet Truncated text ≡ Err refusal → read (short_extension_at kind first said) text ≡ Err refusal
unfolding short_extension_at
cut_second kind first said text refusal least is =
    let wide : nat_lt first 64 ≡ false = grind (arith, nat_tests) in
    rw wide (cut_by (nat_lt first 128) _ _ text refusal is)

pub cut_third : (kind : FormKind) (first second : ℕ) (said : Said) (text middle : List ℕ) (refusal : FormRefusal) → 128 ≤ first → next_octet Truncated text ≡ Ok (second, middle) → next_octet Truncated middle ≡ Err refusal →
    read (short_extension_at kind first said) text ≡ Err refusal
unfolding short_extension_at next_word
cut_third kind first second said text middle refusal least is then_is =
    let wide : nat_lt first 64 ≡ false = grind (arith, nat_tests) in
    let wider : nat_lt first 128 ≡ false = grind (arith, nat_tests) in
    rw (wide, wider, is, then_is) refl
