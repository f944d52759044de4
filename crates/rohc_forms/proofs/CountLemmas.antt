-- As many octets are read as the formats have.
use Rattle.std.proofs.Common.{◌≡◌, ℕ, ◌+◌, ◌*◌, Bool, true, false, List, [], ◌∷◌, ◌++◌, length, refl, sym, ap, subst, ◌∙◌, arith}
use Rattle.std.specs.Prelude.{nat_lt, if◌then◌else◌}
use Rattle.rohc_bits.specs.Reading.{bit}
use Rattle.rohc_bits.specs.Grammar.{Octet, Word, Says, Which, As, SaidBy}
use Rattle.rohc_forms.specs.declared.form.FormKind.{FormKind}
use Rattle.rohc_forms.specs.declared.parts.Base.{Base}
use Rattle.rohc_forms.specs.Octets.{FormPiece}
use Rattle.rohc_forms.specs.Table.{Said, Layout, layout, width, under, layout_0, layout_1, layout_2, short_layout}
use Rattle.rohc_forms.specs.Formats.{number_of}
use Rattle.rohc_forms.specs.Content.{form_kind}
use Rattle.rohc_forms.specs.Packets.{base_at, short_extension_at}
use Rattle.rohc_forms.specs.Laws.{IsNumber, CountsOctets, CountsExtension}

-- how many bits the octets before an extension have
base_width_by : (base : Base) (rnd uo0 uo1 t1 t2 : Bool) → nat_lt base.first 128 ≡ uo0 → nat_lt base.first 192 ≡ uo1 → bit 5 base.first ≡ t1 → bit 15 base.number ≡ t2 →
    width (layout (form_kind base rnd)) ≡ (if uo0 then 8 else if uo1 then 16 else 24)
base_width_by base rnd true uo1 t1 t2 e f g h = rw e refl
base_width_by base true false true t1 t2 e f g h = rw (e, f) refl
base_width_by base false false true true t2 e f g h = rw (e, f, g) refl
base_width_by base false false true false t2 e f g h = rw (e, f, g) refl
base_width_by base true false false t1 t2 e f g h = rw (e, f) refl
base_width_by base false false false t1 true e f g h = rw (e, f, h) refl
base_width_by base false false false t1 false e f g h = rw (e, f, h) refl

base_width : (first : ℕ) (base : Base) (rnd one two : Bool) → base.first ≡ first → nat_lt first 128 ≡ one → nat_lt first 192 ≡ two →
    width (layout (form_kind base rnd)) ≡ (if one then 8 else if two then 16 else 24)
base_width first base rnd one two is e f =
    base_width_by base rnd one two (bit 5 base.first) (bit 15 base.number) (ap (λ n. nat_lt n 128) is ∙ e) (ap (λ n. nat_lt n 192) is ∙ f) refl refl

-- the octets before an extension, by the tests of the first one
abbrev pub base_piece : Bool → Bool → ℕ → FormPiece Base
base_piece one two first =
    Which one (Says (record { first = first; number = first }))
    (Which two (As (λ second. record { first = first; number = first * 256 + second }) Octet)
    (As (λ low. record { first = first; number = first * 65536 + low }) Word))

abbrev pub IsBase : ℕ → Bool → Base → List ℕ → Type 0
IsBase first rnd base text = (base.first ≡ first) × IsNumber (layout (form_kind base rnd)) first text base.number

base_to : (first : ℕ) (rnd : Bool) (base : Base) (text : List ℕ) (one two : Bool) → nat_lt first 128 ≡ one → nat_lt first 192 ≡ two → SaidBy (base_piece one two first) base text → IsBase first rnd base text
base_to first rnd base text true two e f n = (
  is,
  record {
    counted = ap (λ (t : List ℕ). length (first ∷ t) * 8) n.0 ∙ sym (base_width first base rnd true two is e f);
    number = ap (λ (b : Base). b.number) n.1 ∙ rw n.0 (omega arith);
  },
) where
  is : base.first ≡ first
  is = ap (λ (b : Base). b.first) n.1
base_to first rnd base text false true e f n = (
  is,
  record {
    counted = ap (λ (t : List ℕ). length (first ∷ t) * 8) n.1 ∙ sym (base_width first base rnd false true is e f);
    number = ap (λ (b : Base). b.number) n.2 ∙ rw n.1 (omega arith);
  },
) where
  is : base.first ≡ first
  is = ap (λ (b : Base). b.first) n.2
base_to first rnd base text false false e f n = (
  is,
  record {
    counted = ap (λ (t : List ℕ). length (first ∷ t) * 8) n.1.2 ∙ sym (base_width first base rnd false false is e f);
    number = ap (λ (b : Base). b.number) n.2 ∙ rw n.1.2 (let low : n.0 ≡ n.1.0 * 256 + n.1.1 = n.1.3 in omega arith);
  },
) where
  is : base.first ≡ first
  is = ap (λ (b : Base). b.first) n.2

base_is : (first number : ℕ) (base : Base) → base.first ≡ first → base.number ≡ number → base ≡ record { first = first; number = number }
base_is first number base e f = rw (← e, ← f) refl

base_1 : (first : ℕ) (base : Base) (text : List ℕ) → base.first ≡ first → length (first ∷ text) * 8 ≡ 8 → base.number ≡ number_of (first ∷ text) → SaidBy (base_piece true true first) base text
base_1 first base [] e l is = (refl, base_is first first base e (omega (arith, is)))
base_1 first base (a ∷ text) e l is = absurd (omega arith)

base_2 : (first : ℕ) (base : Base) (text : List ℕ) → base.first ≡ first → length (first ∷ text) * 8 ≡ 16 → base.number ≡ number_of (first ∷ text) → SaidBy (base_piece false true first) base text
base_2 first base [] e l is = absurd (omega arith)
base_2 first base (a ∷ []) e l is = (a, refl, base_is first (first * 256 + a) base e (omega (arith, is)))
base_2 first base (a ∷ b ∷ text) e l is = absurd (omega arith)

base_3 : (first : ℕ) (base : Base) (text : List ℕ) → base.first ≡ first → length (first ∷ text) * 8 ≡ 24 → base.number ≡ number_of (first ∷ text) → SaidBy (base_piece false false first) base text
base_3 first base [] e l is = absurd (omega arith)
base_3 first base (a ∷ []) e l is = absurd (omega arith)
base_3 first base (a ∷ b ∷ []) e l is = (a * 256 + b, (a, b, refl, refl), base_is first (first * 65536 + (a * 256 + b)) base e (omega (arith, is)))
base_3 first base (a ∷ b ∷ c ∷ text) e l is = absurd (omega arith)

base_from : (first : ℕ) (rnd : Bool) (base : Base) (text : List ℕ) (one two : Bool) → nat_lt first 128 ≡ one → nat_lt first 192 ≡ two → IsBase first rnd base text → SaidBy (base_piece one two first) base text
base_from first rnd base text true two e f n = base_1 first base text n.0 (n.1.counted ∙ base_width first base rnd true two n.0 e f) n.1.number
base_from first rnd base text false true e f n = base_2 first base text n.0 (n.1.counted ∙ base_width first base rnd false true n.0 e f) n.1.number
base_from first rnd base text false false e f n = base_3 first base text n.0 (n.1.counted ∙ base_width first base rnd false false n.0 e f) n.1.number

counted_by : (a b c : ℕ) (one two : Bool) →
    (octets : List ℕ) × (behind : List ℕ) × (b ∷ c ∷ [] ≡ octets ++ behind) × SaidBy (base_piece one two a) (record { first = a; number = if one then a else if two then a * 256 + b else a * 65536 + (b * 256 + c) }) octets
counted_by a b c true two = ([], b ∷ c ∷ [], refl, (refl, refl))
counted_by a b c false true = (b ∷ [], c ∷ [], refl, (b, refl, refl))
counted_by a b c false false = (b ∷ c ∷ [], [], refl, (b * 256 + c, (b, c, refl, refl), refl))

pub counts_octets : CountsOctets
unfolding base_at
counts_octets = λ rnd. (
  λ first base text. (base_to first rnd base text (nat_lt first 128) (nat_lt first 192) refl refl, base_from first rnd base text (nat_lt first 128) (nat_lt first 192) refl refl),
  λ a b c. counted_by a b c (nat_lt a 128) (nat_lt a 192),
)

-- the octets of an extension 0, 1 or 2, by the tests of the first one
abbrev pub short_piece : Bool → Bool → FormKind → ℕ → Said → FormPiece Said
short_piece zero_first one_first kind first said =
    Which zero_first (Says (under (layout_0 kind) first said))
    (Which one_first (As (λ second. under (layout_1 kind) (first * 256 + second) said) Octet)
    (As (λ low. under (layout_2 kind) (first * 65536 + low) said) Word))

abbrev pub IsShort : Layout → ℕ → Said → Said → List ℕ → Type 0
IsShort l first before after text = (number : ℕ) × IsNumber l first text number × (after ≡ under l number before)

short_to : (kind : FormKind) (first : ℕ) (said after : Said) (text : List ℕ) (zero_first one_first : Bool) → nat_lt first 64 ≡ zero_first → nat_lt first 128 ≡ one_first →
    SaidBy (short_piece zero_first one_first kind first said) after text → IsShort (short_layout kind first) first said after text
short_to kind first said after text true o e f n = rw (n.0, e) (first, record { counted = refl; number = omega arith }, n.1)
short_to kind first said after text false true e f n = rw (n.1, e, f) (first * 256 + n.0, record { counted = refl; number = omega arith }, n.2)
short_to kind first said after text false false e f n =
    rw (n.1.2, e, f) (first * 65536 + n.0, record { counted = refl; number = let is : n.0 ≡ n.1.0 * 256 + n.1.1 = n.1.3 in omega arith }, n.2)

short_0 : (kind : FormKind) (first number : ℕ) (said after : Said) (text : List ℕ) → IsNumber (layout_0 kind) first text number → after ≡ under (layout_0 kind) number said →
    SaidBy (short_piece true true kind first said) after text
short_0 kind first number said after [] n is = (refl, is ∙ ap (λ k. under (layout_0 kind) k said) (omega (arith, n.number)))
short_0 kind first number said after (a ∷ text) n is = absurd (omega (arith, n.counted))

short_1 : (kind : FormKind) (first number : ℕ) (said after : Said) (text : List ℕ) → IsNumber (layout_1 kind) first text number → after ≡ under (layout_1 kind) number said →
    SaidBy (short_piece false true kind first said) after text
short_1 kind first number said after [] n is = absurd (omega (arith, n.counted))
short_1 kind first number said after (a ∷ []) n is = (a, refl, is ∙ ap (λ k. under (layout_1 kind) k said) (omega (arith, n.number)))
short_1 kind first number said after (a ∷ b ∷ text) n is = absurd (omega (arith, n.counted))

short_2 : (kind : FormKind) (first number : ℕ) (said after : Said) (text : List ℕ) → IsNumber (layout_2 kind) first text number → after ≡ under (layout_2 kind) number said →
    SaidBy (short_piece false false kind first said) after text
short_2 kind first number said after [] n is = absurd (omega (arith, n.counted))
short_2 kind first number said after (a ∷ []) n is = absurd (omega (arith, n.counted))
short_2 kind first number said after (a ∷ b ∷ []) n is = (a * 256 + b, (a, b, refl, refl), is ∙ ap (λ k. under (layout_2 kind) k said) (omega (arith, n.number)))
short_2 kind first number said after (a ∷ b ∷ c ∷ text) n is = absurd (omega (arith, n.counted))

short_from : (kind : FormKind) (first : ℕ) (said after : Said) (text : List ℕ) (zero_first one_first : Bool) → nat_lt first 64 ≡ zero_first → nat_lt first 128 ≡ one_first →
    (l : Layout) → l ≡ short_layout kind first → IsShort l first said after text → SaidBy (short_piece zero_first one_first kind first said) after text
short_from kind first said after text true o e f l is n =
    let it : l ≡ layout_0 kind = is ∙ rw e refl in
    short_0 kind first n.0 said after text (subst (λ m. IsNumber m first text n.0) it n.1) (n.2 ∙ ap (λ (m : Layout). under m n.0 said) it)
short_from kind first said after text false true e f l is n =
    let it : l ≡ layout_1 kind = is ∙ rw (e, f) refl in
    short_1 kind first n.0 said after text (subst (λ m. IsNumber m first text n.0) it n.1) (n.2 ∙ ap (λ (m : Layout). under m n.0 said) it)
short_from kind first said after text false false e f l is n =
    let it : l ≡ layout_2 kind = is ∙ rw (e, f) refl in
    short_2 kind first n.0 said after text (subst (λ m. IsNumber m first text n.0) it n.1) (n.2 ∙ ap (λ (m : Layout). under m n.0 said) it)

pub counts_extension : CountsExtension
unfolding short_extension_at
counts_extension = λ kind first before after text. (
  short_to kind first before after text (nat_lt first 64) (nat_lt first 128) refl refl,
  short_from kind first before after text (nat_lt first 64) (nat_lt first 128) refl refl (short_layout kind first) refl,
)
