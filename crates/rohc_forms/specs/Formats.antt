-- Each packet has the format that its octets fit.
use Rattle.std.specs.Prelude.{◌≡◌, ℕ, ◌+◌, ◌*◌, ◌/◌, ◌<◌, ◌↔◌, List, [], ◌∷◌, take, Bool, true, ◌==◌, ◌&&◌, not, nat_lt, fold, if◌then◌else◌}
use Rattle.rohc_forms.specs.declared.form.FormKind.{FormKind}
use Rattle.rohc_forms.specs.declared.form.FormKind.TheVariants.{Uo0, Uo1, Uo1Id, Uo1Ts, Uor2, Uor2Id, Uor2Ts}
use Rattle.rohc_forms.specs.declared.parts.Base.{Base}
use Rattle.rohc_forms.specs.Slices.{slice}
use Rattle.rohc_forms.specs.Table.{Field, Fixed, Sn, Ts, Id, Marker, Extended, Check, Layout, layout, layout_0, layout_1, layout_2, short_layout, width}
use Rattle.rohc_forms.specs.Content.{form_kind}

-- if a format fixes the number in a field, it is the one that is found
abbrev pub is_found : Field → ℕ → Bool
is_found (Fixed n) found = found == n
is_found Sn found = true
is_found Ts found = true
is_found Id found = true
is_found Marker found = true
is_found Extended found = true
is_found Check found = true

-- the bits of a number that the format fixes are there
abbrev pub fits : Layout → ℕ → Bool
fits [] n = true
fits ((field, bits) ∷ more) n = is_found field (slice n (width more) bits).value && fits more n

-- the RND under which a format is used; UO-0 is used under both
abbrev pub is_under : Bool → FormKind → Bool
is_under rnd Uo0 = true
is_under rnd Uo1 = rnd
is_under rnd Uo1Id = not rnd
is_under rnd Uo1Ts = not rnd
is_under rnd Uor2 = rnd
is_under rnd Uor2Id = not rnd
is_under rnd Uor2Ts = not rnd

-- octets as one number, most significant first
abbrev pub number_of : List ℕ → ℕ
number_of octets = fold (λ n octet. n * 256 + octet) 0 octets

-- the octets start with as many octets as a format has, and those fit it
abbrev pub begin_with : Layout → List ℕ → Bool
begin_with l octets = fits l (number_of (take (width l / 8) octets))

-- the first octets of a packet fit a format that is used under this RND
abbrev pub has_format : FormKind → Bool → List ℕ → Bool
has_format kind rnd octets = is_under rnd kind && begin_with (layout kind) octets

-- the octets before an extension, from the first three octets
abbrev pub base_of : ℕ → ℕ → ℕ → Base
base_of a b c =
    record {
      first = a;
      number =
          if nat_lt a 0x80 then a else if nat_lt a 0xc0 then a * 256 + b else a * 65536 + (b * 256 + c);
    }

-- Exactly one format fits a packet whose first octet is below E0: the one that is read.
abbrev pub FitsOne : Type 0
FitsOne = (rnd : Bool) (a b c : ℕ) → a < 0xe0 → b < 256 → c < 256 → (kind : FormKind) →
    (has_format kind rnd (a ∷ b ∷ c ∷ []) ≡ true) ↔ (kind ≡ form_kind (base_of a b c) rnd)

-- Exactly one of the formats 0, 1 and 2 fits an extension whose first octet is below C0: the one that is
-- read.
abbrev pub FitsOneExtension : Type 0
FitsOneExtension = (kind : FormKind) (a b c : ℕ) → a < 0xc0 → b < 256 → c < 256 →
    ((begin_with (layout_0 kind) (a ∷ b ∷ c ∷ []) ≡ true) ↔ (short_layout kind a ≡ layout_0 kind))
    × ((begin_with (layout_1 kind) (a ∷ b ∷ c ∷ []) ≡ true) ↔ (short_layout kind a ≡ layout_1 kind))
    × ((begin_with (layout_2 kind) (a ∷ b ∷ c ∷ []) ≡ true) ↔ (short_layout kind a ≡ layout_2 kind))
