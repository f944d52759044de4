-- The fields of the base octets, with the names under which they are told, cut behind the first octet: there
-- the octets of a large CID stand (RFC 3095 5.2.6). Words: row_of, front_row, row_behind.
use Rattle.std.specs.Prelude.{ℕ, ◌-◌, List, [], ◌∷◌, map, ◌==◌, nat_le, if◌then◌else◌}
use Rattle.rohc_explain.specs.declared.field.FieldName.{FieldName}
use Rattle.rohc_explain.specs.declared.field.FieldName.TheVariants as names
use Rattle.rohc_forms.specs.declared.form.FormKind.{FormKind}
use Rattle.rohc_forms.specs.Table.{Field, Fixed, Sn, Ts, Id, Marker, Extended, Check, Layout, layout}

-- the name of a field of a format
abbrev pub name_in : Field → FieldName
name_in (Fixed n) = names.Format
name_in Sn = names.Sn
name_in Ts = names.Ts
name_in Id = names.IpId
name_in Marker = names.M
name_in Extended = names.X
name_in Check = names.Crc

-- the fields of a format: their names, and how many bits each has
abbrev pub row_of : Layout → List (FieldName × ℕ)
row_of l = map (λ field. (name_in field.0, field.1)) l

-- the fields in the first so many bits; one that ends behind them is cut
abbrev pub front_row : ℕ → List (FieldName × ℕ) → List (FieldName × ℕ)
front_row room [] = []
front_row room ((name, count) ∷ more) =
    if nat_le count room then (name, count) ∷ front_row (room - count) more
    else if room == 0 then [] else (name, room) ∷ []

-- the fields behind them, with the rest of the one that was cut
abbrev pub row_behind : ℕ → List (FieldName × ℕ) → List (FieldName × ℕ)
row_behind room [] = []
row_behind room ((name, count) ∷ more) =
    if nat_le count room then row_behind (room - count) more else (name, count - room) ∷ more

-- the fields of a format's first octet, and those behind it
abbrev pub first_octet : FormKind → List (FieldName × ℕ)
first_octet kind = front_row 8 (row_of (layout kind))

abbrev pub behind_first : FormKind → List (FieldName × ℕ)
behind_first kind = row_behind 8 (row_of (layout kind))
