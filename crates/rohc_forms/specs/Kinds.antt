-- Properties of a packet's format, and of what it says of the Identification.
use Rattle.std.specs.Prelude.{ℕ, if◌then◌else◌, Bool, true, false, Option, Some, None}
use Rattle.rohc_bits.specs.declared.bits.Bits.{Bits}
use Rattle.rohc_forms.specs.declared.form.FormKind.{FormKind}
use Rattle.rohc_forms.specs.declared.form.FormKind.TheVariants.{Uo0, Uo1, Uo1Id, Uo1Ts, Uor2, Uor2Id, Uor2Ts}
use Rattle.rohc_forms.specs.declared.form.IdBits.{IdBits}
use Rattle.rohc_forms.specs.declared.form.IdBits.TheVariants.{Same, Offset, Whole}

-- the formats of UOR-2
abbrev pub is_uor2 : FormKind → Bool
is_uor2 Uo0 = false
is_uor2 Uo1 = false
is_uor2 Uo1Id = false
is_uor2 Uo1Ts = false
is_uor2 Uor2 = true
is_uor2 Uor2Id = true
is_uor2 Uor2Ts = true

-- how many bits a format's check has
abbrev pub check_width : FormKind → ℕ
check_width kind = if is_uor2 kind then 7 else 3

-- the whole Identification stands in the packet
abbrev pub is_whole : IdBits → Bool
is_whole Same = false
is_whole (Offset bits) = false
is_whole (Whole id) = true

-- the bits of its offset
abbrev pub offset_in : IdBits → Option Bits
offset_in Same = None
offset_in (Offset bits) = Some bits
offset_in (Whole id) = None
