-- The reference after an accepted packet, and the previous reference.
-- Words: first_reference, next_reference, next_previous.
use Rattle.std.specs.Prelude.{ℕ, Bool, true, false, not, ◌==◌, ◌&&◌, if◌then◌else◌, Option, Some, None, is_some}
use Rattle.rohc_header.specs.declared.fields.Dynamic.{Dynamic}
use Rattle.rohc_forms.specs.declared.form.FormKind.{FormKind}
use Rattle.rohc_forms.specs.declared.form.FormKind.TheVariants.{Uo0, Uo1, Uo1Id, Uo1Ts, Uor2, Uor2Id, Uor2Ts}
use Rattle.rohc_forms.specs.Content.{Content}
use Rattle.rohc_context.specs.Record.{Reference}
use Rattle.rohc_context.specs.Tries.{Acceptance}

-- a reference never has a marker
abbrev pub without_marker : Dynamic → Dynamic
without_marker moving = record moving { marker = false }

-- after an IR or an IR-DYN; its UDP checksum says whether later packets carry one
abbrev pub first_reference : Dynamic → Reference
first_reference moving = record { moving = without_marker moving; carries_sum = not (moving.udp_sum == 0) }

-- the values of a UO-1-ID's extension 3 count for that packet alone
abbrev pub is_uo1_id : FormKind → Bool
is_uo1_id Uo0 = false
is_uo1_id Uo1 = false
is_uo1_id Uo1Id = true
is_uo1_id Uo1Ts = false
is_uo1_id Uor2 = false
is_uo1_id Uor2Id = false
is_uo1_id Uor2Ts = false

abbrev pub counts_once : Content → Bool
counts_once c = is_uo1_id c.kind && is_some c.values

-- the kept fields, with the header's SN, TS, Identification and UDP checksum
abbrev pub with_numbers : Dynamic → Dynamic → Dynamic
with_numbers kept header =
    record kept { sn = header.sn; ts = header.ts; id = header.id; udp_sum = header.udp_sum }

-- The header's values, with the RND, NBO and stride in force. After a UO-1-ID with an extension 3 the
-- reference takes only SN, TS, Identification and UDP checksum, and keeps the other fields of the reference
-- against which the packet was decoded.
abbrev pub next_moving : Acceptance → Dynamic
next_moving a =
    if counts_once a.content then with_numbers a.reference.moving a.header.moving else without_marker
    a.header.moving

abbrev pub next_reference : Acceptance → Reference
next_reference a = record { moving = next_moving a; carries_sum = a.reference.carries_sum }

abbrev pub same_stride : Option ℕ → Option ℕ → Bool
same_stride None None = true
same_stride None (Some b) = false
same_stride (Some a) None = false
same_stride (Some a) (Some b) = a == b

abbrev pub same_flag : Bool → Bool → Bool
same_flag true b = b
same_flag false b = not b

-- RND, NBO and stride are the same
abbrev pub same_numbering : Dynamic → Dynamic → Bool
same_numbering a b = same_flag a.rnd b.rnd && same_flag a.nbo b.nbo && same_stride a.stride b.stride

-- The reference against which the packet was decoded, if RND, NBO and stride stay as the held reference has
-- them; else none.
abbrev pub kept_previous : (held : Reference) (next : Dynamic) (explained_by : Reference) → Option Reference
kept_previous held next explained_by = if same_numbering held.moving next then Some explained_by else None

abbrev pub next_previous : (held : Reference) → Acceptance → Option Reference
next_previous held a = kept_previous held (next_moving a) a.reference
