-- A call in Full Context with SN 1, and its next three packets. Each is written for every reference before it.
use Rattle.std.proofs.Common.{arith, ◌*◌, ◌<◌, ◌≤◌, ◌≡◌, ◌≢◌, ℕ, List, [], ◌∷◌, true, None, refl, ap}
use Rattle.std.specs.Prelude.{All, Ok, pos, nat_lt, slice_index_or}
use Rattle.std.proofs.lemmas.List.Elements.{All-nil, All-cons}
use Rattle.std.proofs.Math.Bool.{xor}
use Rattle.rohc_bits.specs.Bits.{IsOctet}
use Rattle.rohc_checks.specs.Division.{check, number, remainder, divided, add_front, bits, poly3}
use Rattle.rohc_checks.specs.Sum.{header_sum, words}
use Rattle.rohc_frame.specs.declared.header.CidKind.TheVariants.{Small}
use Rattle.rohc_frame.specs.Laws.{IsGood}
use Rattle.rohc_header.specs.declared.fields.Dynamic.{Dynamic}
use Rattle.rohc_header.specs.Check.{header_check, static_octets, dynamic_octets}
use Rattle.rohc_header.specs.Original.{IsOriginal}
use Rattle.rohc_chain.specs.Good.{IsAddress, IsGoodStatic, IsGoodDynamic}
use Rattle.rohc_forms.specs.Content.{Content}
use Rattle.rohc_forms.specs.Packets.{form_at, head_at, base_at, extension_at}
use Rattle.rohc_forms.specs.Octets.{word_if}
use Rattle.rohc_context.specs.declared.settings.Mode.TheVariants.{U}
use Rattle.rohc_context.specs.declared.settings.Settings.{Settings}
use Rattle.rohc_context.specs.Explains.{Means}
use Rattle.rohc_context.specs.Good.{IsGoodRecord, IsGoodHeader}
use Rattle.rohc_context.specs.Honest.{Held, held_by, HoldsInFull, Written, IsHonestPacket}
use Rattle.rohc_context.specs.Record.{Reference, FullContext, Record}
use Rattle.rohc_context.specs.Settings.{AreGood}
use Rattle.rohc_context.specs.Update.{said_under}
use Rattle.rohc_context.proofs.WrittenExample.{call, packet, is_written}

-- ---- The packets

-- the fields with this SN, which the Identification follows, and with the timestamp that follows it by the stride
abbrev moving : ℕ → Dynamic
moving sn = record call.reference.moving { sn = sn; id = sn; ts = 160 * sn }

-- the header with this SN, the low octet of its IPv4 checksum, and the low octets of its timestamp
abbrev octets : (sn sum high low : ℕ) → List ℕ
octets sn sum high low =
    69 ∷ 0 ∷ 0 ∷ 41 ∷ 0 ∷ sn ∷ 0 ∷ 0 ∷ 64 ∷ 17 ∷ 102 ∷ sum ∷ 10 ∷ 0 ∷ 0 ∷ 1 ∷ 10 ∷ 0 ∷ 0 ∷ 2
    ∷ 19 ∷ 136 ∷ 19 ∷ 138 ∷ 0 ∷ 21 ∷ 0 ∷ 0 ∷ 128 ∷ 0 ∷ 0 ∷ sn ∷ 0 ∷ 0 ∷ high ∷ low ∷ 0 ∷ 0 ∷ 0 ∷ 1 ∷ []

abbrev content : (sn check : ℕ) → Content
content sn check = record packet.content { sn = record { count = 4; value = sn }; check = check }

abbrev uo_0 : (first sn check : ℕ) → List ℕ → Written
uo_0 first sn check header = record {
  packet = record packet.packet { first = first };
  content = content sn check;
  header = record { moving = moving sn; octets = header };
}

-- The UO-0s 10 ac, 1c ac and 20 ac. Their checks are 0, 4 and 0.
abbrev sn_2 : Written
sn_2 = packet

abbrev sn_3 : Written
sn_3 = uo_0 28 3 4 (octets 3 191 1 224)

abbrev sn_4 : Written
sn_4 = uo_0 32 4 0 (octets 4 190 2 128)

-- what is held after each
abbrev after_2 : Held
after_2 = held_by call sn_2.header

abbrev after_3 : Held
after_3 = held_by call sn_3.header

-- ---- What they mean

short : 1 ≤ 65495
short = omega (arith)

is_octets : All IsOctet (172 ∷ [])
is_octets = All-cons IsOctet 172 [] (omega (arith)) (All-nil IsOctet)

original_3 : IsOriginal call.fixed (moving 3) 1 sn_3.header.octets
unfolding header_sum words
original_3 = record { checksum = 26303; fits = short; forty = refl; summed = refl; whole = refl }

original_4 : IsOriginal call.fixed (moving 4) 1 sn_4.header.octets
unfolding header_sum words
original_4 = record { checksum = 26302; fits = short; forty = refl; summed = refl; whole = refl }

checked_3 : header_check poly3 sn_3.header.octets ≡ 4
unfolding check number remainder divided add_front bits poly3 static_octets dynamic_octets xor
checked_3 = refl

checked_4 : header_check poly3 sn_4.header.octets ≡ 0
unfolding check number remainder divided add_front bits poly3 static_octets dynamic_octets xor
checked_4 = refl

-- what they say under the references of the call, whose RND, stride and presence of a UDP checksum are the same
said_3 : said_under sn_3.packet call.reference ≡ Ok sn_3.content
unfolding form_at head_at base_at extension_at word_if
said_3 = refl

said_4 : said_under sn_4.packet call.reference ≡ Ok sn_4.content
unfolding form_at head_at base_at extension_at word_if
said_4 = refl

-- one step after a reference, two steps after it, and three
means_3_after_2 : Means after_2.reference 0 sn_3.content (moving 3)
means_3_after_2 = record {
  steps = pos 1;
  sn = (record { least = omega (arith); greatest = omega (arith); low = refl }, refl);
  ts = refl;
  id = (omega (arith), refl);
  whole = refl;
}

means_3 : Means call.reference 0 sn_3.content (moving 3)
means_3 = record {
  steps = pos 2;
  sn = (record { least = omega (arith); greatest = omega (arith); low = refl }, refl);
  ts = refl;
  id = (omega (arith), refl);
  whole = refl;
}

means_4_after_3 : Means after_3.reference 0 sn_4.content (moving 4)
means_4_after_3 = record {
  steps = pos 1;
  sn = (record { least = omega (arith); greatest = omega (arith); low = refl }, refl);
  ts = refl;
  id = (omega (arith), refl);
  whole = refl;
}

means_4_after_2 : Means after_2.reference 0 sn_4.content (moving 4)
means_4_after_2 = record {
  steps = pos 2;
  sn = (record { least = omega (arith); greatest = omega (arith); low = refl }, refl);
  ts = refl;
  id = (omega (arith), refl);
  whole = refl;
}

means_4 : Means call.reference 0 sn_4.content (moving 4)
means_4 = record {
  steps = pos 3;
  sn = (record { least = omega (arith); greatest = omega (arith); low = refl }, refl);
  ts = refl;
  id = (omega (arith), refl);
  whole = refl;
}

-- ---- They are written

written_3 : (reference : Reference) → said_under sn_3.packet reference ≡ Ok sn_3.content → Means reference 0 sn_3.content (moving 3)
    → IsHonestPacket (record { fixed = call.fixed; reference = reference }) sn_3
written_3 reference said means = record {
  kind = refl;
  octets = is_octets;
  said = said;
  no_values = refl;
  few = short;
  fits = record { explained = record { fields = means; octets = original_3 }; checked = checked_3 };
}

written_4 : (reference : Reference) → said_under sn_4.packet reference ≡ Ok sn_4.content → Means reference 0 sn_4.content (moving 4)
    → IsHonestPacket (record { fixed = call.fixed; reference = reference }) sn_4
written_4 reference said means = record {
  kind = refl;
  octets = is_octets;
  said = said;
  no_values = refl;
  few = short;
  fits = record { explained = record { fields = means; octets = original_4 }; checked = checked_4 };
}

-- each of these packets is written for every reference before it
abbrev written_for : Written → Held → Type 0
written_for p held = IsHonestPacket held p

all_written_3 : All (written_for sn_3) (call ∷ after_2 ∷ [])
all_written_3 = All-cons (written_for sn_3) call (after_2 ∷ []) (written_3 call.reference said_3 means_3)
    (All-cons (written_for sn_3) after_2 [] (written_3 after_2.reference said_3 means_3_after_2) (All-nil (written_for sn_3)))

all_written_4 : All (written_for sn_4) (call ∷ after_2 ∷ after_3 ∷ [])
all_written_4 = All-cons (written_for sn_4) call (after_2 ∷ after_3 ∷ []) (written_4 call.reference said_4 means_4)
    (All-cons (written_for sn_4) after_2 (after_3 ∷ []) (written_4 after_2.reference said_4 means_4_after_2)
    (All-cons (written_for sn_4) after_3 [] (written_4 after_3.reference said_4 means_4_after_3) (All-nil (written_for sn_4))))

-- ---- The record that holds the call

abbrev settings : Settings
settings = record {
  size = Small;
  max_cid = 15;
  mode = U;
  k1 = 2;
  n1 = 3;
  k2 = 2;
  n2 = 3;
  packet_ms = 20;
  static_nack_ms = 1000;
  idle_ms = 0;
}

abbrev before : Record
before = record { accepted = 0; state = FullContext call.fixed call.reference None [] }

is_address : (last : ℕ) → last < 256 → IsAddress (10 ∷ 0 ∷ 0 ∷ last ∷ [])
is_address last fits = record {
  four = refl;
  each =
      All-cons IsOctet 10 (0 ∷ 0 ∷ last ∷ []) (omega (arith))
      (All-cons IsOctet 0 (0 ∷ last ∷ []) (omega (arith))
      (All-cons IsOctet 0 (last ∷ []) (omega (arith)) (All-cons IsOctet last [] fits (All-nil IsOctet))));
}

is_good_static : IsGoodStatic call.fixed
is_good_static = record {
  source = is_address 1 (omega (arith));
  destination = is_address 2 (omega (arith));
  source_port = omega (arith);
  destination_port = omega (arith);
  ssrc = omega (arith);
}

is_good_dynamic : IsGoodDynamic call.reference.moving
is_good_dynamic = record {
  tos = omega (arith);
  ttl = omega (arith);
  id = omega (arith);
  udp_sum = omega (arith);
  payload_type = omega (arith);
  sn = omega (arith);
  ts = omega (arith);
  stride = (omega (arith), omega (arith));
}

is_good_record : IsGoodRecord before
is_good_record = record {
  accepted = omega (arith);
  state = (is_good_static, record { moving = is_good_dynamic; unmarked = refl }, tt, omega (arith));
}

are_good : AreGood settings
are_good = record {
  max_cid = omega (arith);
  k1 = (omega (arith), omega (arith), omega (arith));
  k2 = (omega (arith), omega (arith), omega (arith));
  packet_ms = (omega (arith), omega (arith));
  static_nack_ms = omega (arith);
  idle_ms = omega (arith);
}

-- the header of a UO-0 of CID 0 on a link of small CIDs
is_good_header : (first : ℕ) → first < 256 → nat_lt first 0xe0 ≡ true → IsGood Small 15 (record packet.packet { first = first })
is_good_header first fits other = record {
  sized = refl;
  within = omega (arith);
  spelled = other;
  first = fits;
  cid_octets = All-nil IsOctet;
  rest = is_octets;
}

-- ---- All together

-- A good record holds the first reference. Each of three packets with good headers is written for every reference before it,
-- and no two have the same header.
pub record IsWrittenCall (s : Settings) (before : Record) (first : Held) (p q r : Written) : Type 0 where
  pub good_settings : AreGood s
  pub never_idle : s.idle_ms ≡ 0
  pub good_record : IsGoodRecord before
  pub held : HoldsInFull first before
  pub good_headers : All (λ (w : Written). IsGoodHeader s w.packet) (p ∷ q ∷ r ∷ [])
  pub p_written : IsHonestPacket first p
  pub q_written : All (λ (held : Held). IsHonestPacket held q) (first ∷ held_by first p.header ∷ [])
  pub r_written : All (λ (held : Held). IsHonestPacket held r) (first ∷ held_by first p.header ∷ held_by first q.header ∷ [])
  pub apart : (p.header.octets ≢ q.header.octets) × (p.header.octets ≢ r.header.octets) × (q.header.octets ≢ r.header.octets)

-- the low octet of the sequence number
abbrev sn_of : List ℕ → ℕ
sn_of header = slice_index_or header 31 0

apart : (v w : Written) → sn_of v.header.octets ≢ sn_of w.header.octets → v.header.octets ≢ w.header.octets
apart v w differ e = differ (ap sn_of e)

are_good_headers : All (λ (w : Written). IsGoodHeader settings w.packet) (sn_2 ∷ sn_3 ∷ sn_4 ∷ [])
are_good_headers =
    All-cons (λ (w : Written). IsGoodHeader settings w.packet) sn_2 (sn_3 ∷ sn_4 ∷ []) (is_good_header 16 (omega (arith)) refl)
    (All-cons (λ (w : Written). IsGoodHeader settings w.packet) sn_3 (sn_4 ∷ []) (is_good_header 28 (omega (arith)) refl)
    (All-cons (λ (w : Written). IsGoodHeader settings w.packet) sn_4 [] (is_good_header 32 (omega (arith)) refl) (All-nil (λ (w : Written). IsGoodHeader settings w.packet))))

pub has_written_call : (s : Settings) × (before : Record) × (first : Held) × (p : Written) × (q : Written) × (r : Written)
    × IsWrittenCall s before first p q r
has_written_call = (
  settings,
  before,
  call,
  sn_2,
  sn_3,
  sn_4,
  record {
    good_settings = are_good;
    never_idle = refl;
    good_record = is_good_record;
    held = (None, [], refl);
    good_headers = are_good_headers;
    p_written = is_written;
    q_written = all_written_3;
    r_written = all_written_4;
    apart = (apart sn_2 sn_3 (omega (arith)), apart sn_2 sn_4 (omega (arith)), apart sn_3 sn_4 (omega (arith)));
  },
)
