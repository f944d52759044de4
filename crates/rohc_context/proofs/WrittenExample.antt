-- A packet of a call, written for its header.
use Rattle.std.proofs.Common.{arith, ◌≤◌, ◌≡◌, ℕ, [], ◌∷◌, true, false, Some, None, refl}
use Rattle.std.specs.Prelude.{Ok, pos}
use Rattle.std.proofs.lemmas.List.Elements.{All-nil, All-cons}
use Rattle.std.proofs.Math.Bool.{xor}
use Rattle.rohc_bits.specs.Bits.{IsOctet}
use Rattle.rohc_checks.specs.Division.{check, number, remainder, divided, add_front, bits, poly3}
use Rattle.rohc_checks.specs.Sum.{header_sum, words}
use Rattle.rohc_header.specs.Check.{header_check, static_octets, dynamic_octets}
use Rattle.rohc_lsb.specs.Interval.{LiesInInterval, p_of_sn}
use Rattle.rohc_forms.specs.Packets.{form_at, head_at, base_at, extension_at}
use Rattle.rohc_forms.specs.Octets.{word_if}
use Rattle.rohc_frame.specs.declared.header.CidKind.TheVariants.{Small}
use Rattle.rohc_frame.specs.declared.header.HeadKind.TheVariants.{Other}
use Rattle.rohc_header.specs.declared.fields.Static.{Static}
use Rattle.rohc_header.specs.declared.fields.Dynamic.{Dynamic}
use Rattle.rohc_forms.specs.declared.form.FormKind.TheVariants.{Uo0}
use Rattle.rohc_forms.specs.Content.{Content, Same}
use Rattle.rohc_context.specs.Explains.{Means, Explains}
use Rattle.rohc_context.specs.Tries.{Fits, unshifted}
use Rattle.rohc_context.specs.Update.{said_under}
use Rattle.rohc_context.specs.Honest.{Held, Written, IsHonestPacket}

-- from 10.0.0.1, port 5000, to 10.0.0.2, port 5002
abbrev fixed : Static
fixed = record {
  source = 10 ∷ 0 ∷ 0 ∷ 1 ∷ [];
  destination = 10 ∷ 0 ∷ 0 ∷ 2 ∷ [];
  source_port = 5000;
  destination_port = 5002;
  ssrc = 1;
}

-- the fields of a header with this SN, which the Identification follows, and this timestamp
abbrev moving : ℕ → ℕ → Dynamic
moving sn ts = record {
  tos = 0;
  ttl = 64;
  id = sn;
  df = false;
  rnd = false;
  nbo = true;
  udp_sum = 0;
  padding = false;
  extension = false;
  marker = false;
  payload_type = 0;
  sn = sn;
  ts = ts;
  stride = Some 160;
}

abbrev pub call : Held
call = record { fixed = fixed; reference = record { moving = moving 1 160; carries_sum = false } }

abbrev content : Content
content = record {
  kind = Uo0;
  rnd = false;
  sn = record { count = 4; value = 2 };
  ts = None;
  tsc = None;
  id = Same;
  udp_sum = None;
  marker = false;
  values = None;
  check = 0;
  payload = 172 ∷ [];
}

-- the UO-0 10 ac, and the header that it is written for
abbrev pub packet : Written
packet = record {
  packet = record { cid = 0; size = Small; kind = Other; first = 16; cid_octets = []; rest = 172 ∷ [] };
  content = content;
  header = record {
    moving = moving 2 320;
    octets = 69 ∷ 0 ∷ 0 ∷ 41 ∷ 0 ∷ 2 ∷ 0 ∷ 0 ∷ 64 ∷ 17 ∷ 102 ∷ 192 ∷ 10 ∷ 0 ∷ 0 ∷ 1 ∷ 10 ∷ 0 ∷ 0 ∷ 2
        ∷ 19 ∷ 136 ∷ 19 ∷ 138 ∷ 0 ∷ 21 ∷ 0 ∷ 0 ∷ 128 ∷ 0 ∷ 0 ∷ 2 ∷ 0 ∷ 0 ∷ 1 ∷ 64 ∷ 0 ∷ 0 ∷ 0 ∷ 1 ∷ [];
  };
}

said : said_under packet.packet call.reference ≡ Ok content
unfolding form_at head_at base_at extension_at word_if
said = refl

-- SN 2 by the bits 2 of four, one step on
in_interval : LiesInInterval (pos 1) (record { count = 4; value = 2 }) (p_of_sn 4) (pos 2)
in_interval = record { least = omega (arith); greatest = omega (arith); low = refl }

means : Means call.reference 0 content (moving 2 320)
means = record { steps = pos 1; sn = (in_interval, refl); ts = refl; id = (omega (arith), refl); whole = refl }

short : 1 ≤ 65495
short = omega (arith)

explains : Explains fixed call.reference 0 content packet.header
unfolding header_sum words
explains = record { fields = means; octets = record { checksum = 26304; fits = short; forty = refl; summed = refl; whole = refl } }

checked : header_check poly3 packet.header.octets ≡ 0
unfolding check number remainder divided add_front bits poly3 static_octets dynamic_octets xor
checked = refl

fits : Fits fixed (unshifted call.reference) content packet.header
fits = record { explained = explains; checked = checked }

pub is_written : IsHonestPacket call packet
is_written = record {
  kind = refl;
  octets = All-cons IsOctet 172 [] (omega (arith)) (All-nil IsOctet);
  said = said;
  no_values = refl;
  few = short;
  fits = fits;
}
