-- What a text spells is read from it.
use Rattle.std.proofs.Common.{◌≡◌, ℕ, ◌+◌, ◌*◌, ◌/◌, ◌%◌, ◌≤◌, Bool, true, false, List, [], ◌∷◌, ◌++◌, length, Option, Some, None, Ok, refl, ap, ◌∙◌, append_assoc, arith}
use Rattle.std.specs.Prelude.{◌==◌}
use Rattle.std.proofs.lemmas.Bool.Decides.{nat_tests}
use Rattle.rohc_bits.specs.Reading.{bit, next_octet, next_word}
use Rattle.rohc_header.specs.declared.fields.Static.{Static}
use Rattle.rohc_header.specs.declared.fields.Dynamic.{Dynamic}
use Rattle.rohc_chain.specs.declared.parts.Kept.{Kept}
use Rattle.rohc_chain.specs.declared.parts.IpDynamic.{IpDynamic}
use Rattle.rohc_chain.specs.declared.parts.RtpDynamic.{RtpDynamic}
use Rattle.rohc_chain.specs.Octets.{read, word_at, four_octets_at, quad_at}
use Rattle.rohc_chain.specs.Chains.{ip_static_at, static_at, ip_dynamic_at, stride_at, behind_time_stride, flags_at, rtp_dynamic_at, dynamic_at}
use Rattle.rohc_header.specs.Original.{word, quad, flag}
use Rattle.rohc_chain.specs.ChainText.{SpellsIpStatic, SpellsStatic, SpellsIpDynamic, SpellsStride, SpellsTimeStride, SpellsFlags, SpellsGiven, SpellsRtpDynamic, SpellsDynamic}
use Rattle.rohc_chain.proofs.Values.{value_read}
use Rattle.rohc_chain.proofs.BitLemmas.{IpFlags, ip_flags, RtpFirst, rtp_first, RtpSecond, rtp_second, GivenFlags, given_flags}

word_read : (n : ℕ) (rest : List ℕ) → word_at (word n ++ rest) ≡ Ok (n, rest)
unfolding next_octet next_word
word_read n rest = let is : n / 256 * 256 + n % 256 ≡ n = omega arith in ap (λ (m : ℕ). Ok (m, rest)) is

quad_read : (n : ℕ) (rest : List ℕ) → read quad_at (quad n ++ rest) ≡ Ok (n, rest)
unfolding quad_at
quad_read n rest =
    let is : n / 65536 * 65536 + n % 65536 ≡ n = omega arith in
    rw (word_read (n / 65536) (word (n % 65536) ++ rest), word_read (n % 65536) rest) (ap (λ (m : ℕ). Ok (m, rest)) is)

four_read : (octets rest : List ℕ) → length octets ≡ 4 → read four_octets_at (octets ++ rest) ≡ Ok (octets, rest)
unfolding next_octet four_octets_at
four_read [] rest l = absurd (omega arith)
four_read (a ∷ []) rest l = absurd (omega arith)
four_read (a ∷ b ∷ []) rest l = absurd (omega arith)
four_read (a ∷ b ∷ c ∷ []) rest l = absurd (omega arith)
four_read (a ∷ b ∷ c ∷ d ∷ []) rest l = refl
four_read (a ∷ b ∷ c ∷ d ∷ e ∷ octets) rest l = absurd (omega arith)

ip_static_read : (source destination text rest : List ℕ) → SpellsIpStatic source destination text → read ip_static_at (text ++ rest) ≡ Ok ((source, destination), rest)
unfolding next_octet ip_static_at
ip_static_read source destination text rest is =
    let four : ((64 + is.ignored) / 16 == 4) ≡ true = let low = is.four_bits in grind (arith, nat_tests) in
    let parts : source ++ destination ++ rest ≡ source ++ (destination ++ rest) = append_assoc source destination rest in
    ap (λ (t : List ℕ). read ip_static_at (t ++ rest)) is.whole
    ∙ rw (four, parts, four_read source (destination ++ rest) is.four_octets, four_read destination rest is.also_four) refl

pub static_read : (fixed : Static) (text rest : List ℕ) → SpellsStatic fixed text → read static_at (text ++ rest) ≡ Ok (fixed, rest)
unfolding static_at
static_read fixed text rest is =
    let ports : List ℕ = word fixed.destination_port ++ quad fixed.ssrc in
    let parts : (is.ip ++ (word fixed.source_port ++ ports)) ++ rest ≡ is.ip ++ ((word fixed.source_port ++ ports) ++ rest) = append_assoc is.ip (word fixed.source_port ++ ports) rest in
    ap (λ (t : List ℕ). read static_at (t ++ rest)) is.whole
    ∙ ap (read static_at) parts
    ∙ rw (ip_static_read fixed.source fixed.destination is.ip ((word fixed.source_port ++ ports) ++ rest) is.spells_ip, word_read fixed.source_port (ports ++ rest), word_read fixed.destination_port (quad fixed.ssrc ++ rest), quad_read fixed.ssrc rest) refl

-- what the dynamic chain of IPv4 says of all that moves
abbrev pub ip_part : Dynamic → IpDynamic
ip_part moving = record { tos = moving.tos; ttl = moving.ttl; id = moving.id; df = moving.df; rnd = moving.rnd; nbo = moving.nbo }

ip_dynamic_read : (moving : Dynamic) (text rest : List ℕ) → SpellsIpDynamic moving text → read ip_dynamic_at (text ++ rest) ≡ Ok (ip_part moving, rest)
unfolding next_octet ip_dynamic_at
ip_dynamic_read moving text rest is =
    let flags : ℕ = flag moving.df 128 + flag moving.rnd 64 + flag moving.nbo 32 + is.ignored in
    let found : IpFlags flags moving.df moving.rnd moving.nbo = ip_flags moving.df moving.rnd moving.nbo is.ignored is.five_bits in
    ap (λ (t : List ℕ). read ip_dynamic_at (t ++ rest)) is.whole
    ∙ rw (word_read moving.id (flags ∷ 0 ∷ rest), found.is_df, found.is_rnd, found.is_nbo) refl

not_zero : (stride : ℕ) → 1 ≤ stride → (stride == 0) ≡ false
not_zero stride l = grind (arith, nat_tests)

stride_read : (tss : Bool) (kept stride : Option ℕ) (flags : ℕ) (text rest : List ℕ) → bit 0 flags ≡ tss → SpellsStride tss kept stride text → read (stride_at kept flags) (text ++ rest) ≡ Ok (stride, rest)
unfolding stride_at
stride_read false kept stride flags text rest e is = rw (e, is.0, is.1) refl
stride_read true kept None flags text rest e is = absurd is
stride_read true kept (Some stride) flags text rest e is = rw (e, value_read text rest stride is.0, not_zero stride is.1) refl

time_read : (tis : Bool) (flags : ℕ) (text rest : List ℕ) → bit 1 flags ≡ tis → SpellsTimeStride tis text → read (behind_time_stride flags) (text ++ rest) ≡ Ok (tt, rest)
unfolding behind_time_stride
time_read false flags text rest e is = rw (e, is) refl
time_read true flags text rest e is = rw (e, value_read text rest is.0 is.1) refl

flags_read : (kept : Kept) (extension : Bool) (stride : Option ℕ) (text rest : List ℕ) → SpellsFlags kept.stride extension stride text →
    read (flags_at kept true) (text ++ rest) ≡ Ok (record { extension = extension; stride = stride }, rest)
unfolding next_octet flags_at
flags_read kept extension stride text rest is =
    let flags : ℕ = 32 * is.ignored + flag extension 16 + 4 * is.mode + flag is.tis 2 + flag is.tss 1 in
    let low = is.not_reliable in
    let found : GivenFlags flags extension is.mode is.tis is.tss = given_flags extension is.tis is.tss is.ignored is.mode (omega arith) in
    let mode : (is.mode == 3) ≡ false = grind (arith, nat_tests) in
    let parts : is.stride_text ++ is.time_text ++ rest ≡ is.stride_text ++ (is.time_text ++ rest) = append_assoc is.stride_text is.time_text rest in
    ap (λ (t : List ℕ). read (flags_at kept true) (t ++ rest)) is.whole
    ∙ rw (found.is_mode, mode, parts, stride_read is.tss kept.stride stride flags is.stride_text (is.time_text ++ rest) found.is_tss is.spells_stride, time_read is.tis flags is.time_text rest found.is_tis is.spells_time, found.is_extension) refl

given_read : (rx : Bool) (kept : Kept) (extension : Bool) (stride : Option ℕ) (text rest : List ℕ) → SpellsGiven rx kept extension stride text →
    read (flags_at kept rx) (text ++ rest) ≡ Ok (record { extension = extension; stride = stride }, rest)
unfolding flags_at
given_read true kept extension stride text rest is = flags_read kept extension stride text rest is
given_read false kept extension stride text rest is = rw (is.0, is.1, is.2) refl

-- what the dynamic chain of RTP says of all that moves
abbrev pub rtp_part : Dynamic → RtpDynamic
rtp_part moving = record { padding = moving.padding; extension = moving.extension; marker = moving.marker; payload_type = moving.payload_type; sn = moving.sn; ts = moving.ts; stride = moving.stride }

rtp_dynamic_read : (kept : Kept) (moving : Dynamic) (text rest : List ℕ) → SpellsRtpDynamic kept moving text → read (rtp_dynamic_at kept) (text ++ rest) ≡ Ok (rtp_part moving, rest)
unfolding next_octet rtp_dynamic_at
rtp_dynamic_read kept moving text rest is =
    let first : RtpFirst (128 + flag moving.padding 32 + flag is.rx 16) moving.padding is.rx = rtp_first moving.padding is.rx in
    let second : RtpSecond (flag moving.marker 128 + moving.payload_type) moving.marker moving.payload_type = rtp_second moving.marker moving.payload_type is.seven_bits in
    let behind_sn : List ℕ = quad moving.ts ++ 0 ∷ is.given in
    ap (λ (t : List ℕ). read (rtp_dynamic_at kept) (t ++ rest)) is.whole
    ∙ rw (first.version, first.sources, word_read moving.sn (behind_sn ++ rest), quad_read moving.ts (0 ∷ is.given ++ rest), first.is_rx, given_read is.rx kept moving.extension moving.stride is.given rest is.spells_given, first.is_padding, second.is_marker, second.is_payload_type) refl

pub dynamic_read : (kept : Kept) (moving : Dynamic) (text rest : List ℕ) → SpellsDynamic kept moving text → read (dynamic_at kept) (text ++ rest) ≡ Ok (moving, rest)
unfolding dynamic_at
dynamic_read kept moving text rest is =
    let parts : (is.ip ++ (word moving.udp_sum ++ is.rtp)) ++ rest ≡ is.ip ++ ((word moving.udp_sum ++ is.rtp) ++ rest) = append_assoc is.ip (word moving.udp_sum ++ is.rtp) rest in
    ap (λ (t : List ℕ). read (dynamic_at kept) (t ++ rest)) is.whole
    ∙ ap (read (dynamic_at kept)) parts
    ∙ rw (ip_dynamic_read moving is.ip ((word moving.udp_sum ++ is.rtp) ++ rest) is.spells_ip, word_read moving.udp_sum (is.rtp ++ rest), rtp_dynamic_read kept moving is.rtp rest is.spells_rtp) refl
