-- What a chain's pieces say of octets is spelled by these.
use Rattle.std.proofs.Common.{◌≡◌, ℕ, ◌+◌, ◌*◌, ◌/◌, ◌%◌, ◌<◌, ◌≤◌, Bool, true, false, List, [], ◌∷◌, ◌++◌, length, Option, Some, None, Ok, refl, sym, ap, subst, ◌∙◌, arith}
use Rattle.std.specs.Prelude.{◌==◌, All, if◌then◌else◌}
use Rattle.std.proofs.lemmas.Bool.Decides.{nat_tests}
use Rattle.std.proofs.lemmas.Bool.{eqb-true}
use Rattle.std.proofs.lemmas.List.Elements.{All-head, All-tail}
use Rattle.rohc_bits.specs.Reading.{bit}
use Rattle.rohc_bits.specs.Spelling.{IsSpelled}
use Rattle.rohc_bits.specs.Grammar.{Word, As, Judged, Called, SaidBy}
use Rattle.std.proofs.lemmas.List.{append-nil}
use Rattle.rohc_bits.proofs.Holds.{all_left, all_right}
use Rattle.rohc_bits.proofs.GrammarLemmas.{found}
use Rattle.rohc_bits.specs.Spelling.{Spells}
use Rattle.rohc_header.specs.declared.fields.Static.{Static}
use Rattle.rohc_header.specs.declared.fields.Dynamic.{Dynamic}
use Rattle.rohc_chain.specs.declared.parts.Kept.{Kept}
use Rattle.rohc_chain.specs.declared.parts.IpDynamic.{IpDynamic}
use Rattle.rohc_chain.specs.declared.parts.RtpDynamic.{RtpDynamic}
use Rattle.rohc_chain.specs.declared.refusal.ChainRefusal.{ChainRefusal}
use Rattle.rohc_chain.specs.declared.refusal.ChainRefusal.TheVariants.{Truncated, IpVersion, Protocol, ExtensionList, RtpVersion, Csrc, ZeroStride, ReliableMode}
use Rattle.rohc_chain.specs.Octets.{Name, TsStride, TimeStride, ChainPiece, read, four_octets_at, quad_at, value_at}
use Rattle.rohc_chain.specs.Faults.{unless, stride_fault}
use Rattle.rohc_chain.specs.Chains.{ip_static_at, static_at, ip_dynamic_at, stride_at, behind_time_stride, flags_at, rtp_dynamic_at, joined, dynamic_at}
use Rattle.rohc_header.specs.Original.{word, quad, flag}
use Rattle.rohc_chain.specs.ChainText.{SpellsIpStatic, SpellsStatic, SpellsIpDynamic, SpellsStride, SpellsTimeStride, SpellsGiven, SpellsRtpDynamic, SpellsDynamic}
use Rattle.rohc_chain.proofs.Values.{IsOctet}
use Rattle.rohc_chain.proofs.BitLemmas.{ip_octet, rtp_first_octet, rtp_second_octet, given_octet}

-- The text begins with this spelling, and these octets follow it.
pub record Found (text spelling rest : List ℕ) : Type 0 where
  pub whole : text ≡ spelling ++ rest
  pub octets : All IsOctet rest

pub one_found : (text : List ℕ) (octet : ℕ) (rest : List ℕ) → All IsOctet text → text ≡ octet ∷ rest → Found text (octet ∷ []) rest × (octet < 256)
one_found text octet rest all e =
    let cells = rw e at all in
    (record { whole = e; octets = All-tail IsOctet octet rest cells }, All-head IsOctet octet rest cells)

word_of : (high low : ℕ) → low < 256 → word (high * 256 + low) ≡ high ∷ low ∷ []
word_of high low l =
    let h : (high * 256 + low) / 256 ≡ high = omega arith in
    let m : (high * 256 + low) % 256 ≡ low = omega arith in
    rw (h, m) refl

-- what octets say as numbers, and as four octets
word_said : (n : ℕ) (t : List ℕ) → All IsOctet t → SaidBy {N = Name} {E = ChainRefusal} Word n t → (t ≡ word n) × (n < 65536)
word_said n t all (high, low, e, is) =
    let cells = rw e at all in
    let h : high < 256 = All-head IsOctet high (low ∷ []) cells in
    let l : low < 256 = All-head IsOctet low [] (All-tail IsOctet high (low ∷ []) cells) in
    (e ∙ sym (ap word is ∙ word_of high low l), omega (arith, is))

quad_of : (high low : ℕ) → low < 65536 → quad (high * 65536 + low) ≡ word high ++ word low
quad_of high low l =
    let h : (high * 65536 + low) / 65536 ≡ high = omega arith in
    let m : (high * 65536 + low) % 65536 ≡ low = omega arith in
    ap (λ (n : ℕ). word n ++ word ((high * 65536 + low) % 65536)) h ∙ ap (λ (n : ℕ). word high ++ word n) m

quad_said : (n : ℕ) (t : List ℕ) → All IsOctet t → SaidBy quad_at n t → t ≡ quad n
unfolding quad_at
quad_said n t all (high, f, b, e, is_high, (low, g, c, d, is_low, (end, made))) =
    let whole = rw e at all in
    let behind = rw d at (all_right f b whole) in
    let h = word_said high f (all_left f b whole) is_high in
    let l = word_said low g (all_left g c behind) is_low in
    rw (e, d, h.0, l.0, end, made, append-nil (word low)) (sym (quad_of high low l.1))

four_said : (x t : List ℕ) → SaidBy four_octets_at x t → (t ≡ x) × (length x ≡ 4)
unfolding four_octets_at
four_said x t (a, f, b, e, is_a, (c, g, d, h, is_c, (i, j, k, l, is_i, (m, n, o, p, is_m, (end, made))))) =
    rw (e, is_a, h, is_c, l, is_i, p, is_m, end, made) (refl, refl)

-- the test holds
pub unless_none : (holds : Bool) (refusal : ChainRefusal) → unless holds refusal ≡ None → holds ≡ true
unless_none true refusal e = refl
unless_none false refusal e = cc

ip_static_said : (x : List ℕ × List ℕ) (t : List ℕ) → SaidBy ip_static_at x t → SpellsIpStatic x.0 x.1 t
unfolding ip_static_at
ip_static_said x t (version, a, b, e, (is_version, version_fine), (protocol, c, d, f, (is_protocol, protocol_fine), (source, g, h, i, is_source, (destination, j, k, l, is_destination, (end, made))))) =
    let four = four_said source g is_source in
    let also_four = four_said destination j is_destination in
    let is_4 : version / 16 ≡ 4 = eqb-true _ _ (unless_none (version / 16 == 4) IpVersion version_fine) in
    let is_17 : protocol ≡ 17 = eqb-true _ _ (unless_none (protocol == 17) Protocol protocol_fine) in
    let octet : version ≡ 64 + version % 16 = omega arith in
    let whole : t ≡ version ∷ protocol ∷ source ++ destination = rw (e, is_version, f, is_protocol, i, four.0, l, also_four.0, end, append-nil destination) refl in
    rw made (record {
      ignored = version % 16;
      four_bits = omega arith;
      four_octets = four.1;
      also_four = also_four.1;
      whole = whole ∙ ap (λ (v : ℕ). v ∷ protocol ∷ source ++ destination) octet ∙ ap (λ (p : ℕ). (64 + version % 16) ∷ p ∷ source ++ destination) is_17;
    })

static_said : (x : Static) (t : List ℕ) → All IsOctet t → SaidBy static_at x t → SpellsStatic x t
unfolding static_at
static_said x t all (addresses, a, b, e, is_addresses, (from, c, d, f, is_from, (to, g, h, i, is_to, (ssrc, j, k, l, is_ssrc, (end, made))))) =
    let behind_ip = rw f at (all_right a b (rw e at all)) in
    let behind_from = rw i at (all_right c d behind_ip) in
    let behind_to = rw l at (all_right g h behind_from) in
    let source = word_said from c (all_left c d behind_ip) is_from in
    let destination = word_said to g (all_left g h behind_from) is_to in
    let source_id = quad_said ssrc j (all_left j k behind_to) is_ssrc in
    rw made (record {
      ip = a;
      spells_ip = ip_static_said addresses a is_addresses;
      whole = rw (e, f, source.0, i, destination.0, l, source_id, end, append-nil (quad ssrc)) refl;
    })

ip_dynamic_said : (x : IpDynamic) (t : List ℕ) → All IsOctet t → SaidBy ip_dynamic_at x t → (udp_sum : ℕ) (rtp : RtpDynamic) → SpellsIpDynamic (joined x udp_sum rtp) t
unfolding ip_dynamic_at
ip_dynamic_said x t all (tos, a, b, e, is_tos, (ttl, c, d, f, is_ttl, (id, g, h, i, is_id, (flags, j, k, l, is_flags, (list, m, n, o, (is_list, list_fine), (end, made)))))) udp_sum rtp =
    let behind_tos = rw f at (all_right a b (rw e at all)) in
    let behind_ttl = rw i at (all_right c d behind_tos) in
    let behind_id = rw l at (all_right g h behind_ttl) in
    let number = word_said id g (all_left g h behind_ttl) is_id in
    let small : flags < 256 = All-head IsOctet flags [] (rw is_flags at (all_left j k behind_id)) in
    let empty : list ≡ 0 = eqb-true _ _ (unless_none (list == 0) ExtensionList list_fine) in
    let whole : t ≡ tos ∷ ttl ∷ word id ++ flags ∷ list ∷ [] = rw (e, is_tos, f, is_ttl, i, number.0, l, is_flags, o, is_list, end) refl in
    rw made (record {
      ignored = flags % 32;
      five_bits = omega arith;
      whole = whole ∙ ap (λ (f : ℕ). tos ∷ ttl ∷ word id ++ f ∷ list ∷ []) (ip_octet flags small)
          ∙ ap (λ (o : ℕ). tos ∷ ttl ∷ word id ++ (flag (bit 7 flags) 128 + flag (bit 6 flags) 64 + flag (bit 5 flags) 32 + flags % 32) ∷ o ∷ []) empty;
    })

value_said : (v : ℕ) (t : List ℕ) → All IsOctet t → SaidBy value_at v t → IsSpelled t v
unfolding value_at
value_said v t all (d, (spells, counted), is) = record { octets = all; spells = subst (Spells t) (sym is) spells }

above_zero : (stride : ℕ) (zero : Bool) → (stride == 0) ≡ zero → (if zero then Some ZeroStride else None) ≡ None → 1 ≤ stride
above_zero stride true e none = cc
above_zero stride false e none = grind (arith, nat_tests)

stride_said : (tss : Bool) (kept : Option ℕ) (flags : ℕ) (x : Option ℕ) (t : List ℕ) → All IsOctet t → bit 0 flags ≡ tss → SaidBy (stride_at kept flags) x t → SpellsStride tss kept x t
unfolding stride_at
stride_said false kept flags x t all tss is = rw tss at is
stride_said true kept flags x t all tss is =
    let (v, (value, fine), made) : SaidBy {N = Name} (As Some (Judged stride_fault (Called TsStride value_at))) x t = rw tss at is in
    rw made (value_said v t all value, above_zero v (v == 0) refl fine)

time_said : (tis : Bool) (flags : ℕ) (x : Unit {0}) (t : List ℕ) → All IsOctet t → bit 1 flags ≡ tis → SaidBy (behind_time_stride flags) x t → SpellsTimeStride tis t
unfolding behind_time_stride
time_said false flags x t all tis is = (rw tis at is).0
time_said true flags x t all tis is =
    let (v, value, made) : SaidBy {N = Name} {E = ChainRefusal} {A = Unit {0}} (As (λ _. tt) (Called TimeStride value_at)) x t = rw tis at is in
    (v, value_said v t all value)

not_three : (mode : ℕ) (reliable : Bool) → mode < 4 → (mode == 3) ≡ reliable → (if reliable then Some ReliableMode else None) ≡ None → mode < 3
not_three mode true low e none = cc
not_three mode false low e none = grind (arith, nat_tests)

flags_said : (rx : Bool) (kept : Kept) (x : Kept) (t : List ℕ) → All IsOctet t → SaidBy (flags_at kept rx) x t → SpellsGiven rx kept x.extension x.stride t
unfolding flags_at
flags_said false kept x t all is = rw is.1 (is.0, refl, refl)
flags_said true kept x t all (flags, a, b, e, (is_flags, fine), (stride, c, d, f, is_stride, (none, g, h, i, is_time, (end, made)))) =
    let cells = rw e at all in
    let small : flags < 256 = All-head IsOctet flags [] (rw is_flags at (all_left a b cells)) in
    let behind = rw f at (all_right a b cells) in
    let last = rw i at (all_right c d behind) in
    let whole : t ≡ flags ∷ c ++ g = rw (e, is_flags, f, i, end, append-nil g) refl in
    rw made (record {
      ignored = flags / 32;
      mode = flags / 4 % 4;
      tis = bit 1 flags;
      tss = bit 0 flags;
      stride_text = c;
      time_text = g;
      three_bits = omega arith;
      not_reliable = not_three (flags / 4 % 4) (flags / 4 % 4 == 3) (omega arith) refl fine;
      spells_stride = stride_said (bit 0 flags) kept.stride flags stride c (all_left c d behind) refl is_stride;
      spells_time = time_said (bit 1 flags) flags none g (all_left g h last) refl is_time;
      whole = whole ∙ ap (λ (o : ℕ). o ∷ c ++ g) (given_octet flags);
    })

no_rtp_fault : (version sources : Bool) → (if version then unless sources Csrc else Some RtpVersion) ≡ None → (version ≡ true) × (sources ≡ true)
no_rtp_fault true sources e = (refl, unless_none sources Csrc e)
no_rtp_fault false sources e = cc

below_128 : (n : ℕ) → n % 128 < 128
below_128 n = omega arith

rtp_dynamic_said : (kept : Kept) (x : RtpDynamic) (t : List ℕ) → All IsOctet t → SaidBy (rtp_dynamic_at kept) x t → (ip : IpDynamic) (udp_sum : ℕ) → SpellsRtpDynamic kept (joined ip udp_sum x) t
unfolding rtp_dynamic_at
rtp_dynamic_said kept x t all (first, a, b, e, (is_first, first_fine), (second, c, d, f, is_second, (sn, g, h, i, is_sn, (ts, j, k, l, is_ts, (list, m, n, o, (is_list, list_fine), (given, p, q, r, is_given, (end, made))))))) ip udp_sum =
    let behind_first = rw f at (all_right a b (rw e at all)) in
    let behind_second = rw i at (all_right c d behind_first) in
    let behind_sn = rw l at (all_right g h behind_second) in
    let behind_ts = rw o at (all_right j k behind_sn) in
    let behind_list = rw r at (all_right m n behind_ts) in
    let small : second < 256 = All-head IsOctet second [] (rw is_second at (all_left c d behind_first)) in
    let sn_is = word_said sn g (all_left g h behind_second) is_sn in
    let ts_is = quad_said ts j (all_left j k behind_sn) is_ts in
    let tests = no_rtp_fault (first / 64 == 2) (first % 16 == 0) first_fine in
    let first_is = rtp_first_octet first (eqb-true _ _ tests.0) (eqb-true _ _ tests.1) in
    let second_is = rtp_second_octet second small in
    let empty : list ≡ 0 = eqb-true _ _ (unless_none (list == 0) Csrc list_fine) in
    let whole : t ≡ first ∷ second ∷ word sn ++ (quad ts ++ list ∷ p) = rw (e, is_first, f, is_second, i, sn_is.0, l, ts_is, o, is_list, r, end, append-nil p) refl in
    rw made (record {
      rx = bit 4 first;
      given = p;
      seven_bits = below_128 second;
      spells_given = flags_said (bit 4 first) kept given p (all_left p q behind_list) is_given;
      whole = whole ∙ ap (λ (o : ℕ). o ∷ second ∷ word sn ++ (quad ts ++ list ∷ p)) first_is
          ∙ ap (λ (o : ℕ). (128 + flag (bit 5 first) 32 + flag (bit 4 first) 16) ∷ o ∷ word sn ++ (quad ts ++ list ∷ p)) second_is
          ∙ ap (λ (o : ℕ). (128 + flag (bit 5 first) 32 + flag (bit 4 first) 16) ∷ (flag (bit 7 second) 128 + second % 128) ∷ word sn ++ (quad ts ++ o ∷ p)) empty;
    })

dynamic_said : (kept : Kept) (x : Dynamic) (t : List ℕ) → All IsOctet t → SaidBy (dynamic_at kept) x t → SpellsDynamic kept x t
unfolding dynamic_at
dynamic_said kept x t all (ip, a, b, e, is_ip, (udp_sum, c, d, f, is_sum, (rtp, g, h, i, is_rtp, (end, made)))) =
    let cells = rw e at all in
    let behind_ip = rw f at (all_right a b cells) in
    let behind_sum = rw i at (all_right c d behind_ip) in
    let number = word_said udp_sum c (all_left c d behind_ip) is_sum in
    rw made (record {
      ip = a;
      rtp = g;
      spells_ip = ip_dynamic_said ip a (all_left a b cells) is_ip udp_sum rtp;
      spells_rtp = rtp_dynamic_said kept rtp g (all_left g h behind_sum) is_rtp ip udp_sum;
      whole = rw (e, f, number.0, i, end, append-nil g) refl;
    })

-- what is read of octets stands at their front
front_found : {A : Type 0} (piece : ChainPiece A) (Spells : A → List ℕ → Type 0) (text : List ℕ) (x : A × List ℕ) → ((y : A) (t : List ℕ) → All IsOctet t → SaidBy piece y t → Spells y t) →
    All IsOctet text → read piece text ≡ Ok x → (spelling : List ℕ) × Found text spelling x.1 × Spells x.0 spelling
front_found piece Spells text x said all e =
    let f = found Truncated piece text x.1 x.0 e in
    let cells = subst (All IsOctet) f.1 all in
    (f.0, record { whole = f.1; octets = all_right f.0 x.1 cells }, said x.0 f.0 (all_left f.0 x.1 cells) f.2)

pub static_found : (text : List ℕ) (x : Static × List ℕ) → All IsOctet text → read static_at text ≡ Ok x →
    (spelling : List ℕ) × Found text spelling x.1 × SpellsStatic x.0 spelling
static_found text x all e = front_found static_at SpellsStatic text x static_said all e

pub dynamic_found : (kept : Kept) (text : List ℕ) (x : Dynamic × List ℕ) → All IsOctet text → read (dynamic_at kept) text ≡ Ok x →
    (spelling : List ℕ) × Found text spelling x.1 × SpellsDynamic kept x.0 spelling
dynamic_found kept text x all e = front_found (dynamic_at kept) (SpellsDynamic kept) text x (dynamic_said kept) all e
