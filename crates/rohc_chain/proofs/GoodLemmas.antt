-- What octets spell lies in the ranges of its fields.
use Rattle.std.proofs.Common.{◌≡◌, ℕ, ◌+◌, ◌/◌, ◌%◌, ◌<◌, Bool, true, false, List, [], ◌∷◌, ◌++◌, Option, Some, None, sym, subst, arith}
use Rattle.std.specs.Prelude.{All, Result, Ok, Err, IfOk}
use Rattle.std.proofs.lemmas.List.Elements.{All-head, All-tail}
use Rattle.rohc_bits.proofs.Values.{value_bound}
use Rattle.rohc_frame.specs.Header.{Header}
use Rattle.rohc_frame.specs.Laws.{IsOctet}
use Rattle.rohc_header.specs.declared.fields.Static.{Static}
use Rattle.rohc_header.specs.declared.fields.Dynamic.{Dynamic}
use Rattle.rohc_chain.specs.declared.packet.Ir as lent
use Rattle.rohc_chain.specs.declared.packet.IrDyn as lent_dyn
use Rattle.rohc_chain.specs.declared.parts.Kept.{Kept}
use Rattle.rohc_chain.specs.declared.refusal.ChainRefusal.{ChainRefusal}
use Rattle.rohc_header.specs.Original.{word, quad, flag}
use Rattle.rohc_chain.specs.ChainText.{SpellsStatic, SpellsStride, SpellsGiven, SpellsDynamic}
use Rattle.rohc_chain.specs.Good.{IsGoodStatic, IsGoodStride, IsGoodDynamic, IsGoodContent}
use Rattle.rohc_chain.specs.Packets.{IrContent, Plain, StaticOnly, Whole, ir_content, DynContent, dyn_content, nothing_kept}
use Rattle.rohc_chain.specs.Texts.{IsIrText, IsIrDynText}
use Rattle.rohc_bits.proofs.Holds.{all_left, all_right}

word_good : (n : ℕ) → All IsOctet (word n) → n < 65536
word_good n all = let high : n / 256 < 256 = All-head IsOctet (n / 256) (n % 256 ∷ []) all in omega arith

quad_good : (n : ℕ) → All IsOctet (quad n) → n < 4294967296
quad_good n all = let high : n / 65536 / 256 < 256 = All-head IsOctet (n / 65536 / 256) (n / 65536 % 256 ∷ word (n % 65536)) all in omega arith

static_good : (fixed : Static) (text : List ℕ) → All IsOctet text → SpellsStatic fixed text → IsGoodStatic fixed
static_good fixed text all is =
    let ports : List ℕ = word fixed.destination_port ++ quad fixed.ssrc in
    let whole = subst (λ (t : List ℕ). All IsOctet t) is.whole all in
    let ip = subst (λ (t : List ℕ). All IsOctet t) is.spells_ip.whole (all_left is.ip (word fixed.source_port ++ ports) whole) in
    let addresses = All-tail IsOctet 17 (fixed.source ++ fixed.destination) (All-tail IsOctet (64 + is.spells_ip.ignored) (17 ∷ fixed.source ++ fixed.destination) ip) in
    let behind = all_right is.ip (word fixed.source_port ++ ports) whole in
    let last = all_right (word fixed.source_port) ports behind in
    record {
      source = record { four = is.spells_ip.four_octets; each = all_left fixed.source fixed.destination addresses };
      destination = record { four = is.spells_ip.also_four; each = all_right fixed.source fixed.destination addresses };
      source_port = word_good fixed.source_port (all_left (word fixed.source_port) ports behind);
      destination_port = word_good fixed.destination_port (all_left (word fixed.destination_port) (quad fixed.ssrc) last);
      ssrc = quad_good fixed.ssrc (all_right (word fixed.destination_port) (quad fixed.ssrc) last);
    }

stride_good : (tss : Bool) (kept stride : Option ℕ) (text : List ℕ) → IsGoodStride kept → SpellsStride tss kept stride text → IsGoodStride stride
stride_good false kept stride text good is = subst IsGoodStride (sym is.1) good
stride_good true kept None text good is = tt
stride_good true kept (Some stride) text good is = (is.1, value_bound text stride is.0.spells)

given_good : (rx : Bool) (kept : Kept) (extension : Bool) (stride : Option ℕ) (text : List ℕ) → IsGoodStride kept.stride → SpellsGiven rx kept extension stride text → IsGoodStride stride
given_good false kept extension stride text good is = subst IsGoodStride (sym is.2) good
given_good true kept extension stride text good is = stride_good is.tss kept.stride stride is.stride_text good is.spells_stride

dynamic_good : (kept : Kept) (moving : Dynamic) (text : List ℕ) → All IsOctet text → IsGoodStride kept.stride → SpellsDynamic kept moving text → IsGoodDynamic moving
dynamic_good kept moving text all good is =
    let whole = subst (λ (t : List ℕ). All IsOctet t) is.whole all in
    let flags : List ℕ = (flag moving.df 128 + flag moving.rnd 64 + flag moving.nbo 32 + is.spells_ip.ignored) ∷ 0 ∷ [] in
    let ip = subst (λ (t : List ℕ). All IsOctet t) is.spells_ip.whole (all_left is.ip (word moving.udp_sum ++ is.rtp) whole) in
    let behind_tos = All-tail IsOctet moving.tos (moving.ttl ∷ word moving.id ++ flags) ip in
    let behind_ttl = All-tail IsOctet moving.ttl (word moving.id ++ flags) behind_tos in
    let behind = all_right is.ip (word moving.udp_sum ++ is.rtp) whole in
    let first : ℕ = 128 + flag moving.padding 32 + flag is.spells_rtp.rx 16 in
    let second : ℕ = flag moving.marker 128 + moving.payload_type in
    let numbers : List ℕ = quad moving.ts ++ 0 ∷ is.spells_rtp.given in
    let rtp = subst (λ (t : List ℕ). All IsOctet t) is.spells_rtp.whole (all_right (word moving.udp_sum) is.rtp behind) in
    let behind_second = All-tail IsOctet second (word moving.sn ++ numbers) (All-tail IsOctet first (second ∷ word moving.sn ++ numbers) rtp) in
    record {
      tos = All-head IsOctet moving.tos (moving.ttl ∷ word moving.id ++ flags) ip;
      ttl = All-head IsOctet moving.ttl (word moving.id ++ flags) behind_tos;
      id = word_good moving.id (all_left (word moving.id) flags behind_ttl);
      udp_sum = word_good moving.udp_sum (all_left (word moving.udp_sum) is.rtp behind);
      payload_type = is.spells_rtp.seven_bits;
      sn = word_good moving.sn (all_left (word moving.sn) numbers behind_second);
      ts = quad_good moving.ts (all_left (quad moving.ts) (0 ∷ is.spells_rtp.given) (all_right (word moving.sn) numbers behind_second));
      stride = given_good is.spells_rtp.rx kept moving.extension moving.stride is.spells_rtp.given good is.spells_rtp.spells_given;
    }

-- the octets behind the check octet
behind_check : (rest : List ℕ) (profile octet : ℕ) (text : List ℕ) → All IsOctet rest → rest ≡ profile ∷ octet ∷ text → All IsOctet text
behind_check rest profile octet text all e = All-tail IsOctet octet text (All-tail IsOctet profile (octet ∷ text) (subst (λ (t : List ℕ). All IsOctet t) e all))

pub ir_good : (h : Header) (content : IrContent) → All IsOctet h.rest → IsIrText h content → IsGoodContent content
ir_good h (Plain packet) all is = behind_check h.rest 0 _ packet all is.whole
ir_good h (StaticOnly fixed) all is = static_good fixed is.chains (behind_check h.rest 1 _ is.chains all is.whole) is.spells_static
ir_good h (Whole fixed moving payload) all is =
    let text = behind_check h.rest 1 _ (is.static_chain ++ (is.dynamic_chain ++ payload)) all is.whole in
    let behind = all_right is.static_chain (is.dynamic_chain ++ payload) text in (
      static_good fixed is.static_chain (all_left is.static_chain (is.dynamic_chain ++ payload) text) is.spells_static,
      dynamic_good nothing_kept moving is.dynamic_chain (all_left is.dynamic_chain payload behind) tt is.spells_dynamic,
      all_right is.dynamic_chain payload behind,
    )

pub dyn_good : (h : Header) (profile : ℕ) (kept : Kept) (packet : DynContent) → All IsOctet h.rest → IsGoodStride kept.stride → IsIrDynText h profile kept packet →
    IsGoodDynamic packet.moving × All IsOctet packet.payload
dyn_good h profile kept packet all good is =
    let text = behind_check h.rest 1 _ (is.chain ++ packet.payload) all is.whole in
    (dynamic_good kept packet.moving is.chain (all_left is.chain packet.payload text) good is.spells_dynamic, all_right is.chain packet.payload text)

-- what the code reads from octets is good
pub ir_good_said : (h : Header) (r : Result lent.Ir ChainRefusal) → All IsOctet h.rest → IfOk r (λ ir. IsIrText h (ir_content ir)) → IfOk r (λ ir. IsGoodContent (ir_content ir))
ir_good_said h (Ok ir) all text = ir_good h (ir_content ir) all text
ir_good_said h (Err e) all text = tt

pub dyn_good_said : (h : Header) (profile : ℕ) (kept : Kept) (r : Result lent_dyn.IrDyn ChainRefusal) → All IsOctet h.rest
    → IfOk r (λ packet. IsIrDynText h profile kept (dyn_content packet)) → IfOk r (λ packet. IsGoodStride kept.stride → IsGoodDynamic packet.moving)
dyn_good_said h profile kept (Ok packet) all text = λ good. (dyn_good h profile kept (dyn_content packet) all good text).0
dyn_good_said h profile kept (Err e) all text = tt
