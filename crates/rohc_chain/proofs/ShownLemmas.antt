-- The worked packets that are shown, by computing what the definitions say of them.
use Rattle.std.specs.Prelude.{refl}
use Rattle.rohc_bits.specs.Bits as bits
use Rattle.rohc_bits.specs.Fronts as fronts
use Rattle.rohc_bits.specs.Reading as reading
use Rattle.rohc_chain.specs.Octets as octets
use Rattle.rohc_chain.specs.Chains as chains
use Rattle.rohc_chain.specs.Shown.{ShowsIr, ShowsCutIr, ShowsIrDyn}

pub shows_ir : ShowsIr
unfolding reading.next_octet reading.next_word reading.next_value bits.number bits.bits fronts.front_value octets.four_octets_at octets.quad_at octets.value_at chains.static_at chains.ip_static_at chains.dynamic_at chains.ip_dynamic_at chains.rtp_dynamic_at chains.flags_at chains.stride_at chains.behind_time_stride
shows_ir = refl

pub shows_cut_ir : ShowsCutIr
unfolding reading.next_octet bits.number bits.bits octets.four_octets_at chains.static_at chains.ip_static_at
shows_cut_ir = refl

pub shows_ir_dyn : ShowsIrDyn
unfolding reading.next_octet reading.next_word reading.next_value bits.number bits.bits fronts.front_value octets.quad_at octets.value_at chains.dynamic_at chains.ip_dynamic_at chains.rtp_dynamic_at chains.flags_at chains.stride_at chains.behind_time_stride
shows_ir_dyn = refl
