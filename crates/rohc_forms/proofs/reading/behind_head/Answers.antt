use Rattle.std.proofs.Common.{rules, ◌≡◌, sym, subst, ap, ◌∙◌}
use Rattle.std.specs.Prelude.{IfSome, is_some}
use Rattle.rohc_frame.specs.Reading.{header_of}
use Rattle.rohc_forms.specs.Content.{IdSaid, offset_said, whole_said}
use Rattle.rohc_forms.specs.Kinds.{is_uor2, is_whole}
use Rattle.rohc_forms.specs.Packets.{head_by, form_at}
use Rattle.rohc_forms.specs.Good.{IsBits}
use Rattle.rohc_forms.proofs.FormLemmas.{parts_good, some_bits, some_offset, narrow_offset, whole_id, check_below}
use Rattle.rohc_forms.proofs.reading.behind_head.Goals as goal

pub returns-clause-reads : goal.returns-clause-reads
unfolding form_at
returns-clause-reads c =
    let good = parts_good (header_of c.args.forward.now) c.args.kept.rnd c.args.kept.udp_sum c.args.kept.stride_known (head_by c.args.head) c.in_ok-whole.whole c.in_ok-udp_sum.udp_sum c.args.cursor c.optional_word.new.cursor c.optional_word-2.new.cursor c.requires.octets c.requires.head (search rules) (search rules) in
    let random : is_whole c.id_bits.result ≡ c.args.head.rnd = whole_id c.id_bits.result ∙ ap (λ id. is_some (whole_said id)) c.id_bits.ensures ∙ good.random in
    rw random (search rules)

pub invariant_of-result : goal.invariant_of-result
invariant_of-result c =
    let good = parts_good (header_of c.args.forward.now) c.args.kept.rnd c.args.kept.udp_sum c.args.kept.stride_known (head_by c.args.head) c.in_ok-whole.whole c.in_ok-udp_sum.udp_sum c.args.cursor c.optional_word.new.cursor c.optional_word-2.new.cursor c.requires.octets c.requires.head (search rules) (search rules) in
    let check = check_below (is_uor2 c.args.head.kind) c.args.head.fields.check good.check in
    let offset = subst (λ (id : IdSaid). IfSome (offset_said id) (IsBits 1 16)) (sym c.id_bits.ensures) good.offset in
    record {
      sn_some = good.sn.some;
      sn_narrow = good.sn.narrow;
      ts_some = some_bits 2 32 c.args.head.fields.ts good.ts;
      offset_some = some_offset c.id_bits.result offset;
      offset_narrow = narrow_offset c.id_bits.result offset;
      check_7 = check.0;
      check_3 = check.1;
    }
