use Rattle.std.proofs.Common.{◌≡◌, ◌+◌, ◌-◌, Bool, length, take, drop, if◌then◌else◌, nat_eq, take_all, length-drop, sym, ◌∙◌, ap, arith}
use Rattle.std.specs.Int.Bits.{bit_and}
use Rattle.std.specs.List.{list_all}
use Rattle.rohc_replay.specs.LowerCase.{has_lower_bit}
use Rattle.rohc_replay.proofs.DigitLemmas.{common_both, front_more, covered, bit_left}
use Rattle.rohc_replay.proofs.hex_octets.has_lower_bits.Goals as goal

pub loop-at-preserved : goal.loop-at-preserved
loop-at-preserved c =
    let l = c.loop-at in
    let text = c.args.text.now in
    let front = list_all has_lower_bit (take l.at text) in
    let part = list_all has_lower_bit (take 32 (drop l.at text)) in
    let gap : (l.at + 32) - l.at ≡ 32 = omega arith in
    let next : c.common_bit-common.result ≡ (if part then 32 else 0) = rw gap at c.common_bit-common.ensures in
    record {
      within = omega arith;
      common =
          ap (λ n. bit_and n c.common_bit-common.result) l.invariant.common
          ∙ ap (λ n. bit_and (if front then 32 else 0) n) next
          ∙ common_both front part
          ∙ ap (λ (all : Bool). if all then 32 else 0) (sym (front_more text l.at 32));
    }

pub returns : goal.returns
returns c =
    let l = c.loop-at in
    let text = c.args.text.now in
    let front = list_all has_lower_bit (take l.at text) in
    let last = list_all has_lower_bit (drop (length text - 32) text) in
    let start = length text - 32 in
    let whole = take_all (length text - start) (drop start text) (omega (arith, length-drop start text)) in
    let next : c.common_bit-2.result ≡ (if last then 32 else 0) = rw whole at c.common_bit-2.ensures in
    ap (λ n. nat_eq (bit_and n c.common_bit-2.result) 32) l.invariant.common
    ∙ ap (λ n. nat_eq (bit_and (if front then 32 else 0) n) 32) next
    ∙ ap (λ n. nat_eq n 32) (common_both front last)
    ∙ ap (λ (all : Bool). nat_eq (if all then 32 else 0) 32) (covered text (length text - 32) l.at (omega arith))
    ∙ bit_left (list_all has_lower_bit text)
