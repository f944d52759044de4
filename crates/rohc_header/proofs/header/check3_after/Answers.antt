use Rattle.std.proofs.Common.{◌<◌, ◌≡◌, ◌*◌, [], ◌∷◌, ℕ, length, get_or, bit_and, bit_xor, rules, ap, sym, ◌∙◌, arith, refl}
use Rattle.std.proofs.lemmas.Nat.{xor_lt}
use Rattle.rohc_checks.specs.Division.{check, poly3}
use Rattle.rohc_checks.proofs.Division.{check-and}
use Rattle.rohc_header.specs.Check.{dynamic_octets}
use Rattle.rohc_header.proofs.SevenOctets.{AreSmall}
use Rattle.rohc_header.proofs.SevenBits.{sevens, down, shifted, seventeen_found, register_added}
use Rattle.rohc_header.proofs.Checks.{masked, ones3, dynamic_are}
use Rattle.rohc_header.proofs.header.check3_after.Goals as goal

pub returns : goal.returns
unfolding sevens down AreSmall
returns c =
    let octets = c.args.octets.now in
    let forty : length octets ≡ 40 = search rules in
    let small : (k : ℕ) → get_or octets k 0 < 256 = search rules in
    let at : ℕ → ℕ = λ k. get_or octets k 0 in
    let reg = bit_and c.args.reg 7 in
    let low : reg < 8 = masked 3 c.args.reg 7 refl in
    let first = bit_xor (at 2) reg in
    let all_small : AreSmall (first ∷ at 3 ∷ at 4 ∷ at 5 ∷ at 10 ∷ at 11 ∷ at 24 ∷ at 25 ∷ at 26 ∷ at 27 ∷ at 29 ∷ at 30 ∷ at 31 ∷ at 32 ∷ at 33 ∷ at 34 ∷ at 35 ∷ []) = (xor_lt 8 (at 2) reg (small 2) (omega (arith, low)), (small 3, (small 4, (small 5, (small 10, (small 11, (small 24, (small 25, (small 26, (small 27, (small 29, (small 30, (small 31, (small 32, (small 33, (small 34, (small 35, tt))))))))))))))))) in
    c.crc3.ensures
    ∙ rw (c.added_first-total_length.ensures, c.word-id.ensures, c.word.ensures, c.word-2.ensures, c.added-udp_length_and_ts.ensures.first, c.added-udp_length_and_ts.ensures.second, c.from-marker_and_type.ensures)
    (ap (λ n. check poly3 0 (sevens n * 2 ∷ [])) (shifted first (at 3) (at 4) (at 5) (at 10) (at 11) (at 24) (at 25) (at 26) (at 27) (at 29) (at 30) (at 31) (at 32) (at 33) (at 34) (at 35) all_small))
    ∙ seventeen_found first (at 3) (at 4) (at 5) (at 10) (at 11) (at 24) (at 25) (at 26) (at 27) (at 29) (at 30) (at 31) (at 32) (at 33) (at 34) (at 35) all_small
    ∙ register_added reg (at 2) (at 3 ∷ at 4 ∷ at 5 ∷ at 10 ∷ at 11 ∷ at 24 ∷ at 25 ∷ at 26 ∷ at 27 ∷ at 29 ∷ at 30 ∷ at 31 ∷ at 32 ∷ at 33 ∷ at 34 ∷ at 35 ∷ []) low (small 2)
    ∙ ap (check poly3 reg) (sym (dynamic_are octets forty))
    ∙ ap (λ m. check poly3 (bit_and c.args.reg m) (dynamic_octets octets)) (sym ones3)
    ∙ check-and poly3 c.args.reg (dynamic_octets octets)
