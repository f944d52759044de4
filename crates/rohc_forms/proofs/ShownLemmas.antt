-- What octets say is what stands at the places of their fields.
use Rattle.std.proofs.Common.{◌≡◌, ℕ, ◌+◌, ◌*◌, ◌%◌, ◌^◌, List, [], ◌∷◌, length, refl, sym, ap, ◌∙◌, arith}
use Rattle.std.specs.Prelude.{map, All, fold}
use Rattle.std.proofs.lemmas.Nat.{pow-add}
use Rattle.std.proofs.Math.Nat.{mul_assoc, add-mul, mod-eq_of_lt}
use Rattle.std.proofs.lemmas.List.Elements.{All-head, All-tail, All-cons}
use Rattle.rohc_bits.specs.Bits as bits
use Rattle.rohc_bits.specs.Bits.{IsOctet, bits_of, number}
use Rattle.rohc_bits.specs.Fronts as fronts
use Rattle.rohc_bits.specs.Reading as reading
use Rattle.rohc_bits.specs.Places.{widths, cut}
use Rattle.rohc_bits.proofs.BitLists.{number-octets}
use Rattle.rohc_bits.proofs.PlaceLemmas.{stands}
use Rattle.rohc_forms.specs.Slices.{slice}
use Rattle.rohc_forms.specs.Table.{By, Layout, Said, Extension3Octet, FirstOctet, IpOctet, RtpOctet, TypeOctet, named, row, parts, width, under, and_said, number_in}
use Rattle.rohc_forms.specs.Formats.{number_of}
use Rattle.rohc_forms.specs.Octets as octets
use Rattle.rohc_forms.specs.Packets as packets
use Rattle.rohc_forms.specs.Extension as extension
use Rattle.rohc_forms.specs.Shown.{ShowsExtension1, ShowsExtension2, ShowsExtension3, with_numbers, SaidInPlace, PartsInPlace}

named_widths : (l : Layout) → widths (named l) ≡ width l
named_widths [] = refl
named_widths ((field, bits) ∷ more) = ap (λ n. bits + n) (named_widths more)

-- a format says the numbers that it cuts a number into
cut_under : (l : Layout) (n : ℕ) (said : Said) → under l n said ≡ with_numbers l (cut (named l) n) said
cut_under [] n said = refl
cut_under ((field, bits) ∷ more) n said =
    ap (λ w. under more n (and_said field (slice n w bits) said)) (sym (named_widths more))
    ∙ cut_under more n (and_said field (slice n (widths (named more)) bits) said)

-- octets after a number, as one number
fold_is : (octets : List ℕ) (n : ℕ) → All IsOctet octets → fold (λ n octet. n * 256 + octet) n octets ≡ n * 2 ^ (8 * length octets) + number (bits_of octets)
unfolding number
fold_is [] n all = omega arith
fold_is (a ∷ octets) n all =
    let size : ℕ = 2 ^ (8 * length octets) in
    let low : a % 2 ^ 8 ≡ a = mod-eq_of_lt (All-head IsOctet a octets all) in
    let behind : number (bits_of (a ∷ octets)) ≡ a * size + number (bits_of octets) = number-octets 8 a octets ∙ ap (λ b. b * size + number (bits_of octets)) low in
    let wider : 2 ^ (8 * length (a ∷ octets)) ≡ 256 * size = ap (λ k. 2 ^ k) (omega arith) ∙ pow-add 2 8 (8 * length octets) in
    let front : (n * 256 + a) * size ≡ n * (256 * size) + a * size = add-mul (n * 256) a size ∙ ap (λ k. k + a * size) (mul_assoc n 256 size) in
    fold_is octets (n * 256 + a) (All-tail IsOctet a octets all)
    ∙ ap (λ k. k + number (bits_of octets)) front
    ∙ rw (behind, wider) (omega arith)

number_is : (octets : List ℕ) → All IsOctet octets → number_of octets ≡ number (bits_of octets)
number_is octets all = fold_is octets 0 all ∙ omega arith

pub said_in_place : SaidInPlace
said_in_place = λ l octets before all whole.
    ap (λ n. under l n before) (number_is octets all)
    ∙ cut_under l (number (bits_of octets)) before
    ∙ ap (λ ns. with_numbers l ns before) (sym (stands (named l) octets (named_widths l ∙ whole)))

whole_row : (octet : Extension3Octet) → widths (row octet) ≡ 8
whole_row FirstOctet = refl
whole_row IpOctet = refl
whole_row RtpOctet = refl
whole_row TypeOctet = refl

parts_cut : (octet : Extension3Octet) (n : ℕ) → map (λ part. (By part, number_in part n)) (parts octet) ≡ cut (row octet) n
parts_cut FirstOctet n = refl
parts_cut IpOctet n = refl
parts_cut RtpOctet n = refl
parts_cut TypeOctet n = refl

pub parts_in_place : PartsInPlace
parts_in_place = λ octet n small.
    let whole : number_of (n ∷ []) ≡ n = omega arith in
    parts_cut octet n
    ∙ ap (λ k. cut (row octet) k) (sym whole ∙ number_is (n ∷ []) (All-cons IsOctet n [] small (λ i d l. absurd (omega arith))))
    ∙ sym (stands (row octet) (n ∷ []) (whole_row octet ∙ refl))

-- the worked packets, by computing
pub shows_extension_1 : ShowsExtension1
unfolding packets.head_at packets.base_at packets.extension_at packets.short_extension_at reading.next_octet octets.word_if number bits.bits
shows_extension_1 = refl

pub shows_extension_2 : ShowsExtension2
unfolding packets.head_at packets.base_at packets.extension_at packets.short_extension_at reading.next_octet reading.next_word octets.word_if number bits.bits
shows_extension_2 = refl

pub shows_extension_3 : ShowsExtension3
unfolding packets.head_at packets.base_at packets.extension_at packets.extension_3_at extension.ip_octet_at extension.behind_ip_octet extension.sn_at extension.ts_at extension.ip_given_at extension.behind_protocol extension.offset_at extension.rtp_given_at extension.behind_rtp_octet extension.stride_at extension.behind_time_stride octets.octet_if octets.word_if reading.next_octet reading.next_word reading.next_value fronts.front_value number bits.bits
shows_extension_3 = refl
