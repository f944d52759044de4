-- The static octets of an original header, read off its fields.
use Rattle.std.proofs.Common.{◌≡◌, ℕ, ◌+◌, List, [], ◌∷◌, ◌++◌, length, get_or, refl, sym, ap, subst, ◌∙◌, arith}
use Rattle.rohc_header.specs.declared.fields.Static.{Static}
use Rattle.rohc_header.specs.declared.fields.Dynamic.{Dynamic}
use Rattle.rohc_header.specs.Original.{ip_front, word, udp_part, rtp_part, octet, flag, quad}
use Rattle.rohc_header.specs.Check.{static_octets}
use Rattle.rohc_header.specs.Laws.{HasStaticFields}

-- four elements, one by one
four_of : (xs : List ℕ) → length xs ≡ 4 → xs ≡ get_or xs 0 0 ∷ get_or xs 1 0 ∷ get_or xs 2 0 ∷ get_or xs 3 0 ∷ []
four_of [] h = cc
four_of (a ∷ []) h = cc
four_of (a ∷ b ∷ []) h = cc
four_of (a ∷ b ∷ c ∷ []) h = cc
four_of (a ∷ b ∷ c ∷ d ∷ []) h = refl
four_of (a ∷ b ∷ c ∷ d ∷ e ∷ xs) h = absurd (omega arith)

-- the header with these addresses has the static octets of its fields
abbrev HasFields : (fixed : Static) (moving : Dynamic) (payload_len checksum : ℕ) (source destination : List ℕ) → Type 0
HasFields fixed moving payload_len checksum source destination =
    static_octets (ip_front moving payload_len ++ word checksum ++ (source ++ destination) ++ udp_part fixed moving payload_len ++ rtp_part fixed moving)
    ≡ octet 0x45 ++ octet moving.tos
    ++ octet (flag moving.df 0x40) ++ octet 0 ++ octet moving.ttl ++ octet 17
    ++ (source ++ destination)
    ++ word fixed.source_port ++ word fixed.destination_port
    ++ octet (0x80 + flag moving.padding 0x20 + flag moving.extension 0x10)
    ++ quad fixed.ssrc

of_cells : (fixed : Static) (moving : Dynamic) (payload_len checksum a b c d e f g h : ℕ)
    → HasFields fixed moving payload_len checksum (a ∷ b ∷ c ∷ d ∷ []) (e ∷ f ∷ g ∷ h ∷ [])
unfolding static_octets
of_cells fixed moving payload_len checksum a b c d e f g h = refl

pub has_static_fields : HasStaticFields
has_static_fields fixed moving payload_len octets source destination is =
    let s = fixed.source in
    let d = fixed.destination in
    let cells = of_cells fixed moving payload_len is.checksum (get_or s 0 0) (get_or s 1 0) (get_or s 2 0) (get_or s 3 0) (get_or d 0 0) (get_or d 1 0) (get_or d 2 0) (get_or d 3 0) in
    let behind = subst (λ all. HasFields fixed moving payload_len is.checksum (get_or s 0 0 ∷ get_or s 1 0 ∷ get_or s 2 0 ∷ get_or s 3 0 ∷ []) all) (sym (four_of d destination)) cells in
    ap static_octets is.whole ∙ subst (λ all. HasFields fixed moving payload_len is.checksum all d) (sym (four_of s source)) behind
