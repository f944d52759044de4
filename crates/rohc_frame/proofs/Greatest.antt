-- Each identifier up to the greatest has octets that say it.
use Rattle.std.proofs.Common.{◌≡◌, ℕ, zero, suc, ◌+◌, ◌/◌, ◌%◌, ◌<◌, ◌≤◌, true, List, [], ◌∷◌, refl, ⊎_elim, arith}
use Rattle.std.specs.Prelude.{All}
use Rattle.std.proofs.lemmas.Bool.Decides.{nat_tests}
use Rattle.std.proofs.lemmas.Bool.{cases_lt}
use Rattle.std.proofs.lemmas.List.Elements.{All-nil, All-cons}
use Rattle.rohc_frame.specs.declared.header.CidKind.{CidKind}
use Rattle.rohc_frame.specs.declared.header.CidKind.TheVariants.{Small, Large}
use Rattle.rohc_frame.specs.Header.{is_identifier, greatest_cid}
use Rattle.rohc_frame.specs.Laws.{IsOctet, SaysEachIdentifier}
use Rattle.rohc_frame.proofs.HeaderLemmas.{identifier_bound}

-- octets that say the identifier
abbrev Said : CidKind → ℕ → Type 0
Said size cid = (octets : List ℕ) × All IsOctet octets × (is_identifier size cid octets ≡ true)

behind : (a : ℕ) (octets : List ℕ) → a < 256 → All IsOctet octets → All IsOctet (a ∷ octets)
behind a octets range all = All-cons IsOctet a octets range all

said : (size : CidKind) (cid : ℕ) → cid ≤ greatest_cid size → Said size cid
said Small zero within = ([], All-nil IsOctet, refl)
said Small (suc cid) within = ((225 + cid) ∷ [], behind (225 + cid) [] (omega arith) (All-nil IsOctet), grind (arith, nat_tests))
said Large cid within = ⊎_elim
    (λ (one : cid < 128). (cid ∷ [], behind cid [] (omega arith) (All-nil IsOctet), grind (arith, nat_tests)))
    (λ (two : 128 ≤ cid).
    let a = 128 + cid / 256 in
    let b = cid % 256 in
    (a ∷ b ∷ [], behind a (b ∷ []) (omega arith) (behind b [] (omega arith) (All-nil IsOctet)), grind (arith, nat_tests)))
    (cases_lt cid 128)

pub says_each_identifier : SaysEachIdentifier
says_each_identifier = λ size cid. (λ is. identifier_bound size cid is.0 is.1 is.2, λ within. said size cid within)
