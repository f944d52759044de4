use Rattle.std.proofs.Common.{◌≡◌, ℕ, ◌%◌, ◌<◌, List, [], ◌∷◌, ◌++◌, sym, ap, ◌∙◌, append_assoc, arith}
use Rattle.rohc_checks.specs.Division.{check, poly8}
use Rattle.rohc_checks.proofs.Division.{check-append}
use Rattle.rohc_feedback.specs.Fields.{spelled}
use Rattle.rohc_feedback.specs.Element.{crc_option}
use Rattle.rohc_feedback.proofs.Spelled.{crc_option_is}

-- octets, then 11, then the check, which continues from the check of these over one more octet, 00
pub with_check : (old opened new covered : List ℕ) (register crc : ℕ) → opened ≡ old ++ 17 ∷ [] → covered ≡ opened → register ≡ check poly8 255 covered → crc ≡ check poly8 register (0 ∷ []) → new ≡ opened ++ crc ∷ [] → crc < 256
    → new ≡ old ++ spelled (crc_option (check poly8 255 (old ++ spelled (crc_option 0))))
with_check old opened new covered register crc is_opened is_covered is_register is_crc is_new octet =
    let opens : spelled (crc_option 0) ≡ 17 ∷ 0 ∷ [] = crc_option_is 0 in
    let whole : crc ≡ check poly8 255 (old ++ spelled (crc_option 0)) =
    is_crc
    ∙ ap (λ r. check poly8 r (0 ∷ [])) is_register
    ∙ check-append poly8 255 covered (0 ∷ [])
    ∙ ap (λ xs. check poly8 255 (xs ++ 0 ∷ [])) (is_covered ∙ is_opened)
    ∙ ap (check poly8 255) (append_assoc old (17 ∷ []) (0 ∷ []) ∙ ap (λ xs. old ++ xs) (sym opens)) in
    let low : crc ≡ crc % 256 = omega arith in
    is_new
    ∙ ap (λ xs. xs ++ crc ∷ []) is_opened
    ∙ append_assoc old (17 ∷ []) (crc ∷ [])
    ∙ ap (λ n. old ++ 17 ∷ n ∷ []) low
    ∙ ap (λ xs. old ++ xs) (sym (crc_option_is crc))
    ∙ ap (λ n. old ++ spelled (crc_option n)) whole

-- The check covers all octets before it, whatever parts they were written in.
pub in_one : (old middle new front : List ℕ) (whole : ℕ → List ℕ) → middle ≡ old ++ front → ((crc : ℕ) → whole crc ≡ front ++ spelled (crc_option crc))
    → new ≡ middle ++ spelled (crc_option (check poly8 255 (middle ++ spelled (crc_option 0)))) → new ≡ old ++ whole (check poly8 255 (old ++ whole 0))
in_one old middle new front whole is_middle parts is_new =
    let same : (crc : ℕ) → middle ++ spelled (crc_option crc) ≡ old ++ whole crc = λ crc.
    ap (λ xs. xs ++ spelled (crc_option crc)) is_middle
    ∙ append_assoc old front (spelled (crc_option crc))
    ∙ ap (λ xs. old ++ xs) (sym (parts crc)) in
    is_new ∙ same (check poly8 255 (middle ++ spelled (crc_option 0))) ∙ ap (λ xs. old ++ whole (check poly8 255 xs)) (same 0)
