use Rattle.std.proofs.Common.{◌≡◌, ◌/◌, ℕ, List, length, Result, Ok, Err, MatchResult, true, false, is_ok, arith, refl, sym, ◌∙◌, ap}
use Rattle.hex.specs.Hex.{decode_of, decode_sized}
use Rattle.hex.proofs.HexLemmas.{decode_of-ok, decode_sized-ok, decode_sized-twice}
use Rattle.hex.specs.declared.error.FromHexError.{FromHexError}
use Rattle.rohc_totals.proofs.feedback.decode.Goals as goal

taken : (hex out : List ℕ) (n : ℕ) (r : Result Unit FromHexError) (d : Result (List ℕ) FromHexError) → decode_sized hex n ≡ d →
    MatchResult d (λ bytes. (r ≡ Ok tt) × (out ≡ bytes)) (λ e. r ≡ Err e) → is_ok r ≡ true → decode_of hex ≡ Ok out
taken hex out n r (Ok bytes) is v good =
    sym (decode_sized-twice hex n (decode_sized-ok hex n bytes is)) ∙ is ∙ ap (λ (b : List ℕ). Ok b) (sym v.1)
taken hex out n r (Err e) is v good = absurd (let bad : is_ok r ≡ false = ap is_ok v in cc)

refused : (hex out : List ℕ) (n : ℕ) (r : Result Unit FromHexError) (d : Result (List ℕ) FromHexError) → n ≡ length hex / 2 → decode_sized hex n ≡ d →
    MatchResult d (λ bytes. (r ≡ Ok tt) × (out ≡ bytes)) (λ e. r ≡ Err e) → is_ok r ≡ false → (other : List ℕ) → decode_of hex ≡ Ok other → ⊥
refused hex out n r (Ok bytes) half is v bad other read = let good : is_ok r ≡ true = ap is_ok v.0 in cc
refused hex out n r (Err e) half is v bad other read =
    let size = decode_of-ok hex other read in
    let twice = decode_sized-twice hex n (omega (arith, size.0, half)) in
    let both : Err e ≡ Ok other = sym is ∙ twice ∙ read in cc

pub returns : goal.returns
returns c =
    let size = c.requires in
    let value = c.decode_to_slice.ensures.value in
    record {
      read = λ good. taken c.args.hex.now c.decode_to_slice.new.out (length c.args.octets.now) c.decode_to_slice.result _ refl value (sym c.is_ok.ensures.value ∙ good);
      none = λ bad. refused c.args.hex.now c.decode_to_slice.new.out (length c.args.octets.now) c.decode_to_slice.result _ size refl value (sym c.is_ok.ensures.value ∙ bad);
    }
