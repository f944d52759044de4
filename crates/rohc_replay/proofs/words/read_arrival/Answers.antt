use Rattle.std.proofs.Common.{◌≡◌, ◌++◌, ◌∷◌, ap, drop, length-take, arith}
use Rattle.std.specs.Fmt.{decimal}
use Rattle.rohc_replay.specs.Numeral.{IsNumberAt}
use Rattle.rohc_replay.specs.Script.{hex_text}
use Rattle.rohc_replay.proofs.NumeralLemmas.{number_unique}
use Rattle.rohc_replay.proofs.SpellingLemmas.{no_event, octets_small}
use Rattle.rohc_replay.proofs.words.read_arrival.Goals as goal

pub returns-in_err-link-2-clause-bad : goal.returns-in_err-link-2-clause-bad
returns-in_err-link-2-clause-bad c =
    rw c.from_residual-in_err-link-2.ensures (no_event c.args.text.now (λ link moment octets good first second.
    let same = number_unique c.args.text.now _ _ _ _ c.in_ok-link.ensures.read first in
    c.in_err-link-2.ensures (rw same.0 good.0)))

pub returns-in_err-moment-clause-bad : goal.returns-in_err-moment-clause-bad
returns-in_err-moment-clause-bad c =
    rw c.from_residual-in_err-moment.ensures (no_event c.args.text.now (λ link moment octets good first second.
    let same = number_unique c.args.text.now _ _ _ _ c.in_ok-link.ensures.read first in
    let rest : c.in_ok-link.text.now ≡ decimal moment ++ 32 ∷ hex_text octets = ap (drop 1) same.1 in
    c.in_err-moment.ensures.none moment (hex_text octets) (rw rest second)))

pub returns-in_err-size-clause-bad : goal.returns-in_err-size-clause-bad
returns-in_err-size-clause-bad c =
    rw c.from_residual-in_err-size.ensures (no_event c.args.text.now (λ link moment octets good first second.
    let same = number_unique c.args.text.now _ _ _ _ c.in_ok-link.ensures.read first in
    let rest : c.in_ok-link.text.now ≡ decimal moment ++ 32 ∷ hex_text octets = ap (drop 1) same.1 in
    let here : IsNumberAt c.in_ok-link.text.now moment (32 ∷ hex_text octets) = rw rest second in
    let next = number_unique c.in_ok-link.text.now _ _ _ _ c.in_ok-moment.ensures.read here in
    let last : c.in_ok-moment.text.now ≡ hex_text octets = ap (drop 1) next.1 in
    c.in_err-size.ensures.none octets (omega (arith, good.2)) good.3 last))

pub returns-clause-good : goal.returns-clause-good
returns-clause-good c = (
  omega arith,
  c.in_ok-moment.ensures.read.fits,
  omega (arith, c.in_ok-size.ensures.fits, length-take c.in_ok-size.size c.read_octets.new.packet),
  octets_small c.read_octets.new.packet c.in_ok-size.size (λ i. omega (arith, c.type_inv.packet i)),
)
