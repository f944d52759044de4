use Rattle.std.proofs.Common.{ℕ, List, [], ◌∷◌, ap, sym, ◌∙◌, append-nil}
use Rattle.rohc_checks.specs.Division.{check, poly8}
use Rattle.rohc_chain.proofs.Checks.{check_of_two}
use Rattle.rohc_chain.proofs.cover.front_register.Goals as goal

pub returns-in-Small : goal.returns-in-Small
returns-in-Small c = rw (c.in-Small.is, c.crc8-in-Small.ensures, c.crc8.ensures) (check_of_two poly8 255 c.args.forward.now.cid_octets.now (c.args.forward.now.first ∷ []))

pub returns-in-Large : goal.returns-in-Large
returns-in-Large c = rw (c.in-Large.is, c.crc8-in-Large-2.ensures, c.crc8-in-Large.ensures) (check_of_two poly8 255 (c.args.forward.now.first ∷ []) c.args.forward.now.cid_octets.now ∙ ap (λ (octets : List ℕ). check poly8 255 (c.args.forward.now.first ∷ octets)) (sym (append-nil c.args.forward.now.cid_octets.now)))
