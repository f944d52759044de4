use Rattle.std.proofs.Common.{arith, nat_eq, ap, ◌≡◌, ◌∙◌, rules}
use Rattle.std.specs.Map.{lookup}
use Rattle.std.proofs.lemmas.Bool.Decides.{nat_tests}
use Rattle.std.proofs.lemmas.Map.Made.{filter_same_pairs}
use Rattle.std.proofs.lemmas.Map.Entries.{lookup-filter-keys}
use Rattle.rohc_station.specs.ByCall.{stands_at}
use Rattle.rohc_station.proofs.calls.keep_standing.Goals as goal

pub returns : goal.returns
returns c key =
    let passes = stands_at c.args.concentrator.now in
    let kept = filter_same_pairs _ (λ e. passes e.0) _ (λ k v b w f' t. search rules) c.args.calls.now.entries c.retain.new.self.entries c.retain.ensures.filtered in
    ap (lookup (nat_eq key)) kept
    ∙ lookup-filter-keys (nat_eq key) passes (passes key) (λ k same. let is : k ≡ key = grind (arith, nat_tests) in ap passes is) c.args.calls.now.entries
