use Rattle.std.proofs.Common.{◌≡◌, ◌++◌, drop, not}
use Rattle.std.specs.Prelude.{filter}
use Rattle.rohc_faults.specs.Limits.{is_within, keys_beyond}
use Rattle.rohc_faults.proofs.limits.keys_beyond.Given as goal

abbrev pub invariant-loop-key : goal.invariant-loop-key
invariant-loop-key l = l.beyond.items ++ filter (λ k. not (is_within k l.setting)) (drop l.key-index l.key-items)
    ≡ keys_beyond l.setting
