use Rattle.std.proofs.Common.{ap, length, arith}
use Rattle.hex.specs.Hex.{lower_digits}
use Rattle.hex.proofs.HexLemmas.{length-encode_with}
use Rattle.rohc_replay.proofs.words.read_pairs.Goals as goal
use Rattle.rohc_replay.proofs.words.read_pairs.Goals.{then-size-eq0-via-then-size-eq0, then-size-eq0-via-else-size-eq0+then-text-eq1, then-size-eq0-via-else-size-eq0+else-text-eq1+then-packet-size}

pub returns-then-size-eq0-clause-none : goal.returns-then-size-eq0-clause-none
returns-then-size-eq0-clause-none c octets some few small same =
    let size = length-encode_with lower_digits octets in
    let whole = ap length same in
    elim c.then-size-eq0.branch [
      | then-size-eq0-via-then-size-eq0 w ↦ omega arith
      | then-size-eq0-via-else-size-eq0+then-text-eq1 w ↦ omega arith
      | then-size-eq0-via-else-size-eq0+else-text-eq1+then-packet-size w ↦ omega arith
    ]
