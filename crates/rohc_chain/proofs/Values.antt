-- Self-describing values: what stands at the front of a text is read.
use Rattle.std.proofs.Common.{◌≡◌, ℕ, List, ◌++◌, Ok, ap}
use Rattle.rohc_bits.specs.Reading.{◌>>=◌}
use Rattle.rohc_bits.specs.Spelling.{IsSpelled}
use Rattle.rohc_bits.proofs.ValueSteps.{value_given}
pub use Rattle.rohc_frame.specs.Laws.{IsOctet}
use Rattle.rohc_chain.specs.declared.refusal.ChainRefusal.TheVariants.{Truncated}
use Rattle.rohc_chain.specs.Octets.{read, value_at}

-- a value that stands at the front is read
pub value_read : (t rest : List ℕ) (v : ℕ) → IsSpelled t v → read value_at (t ++ rest) ≡ Ok (v, rest)
unfolding value_at
value_read t rest v is = ap (λ r. r >>= λ x. Ok (x.0.value, x.1)) (value_given Truncated t rest v is.spells)
