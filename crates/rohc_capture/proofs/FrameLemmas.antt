-- One EtherType of a frame, with those behind it.
use Rattle.std.proofs.Common.{◌≡◌, ℕ, zero, suc, ◌+◌, ◌-◌, ◌<◌, ◌≤◌, ◌%◌, List, Option, Some, Err, if◌then◌else◌, refl, arith}
use Rattle.rohc_capture.specs.declared.fault.FrameFault.TheVariants.{Tags}
use Rattle.rohc_capture.specs.Octets.{◌>>=◌, word_at}
use Rattle.rohc_capture.specs.Frame.{is_tag, typed, untagged}

-- the first of several
pub untagged_step : (n k : ℕ) (vlan : Option ℕ) (text : List ℕ) → k < n
    → untagged (n - k) vlan text ≡ (word_at text >>= λ (kind, rest).
    if is_tag kind then (word_at rest >>= λ (tag, rest). untagged (n - (k + 1)) (Some (tag % 4096)) rest)
    else typed vlan kind rest)
unfolding untagged
untagged_step n k vlan text below =
    let s : n - k ≡ suc (n - (k + 1)) = omega (arith, below) in
    rw s refl

-- no more may follow
pub untagged_none : (n k : ℕ) (vlan : Option ℕ) (text : List ℕ) → n ≤ k → untagged (n - k) vlan text ≡ Err Tags
unfolding untagged
untagged_none n k vlan text past =
    let s : n - k ≡ zero = omega (arith, past) in
    rw s refl
