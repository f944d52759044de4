use Rattle.std.proofs.Common.{◌≡◌, ◌++◌, ℕ, map}
use Rattle.rohc_concentrator.specs.declared.records.LinkRecords.{LinkRecords}
use Rattle.rohc_piecewise.specs.Piecewise.{head_of, heads_of}
use Rattle.rohc_piecewise.specs.Noted.{head_in}
use Rattle.rohc_piecewise.proofs.saving.heads_of.Given as goal

-- the links so far were noted
abbrev pub invariant-loop-records : goal.invariant-loop-records
invariant-loop-records l =
    map head_in l.heads.items ++ map head_of (map (λ (e : ℕ × LinkRecords). e.1.setting) l.records-iterator) ≡ heads_of l.concentrator
