use Rattle.std.proofs.Common.{◌≡◌, ◌+◌, ◌<◌, ◌^◌, ℕ, Some, map, length}
use Rattle.rohc_context.specs.Record.{Record, record_of}
use Rattle.rohc_context.specs.declared.record.Context.{Context}
use Rattle.rohc_saved.specs.Form.{contexts_in}
use Rattle.rohc_saved.specs.Output.{counted}
use Rattle.rohc_saved.specs.Restoring.{up_to}
use Rattle.rohc_saved.proofs.restoring.count_up_to.Given as goal

-- those so far were counted
abbrev pub invariant-loop-cid : goal.invariant-loop-cid
invariant-loop-cid l = record {
  fits : l.count < 2 ^ 64;
  counts :
      counted (l.count + length (up_to (Some l.greatest) (map {B = ℕ × Record} (λ (e : ℕ × Context). (e.0, record_of e.1)) l.cid-iterator)))
      ≡ counted (length (up_to (Some l.greatest) (contexts_in l.contexts)));
}
