use Rattle.std.proofs.Common.{◌≡◌, ◌++◌, ℕ, List, Some, map}
use Rattle.rohc_context.specs.Record.{Record, record_of}
use Rattle.rohc_context.specs.declared.record.Context.{Context}
use Rattle.rohc_concentrator.specs.RunsCall.{Runs}
use Rattle.rohc_saved.specs.Fallen.{put_as, contexts_as}
use Rattle.rohc_saved.specs.Restoring.{up_to, puts_of}
use Rattle.rohc_saved.proofs.restoring.put_contexts.Given as goal

-- the contexts so far were put
abbrev pub invariant-loop-cid : goal.invariant-loop-cid
invariant-loop-cid l = record {
  done : List (ℕ × Record);
  parts : done ++ map {B = ℕ × Record} (λ (e : ℕ × Context). (e.0, put_as l.falls (record_of e.1))) l.cid-iterator ≡ contexts_as l.falls l.contexts;
  puts : Runs l.initial.concentrator (puts_of l.number (up_to (Some l.greatest) done)) l.concentrator;
}
