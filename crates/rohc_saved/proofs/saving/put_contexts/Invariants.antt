use Rattle.std.proofs.Common.{◌≡◌, ◌++◌, ℕ, List, Option, flat_map, map}
use Rattle.rohc_context.specs.Record.{record_of}
use Rattle.rohc_context.specs.declared.record.Context.{Context}
use Rattle.rohc_saved.specs.Form.{contexts_in, context_text}
use Rattle.rohc_saved.specs.Output.{IsPut}
use Rattle.rohc_saved.proofs.saving.put_contexts.Given as goal

-- the contexts so far were put out
abbrev pub invariant-loop-cid : goal.invariant-loop-cid
invariant-loop-cid g l = record {
  front : List ℕ;
  parts : front ++ flat_map context_text (map (λ (e : ℕ × Context). (e.0, record_of e.1)) l.cid-iterator) ≡ flat_map context_text (contexts_in l.contexts);
  put : (held : Option (List ℕ)) (text : List ℕ) → IsPut held (g.W.Write.contents l.initial.writer) text l.initial.out → IsPut held (g.W.Write.contents l.writer) (text ++ front) l.out;
}
