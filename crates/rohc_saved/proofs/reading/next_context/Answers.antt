use Rattle.rohc_context.specs.Record.{record_of}
use Rattle.rohc_saved.specs.Form.{contexts_in}
use Rattle.rohc_saved.proofs.MapLemmas.{context_last}
use Rattle.rohc_saved.proofs.ReadingLemmas.{context_reads}
use Rattle.rohc_saved.proofs.reading.next_context.Goals as goal

pub returns-in-Ok : goal.returns-in-Ok
returns-in-Ok c = record {
  reads = (
    (c.in_ok-cid.cid, record_of c.in_ok-context.context),
    context_reads c.args.total c.args.greatest c.in_ok-cid.cid (contexts_in c.args.contexts.now) c.args.cursor.now c.cid.new.cursor c.context.new.cursor (record_of c.in_ok-context.context) c.in_ok-cid.ensures.reads c.in_ok-context.ensures.reads,
    context_last c.args.contexts.now c.insert.new.self c.in_ok-cid.cid c.in_ok-context.context c.in_ok-cid.ensures.fresh c.in-Ok.ensures.entries,
  );
}
