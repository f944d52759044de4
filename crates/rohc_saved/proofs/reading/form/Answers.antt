use Rattle.std.proofs.Common.{refl}
use Rattle.rohc_saved.specs.Read.{form_in}
use Rattle.rohc_saved.specs.Reading.{form_at, count_at}
use Rattle.rohc_saved.proofs.ReadingLemmas.{stops, either_by}
use Rattle.rohc_saved.proofs.reading.form.Goals as goal

pub returns-in_err-links : goal.returns-in_err-links
unfolding form_at count_at
returns-in_err-links c = record {
  reads =
      stops form_in c.from_residual-in_err-links.result c.links.new.cursor c.in_err-links.field-0.0 (form_at c.args.total c.args.cursor.now) c.from_residual-in_err-links.ensures.0 c.from_residual-in_err-links.ensures.1
      (either_by
      (λ poor. (poor.0, (c.in_ok-count.count, c.word.new.cursor, rw (c.in_ok-magic.ensures.reads, c.in_ok-version.ensures.reads, c.in_ok-moment.ensures.reads, c.in_ok-count.ensures.reads) refl, poor.1)))
      (λ stop. rw (c.in_ok-magic.ensures.reads, c.in_ok-version.ensures.reads, c.in_ok-moment.ensures.reads, c.in_ok-count.ensures.reads) (rw stop refl)) c.in_err-links.ensures.reads);
}
