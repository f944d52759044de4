use Rattle.std.proofs.Common.{refl}
use Rattle.rohc_saved.specs.declared.form.SavedLink.{SavedLink}
use Rattle.rohc_saved.specs.Read.{link_in}
use Rattle.rohc_saved.specs.Reading.{link_at}
use Rattle.rohc_saved.proofs.MapLemmas.{link_last}
use Rattle.rohc_saved.proofs.reading.next_link.Goals as goal

pub returns-in-Ok : goal.returns-in-Ok
unfolding link_at
returns-in-Ok c =
    let link : SavedLink = record { size = c.in_ok-size.size; greatest = c.in_ok-greatest.greatest; contexts = c.in_ok-contexts.contexts } in
    record {
      reads = (
        (c.in_ok-number.number, link_in link),
        rw (c.in_ok-number.ensures.reads, c.in_ok-size.ensures.reads, c.in_ok-reserved.ensures.reads, c.in_ok-greatest.ensures.reads, c.in_ok-count.ensures.reads, c.in_ok-contexts.ensures.reads) refl,
        link_last c.args.links.now c.insert.new.self c.in_ok-number.number link c.in_ok-number.ensures.fresh c.in-Ok.ensures.entries,
      );
    }
