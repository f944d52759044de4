use Rattle.std.proofs.Common.{◌≡◌, ◌++◌, ℕ, List, map}
use Rattle.rohc_concentrator.specs.Tables.{setting_at}
use Rattle.rohc_concentrator.specs.RunsCall.{Runs}
use Rattle.rohc_saved.specs.declared.form.SavedLink.{SavedLink}
use Rattle.rohc_saved.specs.Form.{Link}
use Rattle.rohc_saved.specs.Fallen.{link_as, links_as}
use Rattle.rohc_saved.specs.Restoring.{puts_in}
use Rattle.rohc_saved.proofs.restoring.take_links.Given as goal

-- the links so far were taken
abbrev pub invariant-loop-number : goal.invariant-loop-number
invariant-loop-number l = record {
  done : List (ℕ × Link);
  parts : done ++ map {B = ℕ × Link} (λ (e : ℕ × SavedLink). (e.0, link_as l.falls e.1)) l.number-iterator ≡ links_as l.falls l.links;
  puts : Runs l.initial.concentrator (puts_in (setting_at l.initial.concentrator) done) l.concentrator;
}
