use Rattle.std.proofs.Common.{◌≡◌, ◌∷◌, ◌++◌, ◌∙◌, ℕ, List, [], map, ap, sym, subst, append-nil}
use Rattle.rohc_concentrator.specs.Tables.{setting_at}
use Rattle.rohc_concentrator.specs.RunsCall.{Runs}
use Rattle.rohc_saved.specs.declared.form.SavedLink.{SavedLink}
use Rattle.rohc_saved.specs.Form.{Link}
use Rattle.rohc_saved.specs.Fallen.{link_as, links_as}
use Rattle.rohc_saved.specs.Restoring.{taken_of, puts_of, puts_in}
use Rattle.rohc_saved.proofs.FormLemmas.{parts_more}
use Rattle.rohc_saved.proofs.PutLemmas.{puts_in_more, all_puts_in, KeepsTurn, keep_settings}
use Rattle.rohc_saved.proofs.restoring.take_links.Goals as goal

pub loop-number-preserved : goal.loop-number-preserved
loop-number-preserved c =
    let seen : List (ℕ × SavedLink) → List (ℕ × Link) = map (λ (e : ℕ × SavedLink). (e.0, link_as c.args.falls e.1)) in
    let old = c.args.concentrator.now in
    let done = c.loop-number.invariant.done in
    let one : ℕ × Link = (c.in-Some.number.now, link_as c.args.falls c.in-Some.link.now) in
    let keeps = keep_settings (puts_in (setting_at old) done) old c.loop-number.concentrator (all_puts_in KeepsTurn (λ n c. tt) (setting_at old) done) c.loop-number.invariant.puts in
    record {
      done = done ++ one ∷ [];
      parts = parts_more done (one ∷ []) (seen c.next.new.self) (seen c.loop-number.number-iterator) (links_as c.args.falls c.args.links.now) (ap seen c.in-Some.ensures.steps) c.loop-number.invariant.parts;
      puts = puts_in_more (setting_at old) done one old c.loop-number.concentrator c.take_link.new.concentrator c.loop-number.invariant.puts
          (subst (λ s. Runs c.loop-number.concentrator (puts_of one.0 (taken_of s one.1)) c.take_link.new.concentrator) (keeps.each one.0) c.in_ok-take_link.ensures.puts);
    }

pub returns : goal.returns
returns c =
    let seen : List (ℕ × SavedLink) → List (ℕ × Link) = map (λ (e : ℕ × SavedLink). (e.0, link_as c.args.falls e.1)) in
    let all : c.loop-number.invariant.done ≡ links_as c.args.falls c.args.links.now = sym (append-nil c.loop-number.invariant.done) ∙ ap (λ es. c.loop-number.invariant.done ++ seen es) (sym c.in-None.ensures.steps.0) ∙ c.loop-number.invariant.parts in
    record { puts = subst (λ ls. Runs c.args.concentrator.now (puts_in (setting_at c.args.concentrator.now) ls) c.loop-number.concentrator) all c.loop-number.invariant.puts }
