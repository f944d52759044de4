-- Sound concentrators, and runs that are cut by a restart.
use Rattle.std.proofs.Common.{◌≡◌, ℕ, ◌≤◌, [], map, Option, refl, sym, ap, subst, ◌∙◌, nat_eq}
use Rattle.std.specs.Prelude.{All}
use Rattle.std.specs.List.{IsDistinct}
use Rattle.std.proofs.lemmas.List.Elements.{All-nil}
use Rattle.rohc_concentrator.specs.declared.setting.LinkSetting.{LinkSetting}
use Rattle.rohc_concentrator.specs.CallLaws.{IsFitTurn}
use Rattle.rohc_concentrator.specs.Laws.{Agree}
use Rattle.rohc_concentrator.specs.Setup.{entry_of}
use Rattle.rohc_concentrator.specs.Tables.{identifiers_at}
use Rattle.rohc_concentrator.specs.Seen.{View}
use Rattle.rohc_concentrator.proofs.CutLemmas.{cut_run}
use Rattle.rohc_concentrator.proofs.OwnLemmas.{cut_calls}
use Rattle.rohc_concentrator.proofs.ViewLemmas.{keeps_view}
use Rattle.rohc_concentrator.proofs.EventCalls.{turn_of, events_run, fit_turns}
use Rattle.rohc_concentrator.proofs.SoundLemmas.{calls_keep_sound}
use Rattle.rohc_saved.specs.Restoring.{puts_in}
use Rattle.rohc_saved.specs.Laws.{IsMadeSound, IsKeptSound, IsRestoredSound, CutByRestart, CutCallsByRestart}
use Rattle.rohc_saved.proofs.Distinct.{distinct_none}
use Rattle.rohc_saved.proofs.PutLemmas.{all_puts_in, holds_none}
use Rattle.rohc_saved.proofs.SoundLemmas.{comes_back}

pub kept_sound : IsKeptSound
kept_sound old new keeps sound = record {
  few = rw keeps.settings.in_order sound.few;
  settings = rw keeps.settings.in_order sound.settings;
  each = λ l. keeps.settings.each l ∙ sound.each l ∙ ap (entry_of l) (sym keeps.settings.in_order);
  numbers = rw keeps.settings.in_order sound.numbers;
  apart = λ l. subst (IsDistinct nat_eq) (sym (keeps.order l)) (sound.apart l);
  within = λ l s e. subst (All (λ cid. cid ≤ s.settings.max_cid)) (sym (keeps.order l)) (sound.within l s (sym (keeps.settings.each l) ∙ e));
}

pub made_sound : IsMadeSound
made_sound settings k fine numbers in_order each none =
    let ids : (l : ℕ) → identifiers_at k l ≡ [] = λ l. (holds_none k l (none l)).identifiers in
    record {
      few = rw in_order fine.few;
      settings = rw in_order fine.sound;
      each = λ l. each l ∙ ap (entry_of l) (sym in_order);
      numbers = rw in_order numbers;
      apart = λ l. subst (IsDistinct nat_eq) (sym (ids l)) distinct_none;
      within = λ l s e. subst (All (λ cid. cid ≤ s.settings.max_cid)) (sym (ids l)) (All-nil (λ cid. cid ≤ s.settings.max_cid));
    }

pub restored_sound : IsRestoredSound
restored_sound settings form k fine numbers back =
    let at : ℕ → Option LinkSetting = λ link. entry_of link settings in
    calls_keep_sound back.made k (puts_in at form.links) (all_puts_in IsFitTurn (λ n c. tt) at form.links) back.puts (made_sound settings back.made fine numbers back.in_order back.each back.empty)

-- ---- Runs that are cut

pub cut_by_restart : CutByRestart
cut_by_restart whole front behind runs e fit_front fit_behind sound =
    let (cut, first, second) = cut_run whole front behind runs e in (
      cut,
      first,
      λ other l c goes.
          let keeps = (comes_back cut goes.moment (calls_keep_sound whole.before cut (map turn_of front) (fit_turns front fit_front) (events_run whole.before cut front first) sound) goes.fits).1 goes.form other.before goes.saved goes.back in
          let agree : Agree cut other.before l c = record {
            here = goes.here;
            there = goes.here;
            set_here = goes.set;
            set_there = keeps.settings.each l ∙ goes.set;
            settings = refl;
            records = sym (keeps.records l c);
          } in
          second other l c (record { agree = agree; fit = fit_behind; runs = goes.runs; same = goes.same }),
    )

pub cut_calls_by_restart : CutCallsByRestart
cut_calls_by_restart k after front behind runs fit_front fit_behind sound =
    let (cut, first, second) = cut_calls k after front behind runs fit_behind in (
      cut,
      first,
      λ b after_b ys l c from other same.
          let keeps = (comes_back cut from.moment (calls_keep_sound k cut front fit_front first sound) from.fits).1 from.form b from.saved from.back in
          second b after_b ys l c (sym (ap (λ (v : View). v.seen c) (keeps_view cut b l keeps))) other same,
    )
