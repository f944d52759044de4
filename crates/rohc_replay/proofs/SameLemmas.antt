-- Two replays that agree on a pair tell it the same.
use Rattle.std.proofs.Common.{ℕ, List, [], ◌∷◌, map, Bool, sym, ◌∙◌, ap, subst}
use Rattle.std.specs.List.{flat_map}
use Rattle.rohc_concentrator.specs.declared.setting.LinkSetting.{LinkSetting}
use Rattle.rohc_concentrator.specs.Setting.{settings_of}
use Rattle.rohc_concentrator.specs.Tables.{record_at}
use Rattle.rohc_concentrator.specs.LoneRun.{LoneRun}
use Rattle.rohc_concentrator.specs.Events.{Event, Arrive, Reset}
use Rattle.rohc_concentrator.specs.Laws.{IsFit}
use Rattle.rohc_concentrator.proofs.GoodLemmas.{good_setting, good_settings_of, good_record_at}
use Rattle.rohc_concentrator.proofs.SameLemmas.{AreGoodEvents, good_more}
use Rattle.rohc_concentrator.proofs.WorldLemmas.{lone_run_one}
use Rattle.rohc_replay.specs.AnswerLines.{response_lines}
use Rattle.rohc_replay.specs.Isolation.{own_unmarked, own_marked}
use Rattle.rohc_replay.specs.Laws.{SameLines}
use Rattle.rohc_replay.specs.Script.{IsEvent, Line, Good, Bad, Long, lines_of}
use Rattle.rohc_replay.proofs.ToldLemmas.{AreFit, lines_fit}

-- what a line spells fits a concentrator
event_fit : (e : Event) → IsEvent e → IsFit e
event_fit (Arrive k m octets) fits = (fits.1, fits.3)
event_fit (Reset k) fits = tt

-- the own events of a script are good
good_own : (s : LinkSetting) (l c : ℕ) (marked : List (Line × Bool)) → AreFit (map (λ (m : Line × Bool). m.0) marked) → AreGoodEvents (settings_of s c) (own_unmarked s l c marked)
good_own s l c [] fit = tt
good_own s l c ((Good e, mark) ∷ marked) fit = good_more s l c e mark (own_marked s l c marked) (event_fit e fit.0) (good_own s l c marked fit.1)
good_own s l c ((Bad, mark) ∷ marked) fit = good_own s l c marked fit
good_own s l c ((Long, mark) ∷ marked) fit = good_own s l c marked fit

pub same_lines : SameLines
same_lines a b p q l c agree lf cf same =
    let s = agree.here in
    let t = agree.there in
    let here = p.alone (record { link = l; cid = c; setting = s }) (record { link_fits = lf; cid_fits = cf; set = agree.set_here }) in
    let there = q.alone (record { link = l; cid = c; setting = t }) (record { link_fits = lf; cid_fits = cf; set = agree.set_there }) in
    let fit : AreFit (map (λ (m : Line × Bool). m.0) p.marked) = lines_fit (lines_of a.text) _ p.script in
    let moved : LoneRun (settings_of s c) (record_at a.before l c) (own_unmarked s l c p.marked) there.replies (record_at b.after l c) =
    subst (λ es. LoneRun (settings_of s c) (record_at a.before l c) es there.replies (record_at b.after l c)) (sym same)
    (subst (λ z. LoneRun z (record_at a.before l c) (own_unmarked t l c q.marked) there.replies (record_at b.after l c)) (sym agree.settings)
    (subst (λ z. LoneRun (settings_of t c) z (own_unmarked t l c q.marked) there.replies (record_at b.after l c)) (sym agree.records) there.run)) in
    let one = lone_run_one (settings_of s c) (record_at a.before l c) (own_unmarked s l c p.marked) here.replies there.replies (record_at a.after l c) (record_at b.after l c)
    (good_settings_of s c (good_setting a.before l s agree.set_here)) (good_own s l c p.marked fit) (good_record_at a.before l c) here.run moved in
    (here.told ∙ ap (flat_map (response_lines l c)) one.0 ∙ sym there.told, one.1)
