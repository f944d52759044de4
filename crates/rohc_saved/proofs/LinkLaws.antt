-- One link that was restored: it is what was saved, and the concentrator stays sound.
use Rattle.std.proofs.Common.{◌≡◌, ℕ, ◌<◌, ◌^◌, List, [], ◌∷◌, Bool, true, false, cond, Option, Some, None, Ok, refl, sym, ap, subst, ◌∙◌, arith}
use Rattle.std.specs.Prelude.{All, ◌==◌}
use Rattle.std.proofs.lemmas.List.Elements.{All-head, All-tail, All-nil, All-cons}
use Rattle.rohc_bits.proofs.Steps.{ok_is}
use Rattle.rohc_concentrator.specs.declared.concentrator.Concentrator.{Concentrator}
use Rattle.rohc_concentrator.specs.declared.setting.LinkSetting.{LinkSetting}
use Rattle.rohc_concentrator.specs.CallLaws.{IsFitTurn}
use Rattle.rohc_concentrator.specs.Setting.{IsGoodSetting}
use Rattle.rohc_concentrator.specs.Setup.{entry_of}
use Rattle.rohc_concentrator.specs.Tables.{setting_at, record_at, identifiers_at, settings_in_order}
use Rattle.rohc_concentrator.proofs.SoundLemmas.{calls_keep_sound}
use Rattle.rohc_saved.specs.declared.fault.SavedFault.{SavedFault}
use Rattle.rohc_saved.specs.declared.restored.Restored.{Restored}
use Rattle.rohc_saved.specs.Form.{Link, Form, contexts_of, saved_link_of, saved_link}
use Rattle.rohc_saved.specs.Reading.{restored}
use Rattle.rohc_saved.specs.Restoring.{taken_of}
use Rattle.rohc_saved.specs.LinkRestoring.{RestoresLink}
use Rattle.rohc_saved.specs.Laws.{IsGoodLink, IsGoodForm, LinkComesBack, IsLinkRestoredSound}
use Rattle.rohc_saved.proofs.BackLemmas.{read_back}
use Rattle.rohc_saved.proofs.PutLemmas.{all_puts, IsHeldAt, holds_nothing, puts_held}
use Rattle.rohc_saved.proofs.Distinct.{distinct_none, distinct_more}
use Rattle.rohc_saved.proofs.SoundLemmas.{if_there, good_of, takes_all, holds_own}

-- what all settings are is what the one is that is found
of_entry : (P : LinkSetting → Type 0) (link : ℕ) (ss : List LinkSetting) (s : LinkSetting) → All P ss → entry_of link ss ≡ Some s → P s
of_entry P link [] s all e = absurd (let never : ◌≡◌ {A = Option LinkSetting} None (Some s) = e in cc)
of_entry P link (t ∷ ss) s all e = by (λ rest. of_entry P link ss s (All-tail P t ss all) rest) (t.link == link) e
  where
    by : (entry_of link ss ≡ Some s → P s) → (b : Bool) → cond b (Some t) (entry_of link ss) ≡ Some s → P s
    by later true e = let same : t ≡ s = (let both : ◌≡◌ {A = Option LinkSetting} (Some t) (Some s) = e in cc) in subst P same (All-head P t ss all)
    by later false e = later e

-- a setting is one
some_is : (s t : LinkSetting) → ◌≡◌ {A = Option LinkSetting} (Some s) (Some t) → s ≡ t
some_is s t e = cc

one_is : (l m : ℕ × Link) → ◌≡◌ {A = List (ℕ × Link)} (l ∷ []) (m ∷ []) → l ≡ m
one_is l m e = cc

one_form : (moment : ℕ) (l : ℕ × Link) → moment < 2 ^ 64 → IsGoodLink l → IsGoodForm (record { moment = moment; links = l ∷ [] })
one_form moment l small good = record {
  moment = small;
  few = omega arith;
  links = All-cons IsGoodLink l [] good (All-nil IsGoodLink);
  apart = distinct_more l.0 [] distinct_none refl;
}

pub link_comes_back : LinkComesBack
link_comes_back k moment s sound small at = (reads, λ old new told here back. same old new told here back)
  where
    entry : entry_of s.link (settings_in_order k) ≡ Some s
    entry = sym (sound.each s.link) ∙ at

    good : IsGoodLink (saved_link_of k s)
    good = good_of k s sound at (of_entry (λ (s : LinkSetting). s.link < 65536) s.link (settings_in_order k) s sound.numbers entry) (of_entry IsGoodSetting s.link (settings_in_order k) s sound.settings.good entry)

    form : Form
    form = record { moment = moment; links = saved_link_of k s ∷ [] }

    reads : restored (saved_link moment k s) ≡ Ok form
    reads = read_back form (one_form moment (saved_link_of k s) small good)

    same : (old new : Concentrator) (told : Restored) → setting_at old s.link ≡ Some s → RestoresLink old s.link (saved_link moment k s) told new
        → ((cid : ℕ) → record_at new s.link cid ≡ record_at k s.link cid) × (identifiers_at new s.link ≡ identifiers_at k s.link)
    same old new told here back =
        let setting : back.setting ≡ s = some_is back.setting s (sym back.ready.there ∙ here) in
        let is : back.form ≡ form = ok_is {E = SavedFault} back.form form (sym back.spells.spelled ∙ reads) in
        let saved : (s.link, back.saved) ≡ saved_link_of k s = one_is (s.link, back.saved) (saved_link_of k s) (sym back.spells.alone ∙ ap (λ (f : Form). f.links) is) in
        let all : taken_of (Some back.setting) back.saved ≡ contexts_of k s.link =
        (λ i. taken_of (Some (setting i)) (saved i).1) ∙ sym (ap (λ o. taken_of o (saved_link_of k s).1) entry) ∙ takes_all k sound s entry good in
        let new_held : IsHeldAt new s.link (contexts_of k s.link) =
        subst (IsHeldAt new s.link) all (puts_held s.link (taken_of (Some back.setting) back.saved) [] old new back.puts (holds_nothing old s.link back.ready.empty)) in
        let old_held : IsHeldAt k s.link (contexts_of k s.link) = subst (λ o. IsHeldAt k s.link (if_there o (contexts_of k s.link))) entry (holds_own k sound s.link) in
        (λ cid. new_held.records cid ∙ sym (old_held.records cid), new_held.identifiers ∙ sym old_held.identifiers)

pub link_restored_sound : IsLinkRestoredSound
link_restored_sound old new link text told back sound = calls_keep_sound old new _ (all_puts IsFitTurn (λ n c. tt) link (taken_of (Some back.setting) back.saved)) back.puts sound
