-- What is told of what is restored.
use Rattle.std.proofs.Common.{◌≡◌, ℕ, List, [], ◌∷◌, Bool, true, false, cond, if◌then◌else◌, Option, Some, None, sym, ap, subst, ◌∙◌, arith, sum_by, ◌+◌, ◌<◌, ◌≤◌, ◌^◌, length, suc, ◌-◌, is_some}
use Rattle.std.specs.Prelude.{nat_le}
use Rattle.std.proofs.lemmas.List.Sums.{sum_by-cons}
use Rattle.rohc_context.specs.Record.{Record}
use Rattle.rohc_concentrator.specs.declared.concentrator.Concentrator.{Concentrator}
use Rattle.rohc_concentrator.specs.Tables.{record_at, setting_at, settings_in_order}
use Rattle.rohc_concentrator.specs.Setup.{entry_of}
use Rattle.rohc_concentrator.specs.RunsCall.{Runs}
use Rattle.rohc_concentrator.specs.declared.setting.LinkSetting.{LinkSetting}
use Rattle.rohc_saved.specs.declared.restored.Restored.{Restored}
use Rattle.rohc_saved.specs.Form.{Link, Form}
use Rattle.rohc_saved.specs.Output.{counted}
use Rattle.rohc_saved.specs.Restoring.{up_to, puts_in, told_of, Restores, IsToldOfForm, TellsOne, limit_of, taken_link, taken_contexts, left_contexts}
use Rattle.rohc_saved.proofs.PutLemmas.{KeepsTurn, all_puts_in, keep_settings}

-- what was told so far, and what is still to be told, are all
pub record Counts (count : Option LinkSetting → Link → ℕ) (settings : ℕ → Option LinkSetting) (told : ℕ) (rest all : List (ℕ × Link)) : Type 0 where
  pub fits : told ≡ counted told
  pub sum : counted (told + sum_by (λ (l : ℕ × Link). count (settings l.0) l.1) rest) ≡ told_of count settings all

-- one more was told of
pub counts_more : (count : Option LinkSetting → Link → ℕ) (settings : ℕ → Option LinkSetting) (told after : ℕ) (one : ℕ × Link) (rest links all : List (ℕ × Link)) → links ≡ one ∷ rest
    → (more : ℕ) → more ≡ count (settings one.0) one.1 → after ≡ counted (told + more) → Counts count settings told links all → Counts count settings after rest all
counts_more count settings told after one rest links all cut more counts is h =
    let first = sum_by-cons (λ (l : ℕ × Link). count (settings l.0) l.1) one rest in
    let here : counted (told + sum_by (λ (l : ℕ × Link). count (settings l.0) l.1) (one ∷ rest)) ≡ told_of count settings all = subst (λ ls. counted (told + sum_by (λ (l : ℕ × Link). count (settings l.0) l.1) ls) ≡ told_of count settings all) cut h.sum in
    let step : counted (after + sum_by (λ (l : ℕ × Link). count (settings l.0) l.1) rest) ≡ counted (told + sum_by (λ (l : ℕ × Link). count (settings l.0) l.1) (one ∷ rest)) = omega (arith, first, is, counts) in
    record { fits = omega (arith, is); sum = step ∙ here }

-- what is put into a concentrator that was made from settings, and what is told of the form
pub restores : (settings : List LinkSetting) (form put : Form) (made new : Concentrator) (told : Restored) → settings_in_order made ≡ settings → ((link : ℕ) → setting_at made link ≡ entry_of link settings)
    → ((link cid : ℕ) → record_at made link cid ≡ None) → Runs made (puts_in (setting_at made) put.links) new → IsToldOfForm (setting_at new) form told
    → Restores settings put new × IsToldOfForm (λ link. entry_of link settings) form told
restores settings form put made new told in_order each none puts tells =
    let keeps = keep_settings (puts_in (setting_at made) put.links) made new (all_puts_in KeepsTurn (λ n c. tt) (setting_at made) put.links) puts in (
      record {
        made = made;
        in_order = in_order;
        each = each;
        empty = none;
        puts = subst (λ (at : ℕ → Option LinkSetting). Runs made (puts_in at put.links) new) (λ i l. each l i) puts;
      },
      subst (λ (at : ℕ → Option LinkSetting). IsToldOfForm at form told) (λ i l. (keeps.each l ∙ each l) i) tells,
    )

-- with no link left, all were told of
pub counts_all : (count : Option LinkSetting → Link → ℕ) (settings : ℕ → Option LinkSetting) (told : ℕ) (links all : List (ℕ × Link)) → links ≡ [] → Counts count settings told links all → told ≡ told_of count settings all
counts_all count settings told links all none h =
    let here : counted (told + 0) ≡ told_of count settings all = subst (λ ls. counted (told + sum_by (λ (l : ℕ × Link). count (settings l.0) l.1) ls) ≡ told_of count settings all) none h.sum in
    let same : told ≡ counted (told + 0) = omega (arith, h.fits) in
    same ∙ here

-- of those up to a CID there are no more than of all
pub few_up_to : (greatest : ℕ) (xs : List (ℕ × Record)) → length (up_to (Some greatest) xs) ≤ length xs
few_up_to greatest [] = omega arith
few_up_to greatest (x ∷ xs) = by (few_up_to greatest xs) (nat_le x.0 greatest)
  where
    by : length (up_to (Some greatest) xs) ≤ length xs → (b : Bool) → length (cond b (x ∷ up_to (Some greatest) xs) (up_to (Some greatest) xs)) ≤ suc (length xs)
    by few true = omega (arith, few)
    by few false = omega (arith, few)

-- what is told of a link that is taken
pub tells_taken : (s : LinkSetting) (link : Link) (greatest : ℕ) (told : Restored) → limit_of (Some s) link ≡ Some greatest → length link.contexts < 2 ^ 63
    → told.links ≡ 1 → told.unknown_links ≡ 0 → told.other_links ≡ 0 → told.contexts ≡ counted (length (up_to (Some greatest) link.contexts)) → told.left_contexts ≡ 0
    → told.high_contexts ≡ length link.contexts - told.contexts → TellsOne (Some s) link told
tells_taken s link greatest told limit small links unknown other contexts left high =
    let few = few_up_to greatest link.contexts in
    let exact : told.contexts ≡ length (up_to (Some greatest) link.contexts) = omega (arith, few, small, contexts) in
    let taken : told.contexts ≡ taken_contexts (Some s) link = exact ∙ ap (λ limit. length (up_to limit link.contexts)) (sym limit) in
    let one : taken_link (Some s) link ≡ 1 = ap (λ (limit : Option ℕ). if is_some limit then 1 else 0) limit in
    let none : left_contexts (Some s) link ≡ 0 = ap (λ (limit : Option ℕ). if is_some limit then 0 else length link.contexts) limit in
    record {
      links = links ∙ sym one;
      unknown = unknown;
      other = other ∙ ap (λ n. 1 - n - 0) (sym one);
      contexts = taken;
      left = left ∙ sym none;
      high = omega (arith, high, taken, none);
    }
