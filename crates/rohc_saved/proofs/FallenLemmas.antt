-- What is restored fallen: each record fell, and all else is as it was saved.
use Rattle.std.proofs.Common.{◌≡◌, ℕ, List, [], ◌∷◌, ◌++◌, map, Bool, true, false, cond, if◌then◌else◌, Option, Some, None, option_map, refl, sym, ap, ◌∙◌, nat_eq}
use Rattle.std.specs.Prelude.{nat_le}
use Rattle.std.specs.Map.{lookup}
use Rattle.std.proofs.lemmas.List.{map-append}
use Rattle.rohc_context.specs.declared.record.Context.{Context}
use Rattle.rohc_context.specs.Record.{Record, record_of}
use Rattle.rohc_context.specs.Fallen.{fallen}
use Rattle.rohc_concentrator.specs.declared.concentrator.Concentrator.{Concentrator}
use Rattle.rohc_concentrator.specs.declared.setting.LinkSetting.{LinkSetting}
use Rattle.rohc_concentrator.specs.Setup.{entry_of}
use Rattle.rohc_concentrator.specs.Tables.{KeepsSettings}
use Rattle.rohc_saved.specs.declared.form.SavedForm.{SavedForm}
use Rattle.rohc_saved.specs.declared.form.SavedLink.{SavedLink}
use Rattle.rohc_saved.specs.Form.{Link, Form}
use Rattle.rohc_saved.specs.Read.{link_in, form_in}
use Rattle.rohc_saved.specs.Restoring.{is_same, up_to, taken_of, puts_in, Restores}
use Rattle.rohc_saved.specs.Fallen.{fallen_context, fallen_link, fallen_form, form_as, link_as, links_as}
use Rattle.rohc_saved.specs.Laws.{ComesBackFallen}
use Rattle.rohc_saved.proofs.FormOrder.{firsts}
use Rattle.rohc_saved.proofs.PutLemmas.{KeepsTurn, all_puts_in, keep_settings, IsHeldAt, holds_none, own, taken_at, links_held}

-- ---- What was read, as it is put

contexts_put : (es : List (ℕ × Context)) → map fallen_context (map (λ (e : ℕ × Context). (e.0, record_of e.1)) es) ≡ map (λ (e : ℕ × Context). (e.0, fallen (record_of e.1))) es
contexts_put [] = refl
contexts_put (e ∷ es) = ap (λ cs. (e.0, fallen (record_of e.1)) ∷ cs) (contexts_put es)

all_put : (es : List (ℕ × SavedLink)) → map fallen_link (map (λ (e : ℕ × SavedLink). (e.0, link_in e.1)) es) ≡ map (λ (e : ℕ × SavedLink). (e.0, link_as true e.1)) es
all_put [] = refl
all_put (e ∷ es) =
    let one : List (ℕ × Record) → ℕ × Link = λ cs. (e.0, record { size = e.1.size; greatest = e.1.greatest; contexts = cs }) in
    (λ i. one (contexts_put e.1.contexts.entries i) ∷ all_put es i)

pub links_put : (falls : Bool) (f : SavedForm) → (form_as falls (form_in f)).links ≡ links_as falls f.links
links_put false f = refl
links_put true f = all_put f.links.entries

-- ---- What a link holds

up_to_fallen : (limit : Option ℕ) (cs : List (ℕ × Record)) → up_to limit (map fallen_context cs) ≡ map fallen_context (up_to limit cs)
up_to_fallen None cs = refl
up_to_fallen (Some greatest) [] = refl
up_to_fallen (Some greatest) (c ∷ cs) = by (up_to_fallen (Some greatest) cs) (nat_le c.0 greatest)
  where
    by : up_to (Some greatest) (map fallen_context cs) ≡ map fallen_context (up_to (Some greatest) cs) → (b : Bool)
        → cond b (fallen_context c ∷ up_to (Some greatest) (map fallen_context cs)) (up_to (Some greatest) (map fallen_context cs))
        ≡ map fallen_context (cond b (c ∷ up_to (Some greatest) cs) (up_to (Some greatest) cs))
    by rest true = ap (λ cs. fallen_context c ∷ cs) rest
    by rest false = rest

taken_fallen : (s : Option LinkSetting) (l : ℕ × Link) → taken_of s (fallen_link l).1 ≡ map fallen_context (taken_of s l.1)
taken_fallen None l = refl
taken_fallen (Some s) l = up_to_fallen (if is_same s.settings.size l.1.size then Some s.settings.max_cid else None) l.1.contexts

own_fallen : (here : Bool) (cs : List (ℕ × Record)) → (if here then map fallen_context cs else []) ≡ map fallen_context (if here then cs else [])
own_fallen true cs = refl
own_fallen false cs = refl

all_fallen : (at : ℕ → Option LinkSetting) (links : List (ℕ × Link)) (l : ℕ) → taken_at at (map fallen_link links) l ≡ map fallen_context (taken_at at links l)
all_fallen at [] l = refl
all_fallen at (one ∷ links) l =
    let first : own one.0 (taken_of (at one.0) (fallen_link one).1) l ≡ map fallen_context (own one.0 (taken_of (at one.0) one.1) l) =
    ap (λ cs. own one.0 cs l) (taken_fallen (at one.0) one) ∙ own_fallen (nat_eq one.0 l) (taken_of (at one.0) one.1) in
    (λ i. first i ++ all_fallen at links l i) ∙ sym (map-append fallen_context (own one.0 (taken_of (at one.0) one.1) l) (taken_at at links l))

firsts_fallen : (cs : List (ℕ × Record)) → firsts (map fallen_context cs) ≡ firsts cs
firsts_fallen [] = refl
firsts_fallen (c ∷ cs) = ap (λ cids. c.0 ∷ cids) (firsts_fallen cs)

lookup_fallen : (cid : ℕ) (cs : List (ℕ × Record)) → lookup (nat_eq cid) (map fallen_context cs) ≡ option_map fallen (lookup (nat_eq cid) cs)
lookup_fallen cid [] = refl
lookup_fallen cid (c ∷ cs) = by (lookup_fallen cid cs) (nat_eq cid c.0)
  where
    by : lookup (nat_eq cid) (map fallen_context cs) ≡ option_map fallen (lookup (nat_eq cid) cs) → (b : Bool)
        → cond b (Some (fallen c.1)) (lookup (nat_eq cid) (map fallen_context cs)) ≡ option_map fallen (cond b (Some c.1) (lookup (nat_eq cid) cs))
    by rest true = refl
    by rest false = rest

-- what is restored from a form keeps the settings, and each link holds what was taken for it
record Holds (settings : List LinkSetting) (form : Form) (k : Concentrator) : Type 0 where
  made : Concentrator
  set : KeepsSettings made k
  each : (l : ℕ) → IsHeldAt k l (taken_at (λ link. entry_of link settings) form.links l)

holds : (settings : List LinkSetting) (form : Form) (k : Concentrator) → Restores settings form k → Holds settings form k
holds settings form k back =
    let at : ℕ → Option LinkSetting = λ link. entry_of link settings in
    record {
      made = back.made;
      set = keep_settings (puts_in at form.links) back.made k (all_puts_in KeepsTurn (λ n c. tt) at form.links) back.puts;
      each = λ l. links_held at form.links l [] back.made k back.puts (holds_none back.made l (back.empty l));
    }

pub comes_back_fallen : ComesBackFallen
unfolding holds
comes_back_fallen settings form k new back fell =
    let at : ℕ → Option LinkSetting = λ link. entry_of link settings in
    let a = holds settings form k back in
    let b = holds settings (fallen_form form) new fell in
    record {
      settings = record {
        each = λ l. b.set.each l ∙ fell.each l ∙ sym (a.set.each l ∙ back.each l);
        in_order = b.set.in_order ∙ fell.in_order ∙ sym (a.set.in_order ∙ back.in_order);
      };
      records = λ l cid.
          (b.each l).records cid ∙ ap (lookup (nat_eq cid)) (all_fallen at form.links l) ∙ lookup_fallen cid (taken_at at form.links l) ∙ ap (option_map fallen) (sym ((a.each l).records cid));
      order = λ l. (b.each l).identifiers ∙ ap firsts (all_fallen at form.links l) ∙ firsts_fallen (taken_at at form.links l) ∙ sym ((a.each l).identifiers);
    }
