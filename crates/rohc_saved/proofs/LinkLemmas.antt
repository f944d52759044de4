-- One link that is restored.
use Rattle.std.proofs.Common.{◌≡◌, ◌≢◌, ℕ, List, [], ◌∷◌, map, Bool, true, false, cond, if◌then◌else◌, Ok, Result, Option, Some, None, nat_eq, refl, sym, ap, subst, ◌∙◌, arith, length}
use Rattle.std.specs.Prelude.{nat_le, filter}
use Rattle.std.specs.List.{AllByRecursion}
use Rattle.std.specs.Map.{lookup, keys_of}
use Rattle.std.specs.HashMap.{HashMap, get}
use Rattle.std.proofs.lemmas.Bool.Decides.{nat_tests}
use Rattle.std.proofs.lemmas.Map.Made.{IsDistinct-keys_filter}
use Rattle.rohc_context.specs.Record.{Record}
use Rattle.rohc_context.specs.declared.record.Context.{Context}
use Rattle.rohc_concentrator.specs.declared.answer.NoLink.{NoLink}
use Rattle.rohc_concentrator.specs.declared.concentrator.Concentrator.{Concentrator}
use Rattle.rohc_concentrator.specs.declared.putting.PutFault.{PutFault}
use Rattle.rohc_concentrator.specs.declared.putting.PutFault.TheVariants as puts
use Rattle.rohc_concentrator.specs.declared.records.LinkRecords.{LinkRecords}
use Rattle.rohc_concentrator.specs.declared.setting.LinkSetting.{LinkSetting}
use Rattle.rohc_concentrator.specs.Tables.{identifiers_at, IsLink, KeepsAll}
use Rattle.rohc_concentrator.specs.Calls.{Done, plain_answer}
use Rattle.rohc_saved.specs.declared.form.SavedLink.{SavedLink}
use Rattle.rohc_saved.specs.Form.{Link, Form}
use Rattle.rohc_saved.specs.Read.{link_in, links_in}
use Rattle.rohc_saved.specs.Reading.{restored}
use Rattle.rohc_saved.specs.Restoring.{is_same, limit_of, up_to, StopsAt}
use Rattle.rohc_saved.specs.LinkRestoring.{IsReady, RunsOut, reset_turn}
use Rattle.rohc_saved.proofs.FormOrder.{HasApart, form_order}
use Rattle.rohc_saved.proofs.PutLemmas.{ArePuttable, runs_out}

no_pairs : {V : Type 0} (es : List (ℕ × V)) → length es ≡ 0 → es ≡ []
no_pairs [] e = refl
no_pairs (e ∷ es) is = absurd (omega (arith, is))

-- a link holds nothing exactly if its map is empty
pub held_none : (k : Concentrator) (link : ℕ) (r : LinkRecords) → IsLink k link r → length r.contexts.entries ≡ 0 → identifiers_at k link ≡ []
held_none k link r is none = is.identifiers ∙ ap (λ (es : List (ℕ × Context)). keys_of es) (no_pairs r.contexts.entries none)

no_keys : (es : List (ℕ × Context)) → keys_of es ≡ [] → length es ≡ 0
no_keys [] e = refl
no_keys (e ∷ es) is = absurd (let never : ◌≡◌ {A = List ℕ} (e.0 ∷ keys_of es) [] = is in cc)

pub held_some : (k : Concentrator) (link : ℕ) (r : LinkRecords) → IsLink k link r → identifiers_at k link ≡ [] → length r.contexts.entries ≡ 0
held_some k link r is held = no_keys r.contexts.entries (sym is.identifiers ∙ held)

-- what is found in a map of one entry is the entry
one_entry : (es : List (ℕ × SavedLink)) (n : ℕ) (l : SavedLink) → length es ≡ 1 → lookup (nat_eq n) es ≡ Some l → es ≡ (n, l) ∷ []
one_entry [] n l few found = absurd (omega (arith, few))
one_entry (e ∷ f ∷ es) n l few found = absurd (omega (arith, few))
one_entry (e ∷ []) n l few found = by (nat_eq n e.0) refl found
  where
    by : (b : Bool) → nat_eq n e.0 ≡ b → cond b (Some e.1) None ≡ Some l → e ∷ [] ≡ (n, l) ∷ []
    by true is found =
        let key : e.0 ≡ n = grind (arith, nat_tests) in
        let value : e.1 ≡ l = (let both : ◌≡◌ {A = Option SavedLink} (Some e.1) (Some l) = found in cc) in
        λ i. (key i, value i) ∷ []
    by false is found = absurd (let never : ◌≡◌ {A = Option SavedLink} None (Some l) = found in cc)

pub one_link : {S : Type 0} (m : HashMap ℕ SavedLink S) (n : ℕ) (l : SavedLink) → length m.entries ≡ 1 → get nat_eq m n ≡ Some l → links_in m ≡ (n, link_in l) ∷ []
one_link m n l few found = ap (map {B = ℕ × Link} (λ (e : ℕ × SavedLink). (e.0, link_in e.1))) (one_entry m.entries n l few found)

-- a map without this entry is not this entry alone
first_is : (x y : ℕ × Link) (xs ys : List (ℕ × Link)) → ◌≡◌ {A = List (ℕ × Link)} (x ∷ xs) (y ∷ ys) → x ≡ y
first_is x y xs ys e = cc

pub other_link_found : {S : Type 0} (m : HashMap ℕ SavedLink S) (n : ℕ) (l : Link) → links_in m ≡ (n, l) ∷ [] → get nat_eq m n ≢ None
other_link_found m n l is none = by m.entries is none
  where
    by : (es : List (ℕ × SavedLink)) → map {B = ℕ × Link} (λ (e : ℕ × SavedLink). (e.0, link_in e.1)) es ≡ (n, l) ∷ [] → lookup (nat_eq n) es ≡ None → ⊥
    by [] is none = let never : ◌≡◌ {A = List (ℕ × Link)} [] ((n, l) ∷ []) = is in cc
    by (e ∷ es) is none =
        let key : e.0 ≡ n = ap (λ (x : ℕ × Link). x.0) (first_is (e.0, link_in e.1) (n, l) (map (λ (e : ℕ × SavedLink). (e.0, link_in e.1)) es) [] is) in
        let found : nat_eq n e.0 ≡ true = grind (arith, nat_tests) in
        let never : ◌≡◌ {A = Option SavedLink} (Some e.1) None = sym (ap (λ b. cond b (Some e.1) (lookup (nat_eq n) es)) found) ∙ none in
        cc

-- a link that is taken is of the same kind
pub same_kind : (s : LinkSetting) (saved : Link) (greatest : ℕ) → limit_of (Some s) saved ≡ Some greatest → is_same s.settings.size saved.size ≡ true
same_kind s saved greatest e = by (is_same s.settings.size saved.size) e
  where
    by : (b : Bool) → ◌≡◌ {A = Option ℕ} (if b then Some s.settings.max_cid else None) (Some greatest) → b ≡ true
    by true e = refl
    by false e = cc

-- what is taken of a link under its setting may be put
puttable : (s : LinkSetting) (link : ℕ) (saved : Link) (greatest : ℕ) → limit_of (Some s) saved ≡ Some greatest → HasApart (link, saved) → ArePuttable s (up_to (Some greatest) saved.contexts)
puttable s link saved greatest limit apart = record {
  apart = IsDistinct-keys_filter nat_eq (λ (c : ℕ × Record). nat_le c.0 greatest) saved.contexts apart;
  within = subst (λ n. AllByRecursion (λ (c : ℕ × Record). nat_le c.0 n ≡ true) (up_to (Some greatest) saved.contexts)) (greatest_is (is_same s.settings.size saved.size) limit) (within saved.contexts);
} where
  greatest_is : (b : Bool) → ◌≡◌ {A = Option ℕ} (if b then Some s.settings.max_cid else None) (Some greatest) → greatest ≡ s.settings.max_cid
  greatest_is true e = cc
  greatest_is false e = absurd (let f : ◌≡◌ {A = Option ℕ} None (Some greatest) = e in cc)

  within : (cs : List (ℕ × Record)) → AllByRecursion (λ (c : ℕ × Record). nat_le c.0 greatest ≡ true) (filter (λ (c : ℕ × Record). nat_le c.0 greatest) cs)
  within [] = tt
  within (c ∷ cs) = by (within cs) (nat_le c.0 greatest) refl
    where
      by : AllByRecursion (λ (c : ℕ × Record). nat_le c.0 greatest ≡ true) (filter (λ (c : ℕ × Record). nat_le c.0 greatest) cs) → (b : Bool) → nat_le c.0 greatest ≡ b
          → AllByRecursion (λ (c : ℕ × Record). nat_le c.0 greatest ≡ true) (cond b (c ∷ filter (λ (c : ℕ × Record). nat_le c.0 greatest) cs) (filter (λ (c : ℕ × Record). nat_le c.0 greatest) cs))
      by later true e = (e, later)
      by later false e = later

-- a put of them was refused, and the link was reset
pub link_runs_out : (old new : Concentrator) (link : ℕ) (octets : List ℕ) (s : LinkSetting) (form : Form) (saved : Link) (greatest : ℕ) (fault : PutFault) (answer : Result Unit NoLink)
    → IsReady old link s → restored octets ≡ Ok form → form.links ≡ (link, saved) ∷ [] → limit_of (Some s) saved ≡ Some greatest
    → StopsAt old link (up_to (Some greatest) saved.contexts) fault (reset_turn (plain_answer answer) link ∷ []) new → RunsOut old link s octets new × KeepsAll old new
link_runs_out old new link octets s form saved greatest fault answer ready spelled alone limit stops =
    let apart : HasApart (link, saved) = (subst (AllByRecursion HasApart) alone (form_order octets form spelled).each).0 in
    let out = runs_out old new link s (up_to (Some greatest) saved.contexts) fault answer ready (puttable s link saved greatest limit apart) stops in (
      record {
        form = form;
        saved = saved;
        spells = record { spelled = spelled; alone = alone };
        kind = same_kind s saved greatest limit;
        stops = subst (λ limit. StopsAt old link (up_to limit saved.contexts) puts.NoMemory (reset_turn Done link ∷ []) new) (sym limit) out.0;
      },
      out.1,
    )
