-- What is saved over sound concentrators is read.
use Rattle.std.proofs.Common.{◌≡◌, ℕ, suc, ◌+◌, ◌<◌, ◌≤◌, List, [], ◌∷◌, ◌++◌, map, length, Bool, true, false, if◌then◌else◌, Option, Some, None, refl, sym, ap, subst, ◌∙◌, arith, append_assoc, nat_eq}
use Rattle.std.specs.Prelude.{All, Contains, IfSome}
use Rattle.std.specs.List.{AllByRecursion, IsDistinct}
use Rattle.std.specs.Cmp.{nat_eq_equiv}
use Rattle.std.specs.Map.{keys_of, lookup}
use Rattle.std.proofs.lemmas.Bool.Decides.{nat_tests}
use Rattle.std.proofs.lemmas.List.{length-map}
use Rattle.std.proofs.lemmas.List.Elements.{All-head, All-tail, All-nil, All-cons, Contains-get_or, Contains-append_right}
use Rattle.std.proofs.lemmas.Map.Views.{lookup-from_Contains}
use Rattle.rohc_frame.specs.declared.header.CidKind.{CidKind}
use Rattle.rohc_frame.specs.declared.header.CidKind.TheVariants.{Small, Large}
use Rattle.rohc_frame.specs.Header.{greatest_cid}
use Rattle.rohc_context.specs.Good.{IsGoodRecord}
use Rattle.rohc_context.specs.Record.{Record}
use Rattle.rohc_concentrator.specs.declared.concentrator.Concentrator.{Concentrator}
use Rattle.rohc_concentrator.specs.declared.setting.LinkSetting.{LinkSetting}
use Rattle.rohc_concentrator.specs.Setting.{IsGoodSetting}
use Rattle.rohc_concentrator.specs.Tables.{setting_at, record_at, settings_in_order}
use Rattle.rohc_concentrator.proofs.GoodLemmas.{good_record_at}
use Rattle.rohc_saved.specs.Form.{Link}
use Rattle.rohc_saved.specs.Reading.{restored}
use Rattle.rohc_saved.specs.Restoring.{is_same}
use Rattle.rohc_saved.specs.Laws.{IsGoodContext, IsGoodLink, IsGoodForm}
use Rattle.rohc_saved.proofs.BackLemmas.{read_back}
use Rattle.rohc_saved.proofs.Distinct.{numbers, links_apart}
use Rattle.rohc_piecewise.specs.Piecewise.{Head, head_of, heads_of, if_kind, held_under, IsAscending, IsGathered, AreSaved}
use Rattle.rohc_piecewise.specs.Laws.{IsReadAtEnd}
use Rattle.rohc_piecewise.proofs.SeenLemmas.{saved_length}

-- ---- Contexts

-- a CID that is below the first of these is none of them
apart_above : (n : ℕ) (c : ℕ × Record) (cs : List (ℕ × Record)) → n < c.0 → IsAscending (c ∷ cs) → AllByRecursion (λ y. nat_eq n y ≡ false) (keys_of (c ∷ cs))
apart_above n c [] low h = (let other : nat_eq n c.0 ≡ false = grind (arith, nat_tests, low) in other, tt)
apart_above n c (d ∷ cs) low h = (let other : nat_eq n c.0 ≡ false = grind (arith, nat_tests, low) in other, apart_above n d cs (omega (arith, low, h.0)) h.1)

cids_apart : (cs : List (ℕ × Record)) → IsAscending cs → IsDistinct nat_eq (keys_of cs)
unfolding IsDistinct
cids_apart [] h = tt
cids_apart (c ∷ []) h = (tt, tt)
cids_apart (c ∷ d ∷ cs) h = (apart_above c.0 d cs h.0 h.1, cids_apart (d ∷ cs) h.1)

-- so many CIDs at most are there
few_above : (n greatest : ℕ) (c : ℕ × Record) (cs : List (ℕ × Record)) → n ≤ c.0 → IsAscending (c ∷ cs) → All (λ (c : ℕ × Record). c.0 ≤ greatest) (c ∷ cs) → n + length (c ∷ cs) ≤ greatest + 1
few_above n greatest c [] low h within = let last = All-head (λ (c : ℕ × Record). c.0 ≤ greatest) c [] within in omega (arith, low, last)
few_above n greatest c (d ∷ cs) low h within =
    let rest = few_above (suc n) greatest d cs (omega (arith, low, h.0)) h.1 (All-tail (λ (c : ℕ × Record). c.0 ≤ greatest) c (d ∷ cs) within) in
    omega (arith, rest)

few_contexts : (greatest : ℕ) (cs : List (ℕ × Record)) → IsAscending cs → All (λ (c : ℕ × Record). c.0 ≤ greatest) cs → length cs ≤ greatest + 1
few_contexts greatest [] h within = omega arith
few_contexts greatest (c ∷ cs) h within = let few = few_above 0 greatest c cs (omega arith) h within in omega (arith, few)

-- a record that is held is one that stands
held_stands : (s : Option LinkSetting) (size : CidKind) (held : Option Record) (r : Record) → if_kind s size held ≡ Some r → held ≡ Some r
held_stands None size held r e = absurd (let never : ◌≡◌ {A = Option Record} None (Some r) = e in cc)
held_stands (Some s) size held r e = by (is_same s.settings.size size) e
  where
    by : (b : Bool) → (if b then held else None) ≡ Some r → held ≡ Some r
    by true e = e
    by false e = absurd (let never : ◌≡◌ {A = Option Record} None (Some r) = e in cc)

held_good : (k : Concentrator) (head : Head) (cid : ℕ) (r : Record) → held_under k head cid ≡ Some r → IsGoodRecord r
held_good k head cid r e = subst (λ found. IfSome found IsGoodRecord) (held_stands (setting_at k head.number) head.size (record_at k head.number cid) r e) (good_record_at k head.number cid)

good_contexts : (seen : List Concentrator) (head : Head) (whole before es : List (ℕ × Record)) → whole ≡ before ++ es → IsDistinct nat_eq (keys_of whole) → IsGathered seen head whole
    → All (λ (c : ℕ × Record). c.0 ≤ head.greatest) es → All (IsGoodContext head.greatest) es
good_contexts seen head whole before [] is unique h within = All-nil (IsGoodContext head.greatest)
good_contexts seen head whole before (e ∷ es) is unique h within =
    let member : Contains whole e = subst (λ es. Contains es e) (sym is) (Contains-append_right before (e ∷ es) e (Contains-get_or (e ∷ es) 0 e (omega arith))) in
    let found : lookup (nat_eq e.0) whole ≡ Some e.1 = lookup-from_Contains nat_eq_equiv e.0 e.1 whole unique member in
    let low = All-head (λ (c : ℕ × Record). c.0 ≤ head.greatest) e es within in
    let at = h.each e.0 low in
    All-cons (IsGoodContext head.greatest) e es
    (record { within = low; good = held_good at.0 head e.0 e.1 (sym at.2 ∙ found) })
    (good_contexts seen head whole (before ++ e ∷ []) es (is ∙ sym (append_assoc before (e ∷ []) es)) unique h (All-tail (λ (c : ℕ × Record). c.0 ≤ head.greatest) e es within))

-- ---- Links

small_cids : (size : CidKind) → greatest_cid size ≤ 16383
small_cids Small = omega arith
small_cids Large = omega arith

good_link : (seen : List Concentrator) (s : LinkSetting) (link : ℕ × Link) → s.link < 65536 → IsGoodSetting s → AreSaved seen (head_of s ∷ []) (link ∷ []) → IsGoodLink link
good_link seen s link small good saved =
    let greatest : link.1.greatest ≤ greatest_cid link.1.size = subst (λ size. link.1.greatest ≤ greatest_cid size) (sym saved.1) (subst (λ n. n ≤ greatest_cid s.settings.size) (sym saved.2) good.settings_good.max_cid) in
    let gathered = saved.3 in
    let unique = cids_apart link.1.contexts gathered.ascending in
    record {
      number = omega (arith, small, saved.0);
      greatest = greatest;
      few = omega (arith, few_contexts s.settings.max_cid link.1.contexts gathered.ascending gathered.within, small_cids s.settings.size, good.settings_good.max_cid);
      contexts = subst (λ n. All (IsGoodContext n) link.1.contexts) (sym saved.2) (good_contexts seen (head_of s) link.1.contexts [] link.1.contexts refl unique gathered gathered.within);
      apart = unique;
    }

good_links : (seen : List Concentrator) (ss : List LinkSetting) (links : List (ℕ × Link)) → All (λ (s : LinkSetting). s.link < 65536) ss → All IsGoodSetting ss → AreSaved seen (map head_of ss) links → All IsGoodLink links
good_links seen [] [] small good saved = All-nil IsGoodLink
good_links seen (s ∷ ss) (link ∷ links) small good saved =
    All-cons IsGoodLink link links
    (good_link seen s link (All-head (λ (s : LinkSetting). s.link < 65536) s ss small) (All-head IsGoodSetting s ss good) (saved.0, saved.1, saved.2, saved.3, tt))
    (good_links seen ss links (All-tail (λ (s : LinkSetting). s.link < 65536) s ss small) (All-tail IsGoodSetting s ss good) saved.4)
good_links seen [] (link ∷ links) small good saved = absurd saved
good_links seen (s ∷ ss) [] small good saved = absurd saved

numbers_are : (seen : List Concentrator) (ss : List LinkSetting) (links : List (ℕ × Link)) → AreSaved seen (map head_of ss) links → map (λ (l : ℕ × Link). l.0) links ≡ numbers ss
numbers_are seen [] [] saved = refl
numbers_are seen (s ∷ ss) (link ∷ links) saved = ap (λ n. n ∷ map (λ (l : ℕ × Link). l.0) links) saved.0 ∙ ap (λ ns. s.link ∷ ns) (numbers_are seen ss links saved.4)
numbers_are seen [] (link ∷ links) saved = absurd saved
numbers_are seen (s ∷ ss) [] saved = absurd saved

pub read_at_end : IsReadAtEnd
read_at_end k moment seen octets sound small saved =
    let ss : List LinkSetting = settings_in_order k in
    let count = saved_length seen (heads_of k) saved.form.links saved.links in
    let good : IsGoodForm saved.form = record {
      moment = omega (arith, small, saved.at);
      few = omega (arith, count, length-map ss head_of, sound.few);
      links = good_links seen ss saved.form.links sound.numbers sound.settings.good saved.links;
      apart = subst (IsDistinct nat_eq) (sym (numbers_are seen ss saved.form.links saved.links)) (links_apart ss sound.settings.apart);
    } in
    record {
      form = saved.form;
      read = ap restored saved.text ∙ read_back saved.form good;
      at = saved.at;
      links = saved.links;
    }
