-- Links that weren't there are added, one after the other.
use Rattle.std.proofs.Common.{◌≡◌, ℕ, ◌+◌, ◌<◌, ◌≤◌, ◌^◌, List, [], ◌∷◌, ◌++◌, length, map, take, drop, get_or, ◌⊎◌, inl, inr, Bool, true, false, not, None, arith, refl, sym, ap, ◌∙◌, subst}
use Rattle.std.specs.List.{AllByRecursion}
use Rattle.std.proofs.lemmas.List.{map-append, length_push}
use Rattle.rohc_concentrator.specs.declared.concentrator.Concentrator.{Concentrator}
use Rattle.rohc_concentrator.specs.declared.setting.LinkSetting.{LinkSetting}
use Rattle.rohc_concentrator.specs.declared.links.AddFault.TheVariants as adds
use Rattle.rohc_concentrator.specs.Setting.{IsGoodSetting}
use Rattle.rohc_concentrator.specs.Setup.{AreFine}
use Rattle.rohc_concentrator.specs.Tables.{setting_at, settings_in_order}
use Rattle.rohc_concentrator.specs.Seen.{View, view_at}
use Rattle.rohc_concentrator.specs.Calls.{AddLink, Done, NotAdded}
use Rattle.rohc_concentrator.specs.RunsCall.{RunsCall, Turn, Runs}
use Rattle.rohc_links.specs.Limits.{counted}
use Rattle.rohc_station.specs.Reload.{is_among, added, adding, refused_add, StopsIn}
use Rattle.rohc_saved.proofs.PutLemmas.{runs_append}
use Rattle.rohc_station.proofs.CallLemmas.{others_stay, unconcerned, earlier, filter_skip, filter_push, filter_next, filter_past, filter_split, filter_short, run_push, counted_push}

-- these were added, and there is room for those that are left
pub record Added (old : Concentrator) (these left : List LinkSetting) (links : ℕ) (new : Concentrator) : Type 0 where
  pub runs : Runs old (map adding these) new
  pub so_many_links : links ≡ length these
  pub room : length (settings_in_order new) + length left ≤ 256

module _ (old k : Concentrator) (file : List LinkSetting) (numbers : List ℕ) (fine : AreFine file) (absent : (l : ℕ) → is_among l numbers ≡ false → setting_at old l ≡ None)
    (i : ℕ) (s : LinkSetting) (within : i < length file) (is : s ≡ get_or file i s) (n : ℕ) (so_far : Added old (added numbers (take i file)) (added numbers (drop i file)) n k) where
  abbrev is_new : LinkSetting → Bool
  is_new t = not (is_among t.link numbers)

  abbrev these : List LinkSetting
  these = added numbers (take i file)

  before : AllByRecursion (λ (t : LinkSetting). t.link ≡ s.link → is_new t ≡ false) (take i file)
  before = subst (λ l. AllByRecursion (λ (t : LinkSetting). t.link ≡ l → is_new t ≡ false) (take i file)) (sym (ap (λ (t : LinkSetting). t.link) is))
      (earlier (λ (t : LinkSetting). t.link) (λ t. is_new t ≡ false) file i s within (λ j below. fine.sound.apart j i s below within))

  same_view : view_at k s.link ≡ view_at old s.link
  same_view = others_stay s.link (map adding these) old k so_far.runs (unconcerned adding is_new s.link (take i file) before)

  pub is_absent : is_among s.link numbers ≡ false → setting_at k s.link ≡ None
  is_absent none = ap (λ (v : View). v.setting) same_view ∙ absent s.link none

  pub is_good_there : IsGoodSetting s
  is_good_there = subst IsGoodSetting (sym is) (fine.sound.good i s within)

  module _ (none : is_among s.link numbers ≡ false) where
    next_is : added numbers (drop i file) ≡ s ∷ added numbers (drop (i + 1) file)
    next_is = filter_next is_new file i s s within is (ap not none)

    pub has_room : length (settings_in_order k) < 256
    has_room = let room = so_far.room in omega (arith, room, ap (λ (ss : List LinkSetting). length ss) next_is)

    pub one_added : (n1 : ℕ) (next : Concentrator) → RunsCall k s.link (AddLink s) Done next → n1 ≡ counted n 1 → i < 2 ^ 63 → Added old (added numbers (take (i + 1) file)) (added numbers (drop (i + 1) file)) n1 next
    one_added n1 next call one_more low = subst (λ ss. Added old ss (added numbers (drop (i + 1) file)) n1 next) (sym (filter_push is_new file i s s within is (ap not none))) (record {
      runs = run_push adding these s old k next so_far.runs call;
      so_many_links = one_more ∙ counted_push n i these s so_far.so_many_links (filter_short is_new file i) low;
      room = (let room = so_far.room in omega (arith, room, ap (λ (ss : List LinkSetting). length ss) next_is, ap (λ (ss : List LinkSetting). length ss) call.links, length_push (settings_in_order k) s));
    })

    all : map adding (added numbers file) ≡ map adding these ++ map adding (added numbers (drop i file))
    all = ap (map adding) (filter_split is_new file i) ∙ map-append adding these (added numbers (drop i file))

    -- without memory the calls stop here, or with a call that is refused
    pub stops_here : (next : Concentrator) → (next ≡ k) ⊎ RunsCall k s.link (AddLink s) (NotAdded adds.NoMemory) next → (calls : List Turn) × StopsIn (map adding (added numbers file)) calls × Runs old calls next
    stops_here next (inl stays) = (map adding these, (map adding these, map adding (added numbers (drop i file)), all, inl refl), subst (Runs old (map adding these)) (sym stays) so_far.runs)
    stops_here next (inr call) = (
      map adding these ++ refused_add s ∷ [],
      (map adding these, map adding (added numbers (drop i file)), all, inr (s, map adding (added numbers (drop (i + 1) file)), ap (map adding) next_is, refl)),
      runs_append (map adding these) (refused_add s ∷ []) old k next so_far.runs (next, call, refl),
    )

  pub known_stays : is_among s.link numbers ≡ true → Added old (added numbers (take (i + 1) file)) (added numbers (drop (i + 1) file)) n k
  known_stays known =
      subst (λ ss. Added old ss (added numbers (drop (i + 1) file)) n k) (sym (filter_skip is_new file i s s within is (ap not known)))
      (subst (λ ss. Added old these ss n k) (filter_past is_new file i s s within is (ap not known)) so_far)
