-- Settings are fine or have a fault, and not both.
use Rattle.std.proofs.Common.{◌≡◌, ℕ, zero, suc, ◌+◌, ◌<◌, ◌≤◌, List, [], ◌∷◌, length, take, get_or, Bool, true, false, ◌||◌, ◌==◌, Option, Some, None, ◌⊎◌, inl, inr, ⊎_elim, arith, refl, sym, ◌∙◌, ap, subst, if◌then◌else◌, length-take}
use Rattle.std.proofs.Math.Seq.{take-length}
use Rattle.std.proofs.lemmas.List.{get_or-take, take-take}
use Rattle.std.specs.List.{slice_get}
use Rattle.std.proofs.lemmas.Bool.{cases_lt, cases_Bool}
use Rattle.std.proofs.lemmas.Option.{slice_get_within, slice_get-get_or, get_or_from_slice_get}
use Rattle.rohc_frame.specs.Header.{greatest_cid}
use Rattle.rohc_context.specs.declared.settings.Settings.{Settings}
use Rattle.rohc_context.specs.Settings.{AreGood}
use Rattle.rohc_concentrator.specs.declared.setting.LinkSetting.{LinkSetting}
use Rattle.rohc_concentrator.specs.declared.setup.SetupFault.{SetupFault}
use Rattle.rohc_concentrator.specs.declared.setup.SetupFault.TheVariants.{NoLinks, TooManyLinks, BadSetting, DuplicateLink, NoMemory}
use Rattle.rohc_concentrator.specs.Setting.{IsGoodSetting, are_in_order}
use Rattle.rohc_concentrator.specs.Setup.{AreSound, IsFault, StandsAt, names_link, entry_of}
use Rattle.rohc_concentrator.specs.Laws.{FaultyIsNotFine, FineOrFaulty, HasOneFault}
use Rattle.rohc_concentrator.proofs.SetupLemmas.{sound_more, none_before}

-- An entry of fine settings is good, and none before it is of its link.

good_at : (xs : List LinkSetting) (place : ℕ) (before : List LinkSetting) (s : LinkSetting) → StandsAt xs place before s → AreSound xs → IsGoodSetting s
good_at xs place before s at sound = subst IsGoodSetting (get_or_from_slice_get xs at.index s s at.there) (sound.good at.index s (slice_get_within xs at.index s at.there))

not_named_where : (link : ℕ) (xs : List LinkSetting) → entry_of link xs ≡ None → names_link link xs ≡ false
not_named_where link [] none = refl
not_named_where link (x ∷ xs) none = elim (x.link == link) as (λ b. (if b then Some x else entry_of link xs) ≡ None → (b || names_link link xs) ≡ false) [
  | true ↦ λ found. absurd (let e : ◌≡◌ {A = Option LinkSetting} (Some x) None = found in cc)
  | false ↦ λ behind. not_named_where link xs behind
] none

alone_at : (xs : List LinkSetting) (place : ℕ) (before : List LinkSetting) (s : LinkSetting) → StandsAt xs place before s → AreSound xs → names_link s.link before ≡ false
alone_at xs place before s at sound =
    let within = slice_get_within xs at.index s at.there in
    let is : s ≡ get_or xs at.index s = sym (get_or_from_slice_get xs at.index s s at.there) in
    ap (names_link s.link) at.those_before ∙ not_named_where s.link (take at.index xs) (none_before xs at.index s sound within is)

pub faulty_is_not_fine : FaultyIsNotFine
faulty_is_not_fine xs NoLinks none fine = let some : 1 ≤ length {A = LinkSetting} [] = subst (λ ys. 1 ≤ length ys) none fine.some in omega arith
faulty_is_not_fine xs TooManyLinks many fine = let few = fine.few in omega arith
faulty_is_not_fine xs (BadSetting place) (before, s, at, bad) fine = bad (good_at xs place before s at fine.sound)
faulty_is_not_fine xs (DuplicateLink place) (before, s, at, good, named) fine = let other = alone_at xs place before s at fine.sound in cc
faulty_is_not_fine xs NoMemory none fine = none

-- Settings have one fault at most: an entry before a fault's is good, and has a link of its own.

before_is_good : (xs : List LinkSetting) (i j : ℕ) (s : LinkSetting) → slice_get xs i ≡ Some s → i < j → AreSound (take j xs) → IsGoodSetting s
before_is_good xs i j s there less sound =
    let inside : i < length xs = slice_get_within xs i s there in
    let within : i < length (take j xs) = omega (arith, length-take j xs) in
    let same : get_or (take j xs) i s ≡ s = get_or-take j xs i s less ∙ get_or_from_slice_get xs i s s there in
    subst IsGoodSetting same (sound.good i s within)

before_is_alone : (xs : List LinkSetting) (i j : ℕ) (s : LinkSetting) → slice_get xs i ≡ Some s → i < j → AreSound (take j xs) → names_link s.link (take i xs) ≡ false
before_is_alone xs i j s there less sound =
    let inside : i < length xs = slice_get_within xs i s there in
    let within : i < length (take j xs) = omega (arith, length-take j xs) in
    let is : s ≡ get_or (take j xs) i s = sym (get_or-take j xs i s less ∙ get_or_from_slice_get xs i s s there) in
    let front : take i (take j xs) ≡ take i xs = take-take i j xs (omega arith) in
    ap (names_link s.link) (sym front) ∙ not_named_where s.link (take i (take j xs)) (none_before (take j xs) i s sound within is)

module _ (xs : List LinkSetting) (p q : ℕ) (b c : List LinkSetting) (s t : LinkSetting) (first : StandsAt xs p b s) (second : StandsAt xs q c t) where
  earlier_good : first.index < second.index → IsGoodSetting s
  earlier_good less = before_is_good xs first.index second.index s first.there less (subst AreSound second.those_before second.sound)

  earlier_alone : first.index < second.index → names_link s.link b ≡ false
  earlier_alone less = ap (names_link s.link) first.those_before ∙ before_is_alone xs first.index second.index s first.there less (subst AreSound second.those_before second.sound)

  same_place : (first.index < second.index → ⊥) → (second.index < first.index → ⊥) → first.index ≡ second.index
  same_place not_before not_behind = ⊎_elim (λ less. absurd (not_before less)) (λ most. ⊎_elim (λ less. absurd (not_behind less)) (λ least. omega arith) (cases_lt second.index first.index)) (cases_lt first.index second.index)

  same_entry : first.index ≡ second.index → s ≡ t
  same_entry e = let both_there : ◌≡◌ {A = Option LinkSetting} (Some s) (Some t) = sym first.there ∙ ap (slice_get xs) e ∙ second.there in cc

  same_count : first.index ≡ second.index → p ≡ q
  same_count e = first.counted ∙ ap (λ n. n + 1) e ∙ sym second.counted

not_empty : (xs : List LinkSetting) (p : ℕ) (b : List LinkSetting) (s : LinkSetting) → StandsAt xs p b s → xs ≡ [] → ⊥
not_empty xs p b s at none =
    let inside : at.index < length xs = slice_get_within xs at.index s at.there in
    let empty : length xs ≡ 0 = ap length none in
    omega arith

not_many : (xs : List LinkSetting) (p : ℕ) (b : List LinkSetting) (s : LinkSetting) → StandsAt xs p b s → 256 < length xs → ⊥
not_many xs p b s at many = let few = at.few in omega arith

not_both : (xs : List LinkSetting) (p q : ℕ) → IsFault xs (BadSetting p) → IsFault xs (DuplicateLink q) → ⊥
not_both xs p q (b, s, at, bad) (c, t, there, good, named) =
    let together = same_place xs p q b c s t at there
    (λ less. bad (earlier_good xs p q b c s t at there less))
    (λ less. let other = earlier_alone xs q p c b t s there at less in cc) in
    bad (subst IsGoodSetting (sym (same_entry xs p q b c s t at there together)) good)

pub one_fault : HasOneFault
one_fault xs NoLinks NoLinks p q = refl
one_fault xs NoLinks TooManyLinks none many = let empty : length xs ≡ 0 = ap length none in absurd (omega arith)
one_fault xs TooManyLinks NoLinks many none = let empty : length xs ≡ 0 = ap length none in absurd (omega arith)
one_fault xs TooManyLinks TooManyLinks p q = refl
one_fault xs NoLinks (BadSetting n) none (b, s, at, bad) = absurd (not_empty xs n b s at none)
one_fault xs NoLinks (DuplicateLink n) none (b, s, at, good, named) = absurd (not_empty xs n b s at none)
one_fault xs (BadSetting n) NoLinks (b, s, at, bad) none = absurd (not_empty xs n b s at none)
one_fault xs (DuplicateLink n) NoLinks (b, s, at, good, named) none = absurd (not_empty xs n b s at none)
one_fault xs TooManyLinks (BadSetting n) many (b, s, at, bad) = absurd (not_many xs n b s at many)
one_fault xs TooManyLinks (DuplicateLink n) many (b, s, at, good, named) = absurd (not_many xs n b s at many)
one_fault xs (BadSetting n) TooManyLinks (b, s, at, bad) many = absurd (not_many xs n b s at many)
one_fault xs (DuplicateLink n) TooManyLinks (b, s, at, good, named) many = absurd (not_many xs n b s at many)
one_fault xs (BadSetting n) (DuplicateLink m) p q = absurd (not_both xs n m p q)
one_fault xs (DuplicateLink n) (BadSetting m) p q = absurd (not_both xs m n q p)
one_fault xs (BadSetting n) (BadSetting m) (b, s, at, bad) (c, t, there, worse) =
    let together = same_place xs n m b c s t at there
    (λ less. bad (earlier_good xs n m b c s t at there less))
    (λ less. worse (earlier_good xs m n c b t s there at less)) in
    ap (λ k. BadSetting k) (same_count xs n m b c s t at there together)
one_fault xs (DuplicateLink n) (DuplicateLink m) (b, s, at, good, named) (c, t, there, fine, known) =
    let together = same_place xs n m b c s t at there
    (λ less. let other = earlier_alone xs n m b c s t at there less in cc)
    (λ less. let other = earlier_alone xs m n c b t s there at less in cc) in
    ap (λ k. DuplicateLink k) (same_count xs n m b c s t at there together)
one_fault xs NoMemory b p q = absurd p
one_fault xs NoLinks NoMemory p q = absurd q
one_fault xs TooManyLinks NoMemory p q = absurd q
one_fault xs (BadSetting n) NoMemory p q = absurd q
one_fault xs (DuplicateLink n) NoMemory p q = absurd q

-- Whether a setting is good can be decided.

abbrev pub Decided : Type 0 → Type 0
Decided A = A ⊎ (A → ⊥)

at_most : (m n : ℕ) → Decided (m ≤ n)
at_most m n = ⊎_elim (λ less. inr (λ most. omega arith)) inl (cases_lt n m)

both : {A B : Type 0} → Decided A → Decided B → Decided (A × B)
both (inl a) (inl b) = inl (a, b)
both (inl a) (inr never) = inr (λ p. never p.1)
both (inr never) b = inr (λ p. never p.0)

from_1_to : (k n m : ℕ) → Decided ((1 ≤ k) × (k ≤ n) × (n ≤ m))
from_1_to k n m = ⊎_elim
    (λ p. inl (p.0, p.1.0, p.1.1))
    (λ never. inr (λ all. never (all.0, (all.1, all.2))))
    (both (at_most 1 k) (both (at_most k n) (at_most n m)))

settings_decided : (s : Settings) → Decided (AreGood s)
settings_decided s = ⊎_elim
    (λ p. inl (record { max_cid = p.0; k1 = p.1.0; k2 = p.1.1.0; packet_ms = p.1.1.1.0; static_nack_ms = p.1.1.1.1.0; idle_ms = p.1.1.1.1.1 }))
    (λ never. inr (λ good. never (good.max_cid, (good.k1, (good.k2, (good.packet_ms, (good.static_nack_ms, good.idle_ms)))))))
    (both (at_most s.max_cid (greatest_cid s.size))
    (both (from_1_to s.k1 s.n1 64)
    (both (from_1_to s.k2 s.n2 64)
    (both (both (at_most 1 s.packet_ms) (at_most s.packet_ms 60000))
    (both (at_most s.static_nack_ms 3600000) (at_most s.idle_ms 86400000))))))

is_true : (b : Bool) → Decided (b ≡ true)
is_true true = inl refl
is_true false = inr (λ e. let f : false ≡ true = e in cc)

setting_decided : (s : LinkSetting) → Decided (IsGoodSetting s)
setting_decided s = ⊎_elim
    (λ p. inl (record { settings_good = p.0; ranges_good = p.1 }))
    (λ never. inr (λ good. never (good.settings_good, good.ranges_good)))
    (both (settings_decided s.settings) (is_true (are_in_order 0 s.settings.max_cid s.ranges.items)))

-- Entry by entry: those so far are sound, or there is a fault.

abbrev pub SoundOrFaulty : List LinkSetting → ℕ → Type 0
SoundOrFaulty xs n = AreSound (take n xs) ⊎ ((fault : SetupFault) × IsFault xs fault)

module _ (xs : List LinkSetting) (few : length xs ≤ 256) where
  stands_at : (n : ℕ) (d : LinkSetting) → n < length xs → AreSound (take n xs) → StandsAt xs (n + 1) (take n xs) (get_or xs n d)
  stands_at n d within sound = record {
    index = n;
    counted = refl;
    there = slice_get-get_or xs n d within;
    those_before = refl;
    sound = sound;
    few = few;
  }

  one_more : (n : ℕ) (d : LinkSetting) → n < length xs → AreSound (take n xs) → SoundOrFaulty xs (n + 1)
  one_more n d within sound =
      let s = get_or xs n d in
      let at = stands_at n d within sound in
      let is : s ≡ get_or xs n s = sym (get_or_from_slice_get xs n s s (slice_get-get_or xs n d within)) in
      ⊎_elim
      (λ good. ⊎_elim
      (λ named. inr (DuplicateLink (n + 1), (take n xs, s, at, good, named)))
      (λ other. inl (sound_more xs n s within is sound good other))
      (cases_Bool (names_link s.link (take n xs))))
      (λ bad. inr (BadSetting (n + 1), (take n xs, s, at, bad)))
      (setting_decided s)

  sound_or_faulty : (d : LinkSetting) (n : ℕ) → n ≤ length xs → SoundOrFaulty xs n
  sound_or_faulty d zero within = inl (record { good = λ k e less. absurd (omega arith); apart = λ i j e less there. absurd (omega arith) })
  sound_or_faulty d (suc n) within =
      let next : n + 1 ≡ suc n = omega arith in
      ⊎_elim (λ sound. subst (SoundOrFaulty xs) next (one_more n d (omega arith) sound)) inr (sound_or_faulty d n (omega arith))

pub fine_or_faulty : FineOrFaulty
fine_or_faulty [] = inr (NoLinks, refl)
fine_or_faulty (x ∷ xs) = ⊎_elim
    (λ many. inr (TooManyLinks, many))
    (λ few. ⊎_elim
    (λ sound. inl (record { some = omega arith; few = few; sound = subst AreSound (take-length (x ∷ xs)) sound }))
    inr
    (sound_or_faulty (x ∷ xs) few x (length (x ∷ xs)) (omega arith)))
    (cases_lt 256 (length (x ∷ xs)))
