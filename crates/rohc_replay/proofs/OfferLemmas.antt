-- What a writer took of one text, and then of the next.
use Rattle.std.proofs.Common.{ℕ, ◌+◌, ◌-◌, ◌<◌, ◌^◌, List, [], ◌++◌, length, take, drop, Option, Some, None, Result, Ok, Err, append_assoc, append-nil, sym, ◌∙◌, ap, refl, subst, ◌≡◌, arith, length-append, length-drop}
use Rattle.std.proofs.lemmas.List.{take-append-drop, take_rest}
use Rattle.std.proofs.Math.Seq.{take-add}
use Rattle.std.specs.Prelude.{IsErr}
use Rattle.std.specs.Io.KnownBytes.{Appends}
use Rattle.rohc_replay.specs.Offers.{TakesAll, TakesPart, OffersText}
use Rattle.rohc_replay.specs.declared.output.Stopped.{Stopped}

-- nothing was taken
pub appends_none : (held : Option (List ℕ)) → Appends held held []
appends_none None = tt
appends_none (Some xs) = sym (append-nil xs)

-- a text was taken, and then another
pub appends_more : (held mid holding : Option (List ℕ)) (a b : List ℕ) → Appends held mid a → Appends mid holding b → Appends held holding (a ++ b)
appends_more None mid holding a b ha hb = tt
appends_more (Some xs) (Some ys) (Some zs) a b ha hb = hb ∙ ap (λ (l : List ℕ). l ++ b) ha ∙ append_assoc xs a b
appends_more (Some xs) (Some ys) None a b ha hb = hb
appends_more (Some xs) None holding a b ha hb = absurd ha

-- a front of a text was taken, and then a front of what was left
pub appends_front : (held mid holding : Option (List ℕ)) (text : List ℕ) (at count : ℕ) → Appends held mid (take at text)
    → Appends mid holding (take count (take (length text - at) (drop at text))) → Appends held holding (take (at + count) text)
appends_front held mid holding text at count ha hb =
    rw take-add (appends_more held mid holding (take at text) (take count (drop at text)) ha (rw take_rest at hb))

-- nothing was taken, and the count stays
pub takes_none : (held : Option (List ℕ)) (before : ℕ) → before < 2 ^ 64 → TakesAll held held before before []
takes_none held before small = (appends_none held, omega arith)

module _ (held mid holding : Option (List ℕ)) (before between after : ℕ) where
  -- all of a text was taken, and then all of another
  pub takes_more : (a b : List ℕ)
      → TakesAll held mid before between a → TakesAll mid holding between after b → TakesAll held holding before after (a ++ b)
  takes_more a b ha hb =
      (appends_more held mid holding a b ha.0 hb.0, omega (arith, ha.1, hb.1, length-append a b))

-- a part of a text was taken, so a part of a longer one
pub part_longer : (held holding : Option (List ℕ)) (before after : ℕ) (a b : List ℕ)
    → TakesPart held holding before after a → TakesPart held holding before after (a ++ b)
part_longer held holding before after a b h = record {
  part = h.part;
  rest = h.rest ++ b;
  parts = ap (λ (l : List ℕ). l ++ b) h.parts ∙ append_assoc h.part h.rest b;
  some_left = omega (arith, h.some_left, length-append h.rest b);
  taken = h.taken;
}

module _ (held mid holding : Option (List ℕ)) (before between after : ℕ) where
  -- all of a text was taken, and then a part of another
  pub part_more : (a b : List ℕ)
      → TakesAll held mid before between a → TakesPart mid holding between after b → TakesPart held holding before after (a ++ b)
  part_more a b ha hb = record {
    part = a ++ hb.part;
    rest = hb.rest;
    parts = ap (λ (l : List ℕ). a ++ l) hb.parts ∙ sym (append_assoc a hb.part hb.rest);
    some_left = hb.some_left;
    taken = takes_more held mid holding before between after a hb.part ha hb.taken;
  }

  -- Where all of a text was taken and then another is offered, the two are offered as one.
  pub offers_more : (a b : List ℕ) (r : Result Unit Stopped)
      → TakesAll held mid before between a → OffersText mid holding between after b r → OffersText held holding before after (a ++ b) r
  offers_more a b (Ok done) ha hb = takes_more held mid holding before between after a b ha hb
  offers_more a b (Err stopped) ha hb = part_more a b ha hb

-- a part was taken, and the answer says so
pub offers_stopped : (held holding : Option (List ℕ)) (before after : ℕ) (text : List ℕ) (r : Result Unit Stopped)
    → IsErr r → TakesPart held holding before after text → OffersText held holding before after text r
offers_stopped held holding before after text (Ok done) err h = cc err
offers_stopped held holding before after text (Err stopped) err h = h

-- a text of which less than all was taken
pub part_of : (held holding : Option (List ℕ)) (before after count : ℕ) (text : List ℕ) → count < length text
    → TakesAll held holding before after (take count text) → TakesPart held holding before after text
part_of held holding before after count text less h = record {
  part = take count text;
  rest = drop count text;
  parts = sym (take-append-drop count text);
  some_left = omega (arith, length-drop count text);
  taken = h;
}

-- A front of a text was taken, and this is what is left of it.
pub record TakesFront (held holding : Option (List ℕ)) (before after : ℕ) (whole rest : List ℕ) : Type 0 where
  pub front : List ℕ
  pub taken : TakesAll held holding before after front
  pub parts : front ++ rest ≡ whole

-- nothing was taken yet
pub front_none : (held : Option (List ℕ)) (before : ℕ) (whole : List ℕ) → before < 2 ^ 64 → TakesFront held held before before whole whole
front_none held before whole small = record { front = []; taken = takes_none held before small; parts = refl }

module _ (held mid holding : Option (List ℕ)) (before between after : ℕ) where
  -- the next part was taken
  pub front_more : (whole rest part left : List ℕ)
      → TakesFront held mid before between whole rest → rest ≡ part ++ left → TakesAll mid holding between after part
      → TakesFront held holding before after whole left
  front_more whole rest part left h cut all = record {
    front = h.front ++ part;
    taken = takes_more held mid holding before between after h.front part h.taken all;
    parts = append_assoc h.front part left ∙ ap (λ (l : List ℕ). h.front ++ l) (sym cut) ∙ h.parts;
  }

  -- not all of the next part was taken
  pub front_part : (whole rest part left : List ℕ)
      → TakesFront held mid before between whole rest → rest ≡ part ++ left → TakesPart mid holding between after part
      → TakesPart held holding before after whole
  front_part whole rest part left h cut some =
      let parts : h.front ++ (part ++ left) ≡ whole = ap (λ (l : List ℕ). h.front ++ l) (sym cut) ∙ h.parts in
      subst (λ (text : List ℕ). TakesPart held holding before after text) parts
      (part_more held mid holding before between after h.front (part ++ left) h.taken (part_longer mid holding between after part left some))

-- all was taken
pub front_all : (held holding : Option (List ℕ)) (before after : ℕ) (whole rest : List ℕ)
    → TakesFront held holding before after whole rest → rest ≡ [] → TakesAll held holding before after whole
front_all held holding before after whole rest h none =
    subst (λ (text : List ℕ). TakesAll held holding before after text)
    (sym (append-nil h.front) ∙ ap (λ (l : List ℕ). h.front ++ l) (sym none) ∙ h.parts) h.taken
