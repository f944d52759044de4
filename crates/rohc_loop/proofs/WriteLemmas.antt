-- Writes, one after the other, and the sync after them.
use Rattle.std.proofs.Common.{inl, inr, ◌⊎◌, ◌≡◌, ◌<◌, ◌≤◌, ◌+◌, ◌-◌, ℕ, List, [], ◌∷◌, ◌++◌, take, drop, length, length-drop, take-append-drop, append-nil, drop-drop, refl, sym, ◌∙◌, ap, subst, arith}
use Rattle.std.proofs.Common.{drop_of_length-le}
use Rattle.std.specs.Prelude.{Option, Ok, Err, Result, ⊤}
use Rattle.rohc_world.specs.declared.trouble.Trouble.{Trouble}
use Rattle.rohc_world.specs.declared.trouble.Trouble.TheVariants.{Failed}
use Rattle.rohc_world.specs.Acts.{Act, Wrote, SetModified, Synced, AddsActs, Asks}
use Rattle.rohc_text.specs.declared.reason.Reason.TheVariants.{Other}
use Rattle.std.specs.Prelude.{pos}
use Rattle.rohc_loop.specs.Saving.{Takes, EndsWriting, Fills}
use Rattle.rohc_loop.proofs.AskLemmas.{adds_none, adds_more}

takes_more : (octets mid left : List ℕ) (n : ℕ) (acts : List Act) → Takes octets mid acts → 0 < n → left ≡ drop n mid →
    Takes octets left (acts ++ Wrote mid (Ok n) ∷ [])
takes_more octets mid left n [] same some is =
    subst (λ (l : List ℕ). Takes octets left (Wrote l (Ok n) ∷ [])) (sym same)
    (n, some, refl, is ∙ ap (λ (l : List ℕ). drop n l) same)
takes_more octets mid left n (act ∷ acts) h some is = (h.0, h.1, h.2, takes_more (drop h.0 octets) mid left n acts h.3 some is)

take_all : (l : List ℕ) → take (length l) l ≡ l
take_all l =
    sym (append-nil (take (length l) l))
    ∙ ap (λ (m : List ℕ). take (length l) l ++ m) (sym (drop_of_length-le l (omega arith)))
    ∙ take-append-drop (length l) l

-- what is offered from an index to the end is what is left
pub offered : (octets : List ℕ) (at : ℕ) → take (length octets - at) (drop at octets) ≡ drop at octets
offered octets at = ap (λ (n : ℕ). take n (drop at octets)) (sym (length-drop at octets)) ∙ take_all (drop at octets)

pub told_rest : (mid after : Option (List Act)) (octets : List ℕ) (at : ℕ) (answer : Result ℕ Trouble) →
    AddsActs mid after (Wrote (take (length octets - at) (drop at octets)) answer ∷ []) →
    AddsActs mid after (Wrote (drop at octets) answer ∷ [])
told_rest mid after octets at answer told =
    subst (λ (l : List ℕ). AddsActs mid after (Wrote l answer ∷ [])) (offered octets at) told

-- nothing is written yet
pub takes_none : (acts : Option (List Act)) (octets : List ℕ) → Asks acts acts (Takes octets (drop 0 octets))
takes_none acts octets = record { acts = []; known = adds_none acts; form = refl }

-- one more write, of what is left
pub takes_on : (before mid after : Option (List Act)) (octets : List ℕ) (at n : ℕ) → Asks before mid (Takes octets (drop at octets)) →
    AddsActs mid after (Wrote (drop at octets) (Ok n) ∷ []) → 0 < n → Asks before after (Takes octets (drop (at + n) octets))
takes_on before mid after octets at n h told some = record {
  acts = h.acts ++ Wrote (drop at octets) (Ok n) ∷ [];
  known = adds_more before mid after h.acts (Wrote (drop at octets) (Ok n) ∷ []) h.known told;
  form = takes_more octets (drop at octets) (drop (at + n) octets) n h.acts h.form some (sym (drop-drop n at octets));
}

-- all octets are written
pub taken_all : (before after : Option (List Act)) (octets : List ℕ) (at : ℕ) → Asks before after (Takes octets (drop at octets)) →
    length octets ≤ at → Asks before after (EndsWriting octets (Ok tt))
taken_all before after octets at h all = record {
  acts = h.acts;
  known = h.known;
  form = subst (λ (l : List ℕ). Takes octets l h.acts) (drop_of_length-le octets all) h.form;
}

fails : (before mid after : Option (List Act)) (octets left : List ℕ) (answer : Result ℕ Trouble) (trouble : Trouble) →
    Asks before mid (Takes octets left) → AddsActs mid after (Wrote left answer ∷ []) →
    (answer ≡ Err trouble) ⊎ ((answer ≡ Ok 0) × (trouble ≡ Failed (Other (pos 0)))) → Asks before after (EndsWriting octets (Err trouble))
fails before mid after octets left answer trouble h told why = record {
  acts = h.acts ++ Wrote left answer ∷ [];
  known = adds_more before mid after h.acts (Wrote left answer ∷ []) h.known told;
  form = record { left = left; writes = h.acts; taken = h.form; answer = answer; last = refl; fails = why };
}

-- a write fails
pub fails_for : (before mid after : Option (List Act)) (octets left : List ℕ) (trouble : Trouble) →
    Asks before mid (Takes octets left) → AddsActs mid after (Wrote left (Err trouble) ∷ []) →
    Asks before after (EndsWriting octets (Err trouble))
fails_for before mid after octets left trouble h told = fails before mid after octets left (Err trouble) trouble h told (inl refl)

-- a write accepts nothing
pub fails_with_none : (before mid after : Option (List Act)) (octets left : List ℕ) (n : ℕ) → n ≡ 0 → Asks before mid (Takes octets left) →
    AddsActs mid after (Wrote left (Ok n) ∷ []) → Asks before after (EndsWriting octets (Err (Failed (Other (pos 0)))))
fails_with_none before mid after octets left n none h told =
    fails before mid after octets left (Ok n) (Failed (Other (pos 0))) h told (inr (ap Ok none, refl))

-- all is written, and then it gets its date and is synced
pub filled : (before mid two after : Option (List Act)) (date : ℕ) (octets : List ℕ) (dated result : Result ⊤ Trouble) →
    Asks before mid (EndsWriting octets (Ok tt)) → AddsActs mid two (SetModified date dated ∷ []) → AddsActs two after (Synced result ∷ []) →
    Asks before after (Fills date octets result)
filled before mid two after date octets dated (Ok done) h given told = record {
  acts = h.acts ++ SetModified date dated ∷ Synced (Ok tt) ∷ [];
  known = adds_more before mid after h.acts (SetModified date dated ∷ Synced (Ok tt) ∷ []) h.known
      (adds_more mid two after (SetModified date dated ∷ []) (Synced (Ok tt) ∷ []) given told);
  form = (h.acts, dated, h.form, refl);
}
filled before mid two after date octets dated (Err trouble) h given told = record {
  acts = h.acts ++ SetModified date dated ∷ Synced (Err trouble) ∷ [];
  known = adds_more before mid after h.acts (SetModified date dated ∷ Synced (Err trouble) ∷ []) h.known
      (adds_more mid two after (SetModified date dated ∷ []) (Synced (Err trouble) ∷ []) given told);
  form = inr (h.acts, dated, h.form, refl);
}

pub not_filled : (before after : Option (List Act)) (date : ℕ) (octets : List ℕ) (trouble : Trouble) →
    Asks before after (EndsWriting octets (Err trouble)) → Asks before after (Fills date octets (Err trouble))
not_filled before after date octets trouble h = record { acts = h.acts; known = h.known; form = inl h.form }
