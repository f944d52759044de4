-- What a refused arrival leaves.
use Rattle.std.proofs.Common.{◌≡◌, ◌≢◌, ℕ, ◌⊎◌, List, [], ◌∷◌, true, false, Option, Some, None, inl, inr, refl, sym, ap, subst, ◌∙◌}
use Rattle.rohc_frame.specs.Header.{Header}
use Rattle.rohc_chain.specs.Packets.{IrContent}
use Rattle.rohc_chain.specs.Packets as chain
use Rattle.rohc_context.specs.Settings.{limits}
use Rattle.rohc_context.proofs.Common.{gives}
use Rattle.rohc_context.specs.declared.refusal.Refusal.{Refusal}
use Rattle.rohc_context.specs.declared.refusal.Refusal.TheVariants as refusals
use Rattle.rohc_context.specs.declared.reply.Outcome.TheVariants as outcomes
use Rattle.rohc_context.specs.declared.settings.Settings.{Settings}
use Rattle.rohc_context.specs.Record.{State, Record}
use Rattle.rohc_context.specs.Response.{Response, delivered, refused}
use Rattle.rohc_context.specs.Failures.{after_check, after_low_state}
use Rattle.rohc_context.specs.Outcomes.{fails}
use Rattle.rohc_context.specs.Renewal.{plain_answer, Renewed}
use Rattle.rohc_context.specs.Step.{TooLow, rule, counting, Follows, Steps, Gives, Answers, arrival, LoneStep}
use Rattle.rohc_context.specs.Laws.{ChecksChange, LowStatesChange, LowStatesRefuse}
use Rattle.rohc_context.proofs.Cases.{is_of_octets, Case, step_case, renews, strays, refuses, checks, lows, restores, refreshes, normal, promotes, updates}

-- ---- What is taken is not refused

-- the outcome of an answer
outcome_is : (a b : Response) (refusal : Refusal) → a ≡ b → a.outcome ≡ outcomes.Refused refusal → b.outcome ≡ outcomes.Refused refusal
outcome_is a b refusal e f = sym (ap (λ (r : Response). r.outcome) e) ∙ f

same_refusal : (a b : Refusal) → outcomes.Refused a ≡ outcomes.Refused b → a ≡ b
same_refusal a b e = cc

-- the refusal of an answer that is refused for this reason
refused_for : (a b : Response) (refusal other : Refusal) → a ≡ b → b.outcome ≡ outcomes.Refused refusal → a.outcome ≡ outcomes.Refused other → refusal ≡ other
refused_for a b refusal other e f g = same_refusal refusal other (sym f ∙ outcome_is a b other e g)

pub delivered_not_refused : (octets payload : List ℕ) (feedback : Option (List ℕ)) (a : Response) (refusal : Refusal) → a ≡ delivered octets payload feedback
    → a.outcome ≢ outcomes.Refused refusal
delivered_not_refused octets payload feedback a refusal e f = let k = outcome_is a (delivered octets payload feedback) refusal e f in cc

plain_not_refused : (packet : List ℕ) (refusal : Refusal) → (plain_answer packet).outcome ≢ outcomes.Refused refusal
plain_not_refused [] refusal e = cc
plain_not_refused (octet ∷ packet) refusal e = cc

pub renewed_not_refused : (s : Settings) (m : ℕ) (h : Header) (state : Option State) (content : IrContent) (a : Response) (x : Option Record) (refusal : Refusal)
    → Answers s h (Renewed (arrival s m h) state content) a x → a.outcome ≢ outcomes.Refused refusal
renewed_not_refused s m h state (chain.Plain packet) a x refusal (k, is, p) e = plain_not_refused packet refusal (outcome_is a _ refusal (gives s h k _ a x is p).0 e)
renewed_not_refused s m h state (chain.StaticOnly fixed) a x refusal (k, is, p) e = let f = outcome_is a _ refusal (gives s h k _ a x is p).0 e in cc
renewed_not_refused s m h state (chain.Whole fixed moving payload) a x refusal (k, (octets, o, is), p) e = delivered_not_refused octets payload _ a refusal (gives s h k _ a x is p).0 e

-- ---- What a refusal says of the step

pub data Refusing (before : Option Record) (s : Settings) (m : ℕ) (h : Header) (a : Response) (x : Option Record) (refusal : Refusal) : Type 0 where
  uncounted : counting s m before ≡ None → (refusal ≡ refusals.NoContext) ⊎ (refusal ≡ refusals.Check) → a ≡ refused refusal → x ≡ before → Refusing before s m h a x refusal
  misread : is_of_octets refusal ≡ true → x ≡ before → Refusing before s m h a x refusal
  unfit : (r : Record) → counting s m before ≡ Some r → refusals.Check ≡ refusal → Gives s h (fails r refusals.Check (after_check (limits s) m r.state)) a x → Refusing before s m h a x refusal
  untaken : (r : Record) → counting s m before ≡ Some r → refusals.StateTooLow ≡ refusal → rule r.state h.kind h.first ≡ TooLow
      → Gives s h (fails r refusals.StateTooLow (after_low_state (limits s) m r.state)) a x → Refusing before s m h a x refusal

-- a refused arrival is refused in one of these ways
pub refusing : (before : Option Record) (s : Settings) (m : ℕ) (h : Header) (a : Response) (x : Option Record) (refusal : Refusal) → LoneStep before s m h a x
    → a.outcome ≡ outcomes.Refused refusal → Refusing before s m h a x refusal
refusing before s m h a x refusal step e = go (step_case before s m h a x step) where
  go : Case before s m h a x → Refusing before s m h a x refusal
  go (renews content ir read p) = absurd (renewed_not_refused s m h _ content a x refusal p e)
  go (strays q none which f g) =
      let same : q ≡ refusal = refused_for a (refused q) q refusal f refl e in
      uncounted none (subst (λ k. (k ≡ refusals.NoContext) ⊎ (k ≡ refusals.Check)) same which) (f ∙ ap refused same) g
  go (refuses q of_octets f g) = misread (subst (λ k. is_of_octets k ≡ true) (refused_for a (refused q) q refusal f refl e) of_octets) g
  go (checks r is p) = unfit r is (refused_for a _ refusals.Check refusal p.0 refl e) p
  go (lows r is low p) = untaken r is (refused_for a _ refusals.StateTooLow refusal p.0 refl e) low p
  go (restores r fixed reference f g d is kind state read (octets, o, p)) = absurd (delivered_not_refused octets d.payload _ a refusal p.0 e)
  go (refreshes r fixed reference previous w d is kind state read (octets, o, p)) = absurd (delivered_not_refused octets d.payload _ a refusal p.0 e)
  go (normal r is kind state p) = absurd (delivered_not_refused (h.first ∷ []) h.rest _ a refusal p.0 e)
  go (promotes r fixed reference f g v is kind state judges p) = absurd (delivered_not_refused v.header.octets v.content.payload _ a refusal p.0 e)
  go (updates r fixed reference previous w v is kind state judges p) = absurd (delivered_not_refused v.header.octets v.content.payload _ a refusal p.0 e)

-- ---- Laws of refusals

-- a record doesn't count where there is none
none_counts : (s : Settings) (m : ℕ) (r : Record) → counting s m None ≡ Some r → ⊥
none_counts s m r e = let f : None ≡ Some r = e in cc

pub step_none : (s : Settings) (m : ℕ) (h : Header) (response : Response) (next : Option Record) (refusal : Refusal)
    → LoneStep None s m h response next → response.outcome ≡ outcomes.Refused refusal → next ≡ None
step_none s m h a x refusal step e = go (refusing None s m h a x refusal step e) where
  go : Refusing None s m h a x refusal → x ≡ None
  go (uncounted none which f g) = g
  go (misread of_octets g) = g
  go (unfit r is f p) = absurd (none_counts s m r is)
  go (untaken r is f low p) = absurd (none_counts s m r is)

pub step_rich : (before : Option Record) (s : Settings) (m : ℕ) (h : Header) (response : Response) (next : Option Record)
    → LoneStep before s m h response next → response.outcome ≢ outcomes.Refused refusals.NoMemory
step_rich before s m h a x step e = go (refusing before s m h a x refusals.NoMemory step e) where
  go : Refusing before s m h a x refusals.NoMemory → ⊥
  go (uncounted none (inl f) k g) = cc
  go (uncounted none (inr f) k g) = cc
  go (misread of_octets g) = let f : false ≡ true = of_octets in cc
  go (unfit r is f p) = cc
  go (untaken r is f low p) = cc

pub step_keeps : (before : Option Record) (s : Settings) (m : ℕ) (h : Header) (a : Response) (x : Option Record) (refusal : Refusal)
    → LoneStep before s m h a x → a.outcome ≡ outcomes.Refused refusal → refusal ≢ refusals.Check → refusal ≢ refusals.StateTooLow → x ≡ before
step_keeps before s m h a x refusal step e check low = go (refusing before s m h a x refusal step e) where
  go : Refusing before s m h a x refusal → x ≡ before
  go (uncounted none which f g) = g
  go (misread of_octets g) = g
  go (unfit r is f p) = absurd (check (sym f))
  go (untaken r is f untakes p) = absurd (low (sym f))

-- two records that count are one
pub one_counts : (s : Settings) (m : ℕ) (before : Option Record) (q r : Record) → counting s m before ≡ Some q → counting s m before ≡ Some r → q ≡ r
one_counts s m before q r e f = let g : Some q ≡ Some r = sym e ∙ f in cc

-- none counts, or one does
pub counts_not : (s : Settings) (m : ℕ) (before : Option Record) (r : Record) → counting s m before ≡ None → counting s m before ≡ Some r → ⊥
counts_not s m before r e f = let g : None ≡ Some r = sym e ∙ f in cc

pub step_checks : ChecksChange
step_checks before s m h a x step e = go (refusing before s m h a x refusals.Check step e) where
  Wanted : Type 0
  Wanted = (counting s m before ≡ None → (a ≡ refused refusals.Check) × (x ≡ before))
      × ((r : Record) → counting s m before ≡ Some r → Gives s h (fails r refusals.Check (after_check (limits s) m r.state)) a x)

  go : Refusing before s m h a x refusals.Check → Wanted
  go (uncounted none which f g) = (λ _. (f, g), λ r is. absurd (counts_not s m before r none is))
  go (misread of_octets g) = absurd (let f : false ≡ true = of_octets in cc)
  go (unfit r is f p) = (λ none. absurd (counts_not s m before r none is), λ q also. subst (λ k. Gives s h (fails k refusals.Check (after_check (limits s) m k.state)) a x) (one_counts s m before r q is also) p)
  go (untaken r is f low p) = absurd cc

pub step_low : LowStatesChange
step_low before s m h a x step e = go (refusing before s m h a x refusals.StateTooLow step e) where
  Wanted : Type 0
  Wanted = (r : Record) × (counting s m before ≡ Some r) × (rule r.state h.kind h.first ≡ TooLow) × Gives s h (fails r refusals.StateTooLow (after_low_state (limits s) m r.state)) a x

  go : Refusing before s m h a x refusals.StateTooLow → Wanted
  go (uncounted none (inl f) k g) = absurd cc
  go (uncounted none (inr f) k g) = absurd cc
  go (misread of_octets g) = absurd (let f : false ≡ true = of_octets in cc)
  go (unfit r is f p) = absurd cc
  go (untaken r is f low p) = (r, is, low, p)

-- a state that doesn't take a packet answers StateTooLow
pub step_untaken : LowStatesRefuse
unfolding LoneStep
step_untaken before s m h a x r is low step = go (counting s m before) is step where
  here : (q : Record) → Some q ≡ Some r → q ≡ r
  here q e = cc

  go : (c : Option Record) → c ≡ Some r → Answers s h (Steps h.kind c before (arrival s m h)) a x → a.outcome ≡ outcomes.Refused refusals.StateTooLow
  go None f p = absurd (let g : None ≡ Some r = f in cc)
  go (Some q) f (ending, p, given) =
      let e = subst (λ k. Follows k (arrival s m h) q ending) (ap (λ (k : Record). rule k.state h.kind h.first) (here q f) ∙ low) p in
      ap (λ (k : Response). k.outcome) (gives s h ending _ a x e given).0
