-- What finds a refusal.
use Rattle.std.proofs.Common.{◌≡◌, ℕ, inl, inr, List, [], ◌∷◌, Bool, true, false, ◌||◌, ◌==◌, not, Option, Some, None, refl, sym, ap, ◌∙◌, subst, rules, eqb-true}
use Rattle.std.proofs.Math.Bool.{xor}
use Rattle.std.specs.List.{list_any, list_all}
use Rattle.rohc_bits.specs.Reading.{next_octet}
use Rattle.rohc_checks.specs.Division.{check, number, remainder, divided, add_front, bits, poly8}
use Rattle.rohc_chain.specs.declared.refusal.ChainRefusal.{ChainRefusal}
use Rattle.rohc_chain.specs.declared.refusal.ChainRefusal.TheVariants as chains
use Rattle.rohc_chain.specs.Packets.{ir_at}
use Rattle.rohc_forms.specs.declared.refusal.FormRefusal.{FormRefusal}
use Rattle.rohc_forms.specs.declared.refusal.FormRefusal.TheVariants as forms
use Rattle.rohc_frame.specs.declared.header.CidKind.TheVariants.{Small}
use Rattle.rohc_frame.specs.declared.header.HeadKind.{HeadKind}
use Rattle.rohc_frame.specs.declared.header.HeadKind.TheVariants.{Ir, Other}
use Rattle.rohc_frame.specs.declared.refusal.FrameRefusal.{FrameRefusal}
use Rattle.rohc_frame.specs.declared.refusal.FrameRefusal.TheVariants as framing
use Rattle.rohc_frame.specs.Header.{Header}
use Rattle.rohc_context.specs.declared.refusal.Refusal.{Refusal}
use Rattle.rohc_context.specs.declared.refusal.Refusal.TheVariants as refusals
use Rattle.rohc_context.specs.declared.refusal.TheConstants.{ALL}
use Rattle.rohc_context.specs.declared.reply.Outcome.TheVariants as outcomes
use Rattle.rohc_context.specs.declared.settings.Mode.TheVariants.{U}
use Rattle.rohc_context.specs.declared.settings.Settings.{Settings}
use Rattle.rohc_context.specs.Refusal.{Finder, Framing, Chain, Form, Context, Tables, number_of, is_found_by}
use Rattle.rohc_context.specs.RefusalLaws.{FoundByFraming, FoundInChains, FoundInForms, FoundByContexts, RefusesByRow, KeepsByRow, HasFinder}
use Rattle.rohc_context.specs.Framing.{refusal_of_framing}
use Rattle.rohc_context.specs.Faults.{fault_of_chain, fault_of_form}
use Rattle.rohc_context.specs.Outcomes.{refusal_of}
use Rattle.rohc_context.specs.Record.{NoContext, Record}
use Rattle.rohc_context.specs.Response.{Response, refused}
use Rattle.rohc_context.specs.Step.{LoneStep}
use Rattle.rohc_context.proofs.RefusalTable.{each_refusal, numbers_differ}
use Rattle.rohc_context.proofs.Cases.{is_of_octets}
use Rattle.rohc_context.proofs.RefusalLemmas.{Refusing, refusing, uncounted, misread, unfit, untaken}

-- ---- The octets

-- one of these stands for the refusal
module _ {A : Type 0} (stands_for : A → Refusal) where
  abbrev is_among : List A → Refusal → Bool
  is_among all r = list_any (λ a. number_of (stands_for a) == number_of r) all

  among : (all : List A) (r : Refusal) → is_among all r ≡ true → (a : A) × (stands_for a ≡ r)
  among [] r e = absurd cc
  among (a ∷ all) r e = go (number_of (stands_for a) == number_of r) refl e (among all r) where
    go : (here : Bool) → (number_of (stands_for a) == number_of r) ≡ here → (here || is_among all r) ≡ true → (is_among all r ≡ true → (b : A) × (stands_for b ≡ r))
        → (b : A) × (stands_for b ≡ r)
    go true same is behind = (a, numbers_differ (stands_for a) r (eqb-true (number_of (stands_for a)) (number_of r) same))
    go false differs is behind = behind is

  -- so it is for each that the finder finds, if it is for each of the table
  found_among : (finder : Finder) (all : List A) → list_all (λ r. not (is_found_by finder r) || is_among all r) ALL ≡ true
      → (r : Refusal) → is_found_by finder r ≡ true → (a : A) × (stands_for a ≡ r)
  found_among finder all each r found = among all r (unless_found (is_found_by finder r) (is_among all r) found (each_refusal (λ q. not (is_found_by finder q) || is_among all q) each r)) where
    unless_found : (a b : Bool) → a ≡ true → (not a || b) ≡ true → b ≡ true
    unless_found true b found is = is
    unless_found false b found is = absurd cc

pub found_by_framing : FoundByFraming
found_by_framing r = (found_among refusal_of_framing Framing all refl r, λ (f, e). subst (λ q. is_found_by Framing q ≡ true) e (found f)) where
  all : List FrameRefusal
  all = framing.Empty ∷ framing.FeedbackShort ∷ framing.AfterAddCid ∷ framing.Segment ∷ framing.ReservedType ∷ framing.AddCidOnLarge ∷ framing.LargeCid ∷ framing.CidRange
      ∷ framing.NoHeader ∷ []

  found : (f : FrameRefusal) → is_found_by Framing (refusal_of_framing f) ≡ true
  found f = search rules

pub found_in_chains : FoundInChains
found_in_chains r = (found_among (λ c. refusal_of (fault_of_chain c)) Chain all refl r, λ (c, e). subst (λ q. is_found_by Chain q ≡ true) e (found c)) where
  all : List ChainRefusal
  all = chains.Profile ∷ chains.ProfileChange ∷ chains.Truncated ∷ chains.IpVersion ∷ chains.Protocol ∷ chains.ExtensionList ∷ chains.RtpVersion ∷ chains.Csrc ∷ chains.ZeroStride
      ∷ chains.ReliableMode ∷ chains.Trailing ∷ chains.TooLong ∷ chains.Check ∷ []

  found : (c : ChainRefusal) → is_found_by Chain (refusal_of (fault_of_chain c)) ≡ true
  found c = search rules

pub found_in_forms : FoundInForms
found_in_forms r = (found_among (λ f. refusal_of (fault_of_form f)) Form all refl r, λ (f, e). subst (λ q. is_found_by Form q ≡ true) e (found f)) where
  all : List FormRefusal
  all = forms.Truncated ∷ forms.Protocol ∷ forms.ExtensionList ∷ forms.Csrc ∷ forms.ZeroStride ∷ forms.ReliableMode ∷ forms.OuterHeader ∷ forms.NoStride ∷ forms.RndInUo1
      ∷ forms.IpIdTwice ∷ []

  found : (f : FormRefusal) → is_found_by Form (refusal_of (fault_of_form f)) ≡ true
  found f = search rules

-- ---- The step

-- an example: a header of CID 0, at moment 0
abbrev settings : Settings
settings = record { size = Small; max_cid = 15; mode = U; k1 = 1; n1 = 1; k2 = 1; n2 = 1; packet_ms = 20; static_nack_ms = 1000; idle_ms = 0 }

abbrev header : HeadKind → ℕ → List ℕ → Header
header kind first rest = record { cid = 0; size = Small; kind = kind; first = first; cid_octets = []; rest = rest }

abbrev IsAnswered : Refusal → Type 0
IsAnswered r = (before : Option Record) × (s : Settings) × (moment : ℕ) × (h : Header) × (response : Response) × (next : Option Record)
    × LoneStep before s moment h response next × (response.outcome ≡ outcomes.Refused r)

answers_no_context : IsAnswered refusals.NoContext
unfolding LoneStep
answers_no_context = (None, settings, 0, header Other 0 [], refused refusals.NoContext, None, (_, refl, (refl, refl)), refl)

answers_low : IsAnswered refusals.StateTooLow
unfolding LoneStep
answers_low = (Some low, settings, 0, header Other 0 [], refused refusals.StateTooLow, Some low, (_, refl, (refl, refl)), refl) where
  low : Record
  low = record { accepted = 0; state = NoContext 0 }

-- an IR of profile 0x0000 whose check octet is 00
answers_check : IsAnswered refusals.Check
unfolding LoneStep ir_at next_octet check number remainder divided add_front bits poly8 xor
answers_check = (None, settings, 0, header (Ir false) 252 (0 ∷ 0 ∷ []), refused refusals.Check, None, (_, refl, (refl, refl)), refl)

pub found_by_contexts : FoundByContexts
found_by_contexts r found = go one.0 one.1 where
  answered : List ((q : Refusal) × IsAnswered q)
  answered = (refusals.NoContext, answers_no_context) ∷ (refusals.StateTooLow, answers_low) ∷ (refusals.Check, answers_check) ∷ []

  of : (q : Refusal) × IsAnswered q → Refusal
  of a = a.0

  one : (a : (q : Refusal) × IsAnswered q) × (of a ≡ r)
  one = found_among of Context answered refl r found

  go : (a : (q : Refusal) × IsAnswered q) → of a ≡ r → IsAnswered r
  go a e = subst IsAnswered e a.1

pub refuses_by_row : RefusesByRow
refuses_by_row before s m h a x r step e = go (refusing before s m h a x r step e) where
  Wanted : Refusal → Type 0
  Wanted q = ((is_found_by Chain q || is_found_by Form q || is_found_by Context q) ≡ true) × (is_found_by Tables q ≡ false)

  of_octets : (q : Refusal) → is_of_octets q ≡ true → Wanted q
  of_octets q e = search rules

  go : Refusing before s m h a x r → Wanted r
  go (uncounted none (inl f) k g) = subst Wanted (sym f) (refl, refl)
  go (uncounted none (inr f) k g) = subst Wanted (sym f) (refl, refl)
  go (misread octets g) = of_octets r octets
  go (unfit q is f p) = subst Wanted f (refl, refl)
  go (untaken q is f low p) = subst Wanted f (refl, refl)

pub keeps_by_row : KeepsByRow
keeps_by_row before s m h a x r step e apart = go (refusing before s m h a x r step e) where
  changes_nothing : (q : Refusal) → is_found_by Context q ≡ true → q ≡ r → x ≡ before
  changes_nothing q found same = absurd (let k : true ≡ false = sym found ∙ ap (λ p. is_found_by Context p) same ∙ apart in cc)

  go : Refusing before s m h a x r → x ≡ before
  go (uncounted none which f g) = g
  go (misread octets g) = g
  go (unfit q is f p) = changes_nothing refusals.Check refl f
  go (untaken q is f low p) = changes_nothing refusals.StateTooLow refl f

pub has_finder : HasFinder
has_finder r = search rules
