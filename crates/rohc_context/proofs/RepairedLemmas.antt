-- Whether a packet is repaired, by what its step does.
use Rattle.std.proofs.Common.{◌≡◌, ℕ, Bool, true, false, List, Option, Some, None, refl, sym, ap, subst}
use Rattle.std.specs.Prelude.{Ok, is_some}
use Rattle.rohc_frame.specs.Header.{Header}
use Rattle.rohc_header.specs.declared.fields.Static.{Static}
use Rattle.rohc_forms.specs.Content.{Content}
use Rattle.rohc_context.specs.declared.fault.Fault.{Fault}
use Rattle.rohc_context.specs.declared.fault.Fault.TheVariants.{Unfit, Refused}
use Rattle.rohc_context.specs.declared.settings.Settings.{Settings}
use Rattle.rohc_context.specs.Record.{Reference, State, Plain, NoContext, StaticContext, FullContext, Record}
use Rattle.rohc_context.specs.Response.{Response, delivered}
use Rattle.rohc_context.specs.Outcomes.{Arrival, ends}
use Rattle.rohc_context.specs.Step.{Gives}
use Rattle.rohc_context.specs.Update.{said_under}
use Rattle.rohc_context.specs.Repaired.{IsRepaired, RepairsIn, RepairsGiven}

-- a packet that ends in a fault isn't repaired
pub ended_unrepaired : (s : Settings) (h : Header) (a : Arrival) (r : Record) (before : Option Record) (fault : Fault) (response : Response) (next : Option Record) (st : State)
    → Gives s h (ends a (Some r) before fault) response next → RepairsGiven (is_some response.packet) st h false
ended_unrepaired s h a r before (Refused refusal) response next st given =
    subst (λ b. RepairsGiven b st h false) (sym (ap (λ (x : Response). is_some x.packet) given.0)) refl
ended_unrepaired s h a r before Unfit response next st given =
    subst (λ b. RepairsGiven b st h false) (sym (ap (λ (x : Response). is_some x.packet) given.0)) refl

-- nor is one in a state that has one try at most
abbrev pub is_full : State → Bool
is_full (FullContext fixed reference previous window) = true
is_full Plain = false
is_full (NoContext nacked) = false
is_full (StaticContext fixed reference first second) = false

pub one_try : (given : Bool) (st : State) (h : Header) → is_full st ≡ false → RepairsGiven given st h false
one_try false st h e = refl
one_try true Plain h e = refl
one_try true (NoContext nacked) h e = refl
one_try true (StaticContext fixed reference first second) h e = refl
one_try true (FullContext fixed reference previous window) h e = absurd (let f : true ≡ false = e in cc)

-- in Full Context a packet that is delivered is, if it misses by the first try
pub full_repairs : (st : State) (fixed : Static) (reference : Reference) (previous : Option Reference) (window : List Bool) (h : Header) (response : Response) (head payload : List ℕ)
    (repaired : Bool) → st ≡ FullContext fixed reference previous window → response ≡ delivered head payload None
    → ((c : Content) × (said_under h reference ≡ Ok c) × IsRepaired fixed reference c repaired) → RepairsGiven (is_some response.packet) st h repaired
full_repairs st fixed reference previous window h response head payload repaired is e how =
    subst (λ b. RepairsGiven b st h repaired) (sym (ap (λ (x : Response). is_some x.packet) e)) (subst (λ x. RepairsIn x h repaired) (sym is) how)
