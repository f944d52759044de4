-- What the table of refusals says, and what it is held to.
use Rattle.std.specs.Prelude.{◌≡◌, ℕ, ◌≤◌, ◌<◌, ◌↔◌, length, true, false, ◌||◌, Option}
use Rattle.rohc_chain.specs.declared.refusal.ChainRefusal.{ChainRefusal}
use Rattle.rohc_forms.specs.declared.refusal.FormRefusal.{FormRefusal}
use Rattle.rohc_frame.specs.declared.refusal.FrameRefusal.{FrameRefusal}
use Rattle.rohc_frame.specs.Header.{Header}
use Rattle.rohc_context.specs.declared.refusal.Refusal.{Refusal}
use Rattle.rohc_context.specs.declared.reply.Outcome.TheVariants.{Refused}
use Rattle.rohc_context.specs.declared.settings.Settings.{Settings}
use Rattle.rohc_context.specs.Refusal.{row_of, number_of, name_of, is_found_by, Framing, Chain, Form, Context, Tables}
use Rattle.rohc_context.specs.Framing.{refusal_of_framing}
use Rattle.rohc_context.specs.Faults.{fault_of_chain, fault_of_form}
use Rattle.rohc_context.specs.Outcomes.{refusal_of}
use Rattle.rohc_context.specs.Record.{Record}
use Rattle.rohc_context.specs.Response.{Response}
use Rattle.rohc_context.specs.Step.{LoneStep}

-- ---- Numbers and names

-- the numbers are 1 to 30, and no others
abbrev pub HasNumbers : Type 0
HasNumbers = (n : ℕ) → ((1 ≤ n) × (n ≤ 30)) ↔ ((r : Refusal) × (number_of r ≡ n))

-- no two refusals have one number
abbrev pub NumbersDiffer : Type 0
NumbersDiffer = (q r : Refusal) → number_of q ≡ number_of r → q ≡ r

-- no two refusals have one name
abbrev pub NamesDiffer : Type 0
NamesDiffer = (q r : Refusal) → name_of q ≡ name_of r → q ≡ r

-- ---- What finds a refusal

-- it is found by framing exactly if it stands for a refusal of framing
abbrev pub FoundByFraming : Type 0
FoundByFraming =
    (r : Refusal) → (is_found_by Framing r ≡ true) ↔ ((f : FrameRefusal) × (refusal_of_framing f ≡ r))

-- it is found in a chain exactly if it stands for a refusal of an IR or IR-DYN
abbrev pub FoundInChains : Type 0
FoundInChains =
    (r : Refusal) → (is_found_by Chain r ≡ true) ↔ ((c : ChainRefusal) × (refusal_of (fault_of_chain c) ≡ r))

-- it is found in a format exactly if it stands for a refusal of a packet of kind Other
abbrev pub FoundInForms : Type 0
FoundInForms =
    (r : Refusal) → (is_found_by Form r ≡ true) ↔ ((f : FormRefusal) × (refusal_of (fault_of_form f) ≡ r))

-- if it is found by the state of a context, then a step answers it
abbrev pub FoundByContexts : Type 0
FoundByContexts = (r : Refusal) → is_found_by Context r ≡ true →
    (before : Option Record) × (s : Settings) × (moment : ℕ) × (h : Header)
    × (response : Response) × (next : Option Record)
    × LoneStep before s moment h response next × (response.outcome ≡ Refused r)

-- A step answers only what is found in a chain, in a format or by the state of a context, and nothing that is
-- found by the tables.
abbrev pub RefusesByRow : Type 0
RefusesByRow = (before : Option Record) (s : Settings) (moment : ℕ) (h : Header) (response : Response)
    (next : Option Record) (r : Refusal) →
    LoneStep before s moment h response next → response.outcome ≡ Refused r →
    ((is_found_by Chain r || is_found_by Form r || is_found_by Context r) ≡ true)
    × (is_found_by Tables r ≡ false)

-- what no state finds changes nothing
abbrev pub KeepsByRow : Type 0
KeepsByRow = (before : Option Record) (s : Settings) (moment : ℕ) (h : Header) (response : Response)
    (next : Option Record) (r : Refusal) →
    LoneStep before s moment h response next → response.outcome ≡ Refused r →
    is_found_by Context r ≡ false → next ≡ before

-- each refusal is found by something
abbrev pub HasFinder : Type 0
HasFinder = (r : Refusal) → 0 < length (row_of r).finders
