-- What is shown of a packet's tries is what a step answers.
-- Words: first_fit, IsAnsweredBy; the law.
use Rattle.std.specs.Prelude.{◌≡◌, ℕ, List, [], ◌∷◌, map, All, if◌then◌else◌, Option, Some, None, Result, Ok, Err}
use Rattle.rohc_bits.specs.Bits.{IsOctet}
use Rattle.rohc_frame.specs.Header.{Header}
use Rattle.rohc_forms.specs.Content.{Content}
use Rattle.rohc_forms.specs.Packets.{content}
use Rattle.rohc_context.specs.declared.refusal.Refusal.TheVariants.{Check}
use Rattle.rohc_context.specs.declared.reply.Outcome.TheVariants as outcomes
use Rattle.rohc_context.specs.declared.settings.Settings.{Settings}
use Rattle.rohc_context.specs.declared.shown.NotMade.{NotMade}
use Rattle.rohc_context.specs.declared.shown.Meant.{Meant}
use Rattle.rohc_context.specs.declared.shown.Tries.{Tries}
use Rattle.rohc_context.specs.declared.shown.Untried.{Untried}
use Rattle.rohc_context.specs.declared.shown.Untried.TheVariants.{Whole, Plain, Refused}
use Rattle.rohc_context.specs.Record.{Record}
use Rattle.rohc_context.specs.Response.{Response, delivered}
use Rattle.rohc_context.specs.Shown.{is_fit, result_of, Shows}
use Rattle.rohc_context.specs.Step.{LoneStep}

-- the header of the first try that fits, if one does
abbrev pub first_fit : List (Result Meant NotMade) → Option Meant
first_fit [] = None
first_fit (Err reason ∷ more) = first_fit more
first_fit (Ok m ∷ more) = if is_fit m then Some m else first_fit more

-- the answer delivers this packet, with feedback or without
abbrev pub DeliversAs : (head payload : List ℕ) → Response → Type 0
DeliversAs head payload response =
    (feedback : Option (List ℕ)) × (response ≡ delivered head payload feedback)

-- the answer by the try that fits, if one does
abbrev pub IsAnsweredBy : Option Meant → Content → Response → Type 0
IsAnsweredBy (Some m) c response = DeliversAs m.header.octets c.payload response
IsAnsweredBy None c response = response.outcome ≡ outcomes.Refused Check

-- the answer by what is shown; of an IR or an IR-DYN nothing is said
abbrev pub IsAnswered : Header → Result Tries Untried → Response → Type 0
IsAnswered h (Ok shown) response =
    IsAnsweredBy (first_fit (map result_of shown.tries)) (content shown.form) response
IsAnswered h (Err Whole) response = Unit {0}
IsAnswered h (Err Plain) response = DeliversAs (h.first ∷ []) h.rest response
IsAnswered h (Err (Refused refusal)) response = response.outcome ≡ outcomes.Refused refusal

-- a step answers as its tries are shown
abbrev pub AnswersAsShown : Type 0
AnswersAsShown = (r : Record) (s : Settings) (moment : ℕ) (h : Header) (shown : Result Tries Untried)
    (response : Response) (next : Option Record) → All IsOctet h.rest → Shows r s moment h shown →
    LoneStep (Some r) s moment h response next → IsAnswered h shown response
