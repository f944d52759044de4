-- Requests. Words: digit_of, number_in; is_head; changes a request; IsAskedByPost, ChangesNothing;
-- status_of, name_of, text_of a fault; HasHead, IsAnswerTo the octets of a request.
use Rattle.std.specs.Prelude.{◌≡◌, ◌⊎◌, ℕ, ◌+◌, ◌*◌, ◌-◌, List, [], ◌∷◌, ◌++◌, Bool, true, false, nat_lt, nat_le, ◌&&◌, ◌||◌, ◌==◌, nat_eq, if◌then◌else◌, codes, Option, Some, None, Result, Ok, Err, ⊤}
use Rattle.std.specs.List.{starts_with}
use Rattle.std.specs.Option.{option_and_then}
use Rattle.httparse.specs.Grammar.{RequestHead, ReadsRequest, HasNoRequest, MayBecomeRequest}
use Rattle.httparse.specs.Spans.{RequestOverflows}
use Rattle.rohc_station.specs.declared.request.Asked.{Asked}
use Rattle.rohc_station.specs.declared.request.Asked.TheVariants.{Unfinished, Whole, Faulty}
use Rattle.rohc_station.specs.declared.request.Request.{Request}
use Rattle.rohc_station.specs.declared.request.Request.TheVariants.{Stop, Save, Reload, Reset, Drain, Resume, Kept, Hold, Export, Import, Ready, Preview, Follow, Record, Status, State, Keep, Metrics, Page, Top, Contexts, Calls}
use Rattle.rohc_station.specs.declared.request.RequestFault.{RequestFault}
use Rattle.rohc_station.specs.declared.request.RequestFault.TheVariants.{BadRequest, NotFound, MethodNotAllowed, TooLarge}

-- the value of a decimal digit, 0x30 to 0x39
abbrev pub digit_of : ℕ → Option ℕ
digit_of octet = if nat_le 0x30 octet && nat_le octet 0x39 then Some (octet - 0x30) else None

-- a number below 65,536
abbrev pub below : ℕ → Option ℕ
below number = if nat_lt number 65536 then Some number else None

-- the number that these digits spell behind a number, as long as it is below 65,536
abbrev pub number_behind : ℕ → List ℕ → Option ℕ
number_behind before [] = Some before
number_behind before (octet ∷ octets) =
    option_and_then
    (λ digit. option_and_then (λ number. number_behind number octets) (below (before * 10 + digit)))
    (digit_of octet)

-- the number that one or more digits spell
abbrev pub number_in : List ℕ → Option ℕ
number_in [] = None
number_in (octet ∷ octets) = number_behind 0 (octet ∷ octets)

-- behind CRs and LFs a request begins with the method HEAD
abbrev pub is_head : List ℕ → Bool
is_head [] = false
is_head (octet ∷ octets) =
    if octet == 13 || octet == 10 then is_head octets else starts_with nat_eq (octet ∷ octets) (codes "HEAD ")

-- those that change how datagrams are answered from then on
abbrev pub changes : Request → Bool
changes Stop = true
changes Save = false
changes Reload = true
changes (Reset link cid) = true
changes Drain = true
changes Resume = true
changes (Kept failed) = false
changes (Hold link off) = true
changes (Export link off) = true
changes (Import link) = true
changes Ready = false
changes Preview = false
changes (Follow link cid) = false
changes (Record link seconds) = false
changes Status = false
changes State = false
changes Keep = false
changes Metrics = false
changes Page = false
changes Top = false
changes (Contexts link) = false
changes (Calls link form) = false

-- a request that changes something came by POST
abbrev pub IsAskedByPost : List ℕ → Request → Type 0
IsAskedByPost method request = changes request ≡ true → method ≡ codes "POST"

-- what was asked, if it is a request, changes nothing
abbrev pub ChangesNothing : Result Request RequestFault → Type 0
ChangesNothing (Ok request) = changes request ≡ false
ChangesNothing (Err fault) = ⊤

-- the status codes (RFC 9110 15.5)
abbrev pub status_of : RequestFault → ℕ
status_of BadRequest = 400
status_of NotFound = 404
status_of MethodNotAllowed = 405
status_of TooLarge = 413

-- the names of the faults
abbrev pub name_of : RequestFault → List ℕ
name_of BadRequest = codes "BadRequest"
name_of NotFound = codes "NotFound"
name_of MethodNotAllowed = codes "MethodNotAllowed"
name_of TooLarge = codes "TooLarge"

-- what was wrong and what was expected, for a reader
abbrev pub text_of : RequestFault → List ℕ
text_of BadRequest = codes "not a request that a gateway knows; expected HTTP/1.1 with the query of its path,"
    ++ codes " and a body only for import"
text_of NotFound = codes "nothing is at this path; man rohctl names each request"
text_of MethodNotAllowed = codes "the path has another method; expected GET or HEAD to show something,"
    ++ codes " POST to change something"
text_of TooLarge = codes "the request is too long; expected a head of at most 8192 octets,"
    ++ codes " and a body of at most 2 MiB"

-- the octets begin with a whole head, and this holds of its method
abbrev pub HasHead : List ℕ → (List ℕ → Type 0) → Type 0
HasHead octets Holds =
    (head : RequestHead) × (rest : List ℕ) × ReadsRequest octets head rest × Holds head.method

-- What is answered to the octets of a request. The head isn't whole yet, and may become whole; it is whole,
-- and what changes something came by POST; or it is whole and faulty, or none of at most 64 fields can
-- become of it.
abbrev pub IsAnswerTo : List ℕ → Asked → Type 0
IsAnswerTo octets Unfinished = HasNoRequest octets × MayBecomeRequest octets
IsAnswerTo octets (Whole request) = HasHead octets (λ method. IsAskedByPost method request)
IsAnswerTo octets (Faulty fault) =
    HasHead octets (λ method. ⊤) ⊎ ((fault ≡ BadRequest) × RequestOverflows 64 octets)
