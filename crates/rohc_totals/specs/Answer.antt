-- What an answer line is. Words: Answer, IsAnswer, spelling, the line of an answer; IsFeedback; Says;
-- TellsLine, IsSaid.
use Rattle.std.specs.Prelude.{◌≡◌, ◌≢◌, ℕ, ◌^◌, ◌<◌, ◌≤◌, ◌%◌, ◌⊎◌, List, [], ◌∷◌, ◌++◌, length, Bool, true, ◌==◌, ◌&&◌, ◌||◌, nat_lt, nat_le, Some, None, Ok, codes}
use Rattle.std.specs.List.{list_any, list_all}
use Rattle.std.specs.Fmt.{decimal}
use Rattle.rohc_context.specs.Refusal.{name_of}
use Rattle.rohc_context.specs.declared.refusal.Refusal.{Refusal}
use Rattle.std.specs.Str.{bytes_eq}
use Rattle.hex.specs.Hex.{decode_of}
use Rattle.rohc_frame.specs.declared.header.CidKind.{CidKind}
use Rattle.rohc_feedback.specs.declared.meaning.Reading.{Reading}
use Rattle.rohc_feedback.specs.declared.meaning.Word.{Word}
use Rattle.rohc_feedback.specs.declared.meaning.Word.TheVariants as words
use Rattle.rohc_feedback.specs.Element.{IsMeaning, octets_of_meaning}
use Rattle.rohc_replay.specs.AnswerLines.{pair_text, bad_line, long_line}
use Rattle.rohc_replay.specs.Script.{longest_line}
use Rattle.rohc_totals.specs.declared.kind.LineKind.{LineKind}
use Rattle.rohc_totals.specs.declared.kind.LineKind.TheVariants as kinds
use Rattle.rohc_totals.specs.declared.kind.AnswerLine.{AnswerLine}

-- the kind of a feedback's word
abbrev pub kind_of_word : Word → LineKind
kind_of_word words.Ack = kinds.Ack
kind_of_word words.Nack = kinds.Nack
kind_of_word words.StaticNack = kinds.StaticNack
kind_of_word words.Plain = kinds.Plain

-- the octets are an element for this CID, of this word
abbrev pub IsElement : ℕ → List ℕ → CidKind → Word → Type 0
IsElement cid octets size word =
    (m : Reading) × IsMeaning size m × (m.cid ≡ cid) × (m.word ≡ word) × (octets ≡ octets_of_meaning size m)

-- the text is the octets of an element for this CID, of this kind
abbrev pub FeedsWord : ℕ → List ℕ → LineKind → Type 0
FeedsWord cid hex kind = (octets : List ℕ) × (size : CidKind) × (word : Word) × (decode_of hex ≡ Ok octets)
    × IsElement cid octets size word × (kind ≡ kind_of_word word)

-- the text is of no element for this CID
abbrev pub FeedsNone : ℕ → List ℕ → Type 0
FeedsNone cid hex = (octets : List ℕ) (size : CidKind) (word : Word) → decode_of hex ≡ Ok octets →
    length octets ≤ 8 → IsElement cid octets size word → ⊥

-- a space is among the octets
abbrev pub has_space : List ℕ → Bool
has_space octets = list_any (λ octet. octet == 32) octets

-- `0` to `9`, `a` to `f`
abbrev pub is_digit : ℕ → Bool
is_digit octet = (nat_le 48 octet && nat_le octet 57) || (nat_le 97 octet && nat_le octet 102)

-- pairs of lower case digits, at least one
abbrev pub is_pairs : List ℕ → Bool
is_pairs octets = nat_lt 0 (length octets) && (length octets % 2 == 0) && list_all is_digit octets

-- pairs of lower case digits, or `-`
abbrev pub is_hex : List ℕ → Bool
is_hex octets = bytes_eq octets (codes "-") || is_pairs octets

-- The kind of feedback in this hex text: that of the element for this CID, whose octets these are, on a link
-- of small or of large CIDs. Any other text is of no kind that rohcd writes. An element has at most 8 octets.
abbrev pub IsFeedback : ℕ → List ℕ → LineKind → Type 0
IsFeedback cid hex kind = FeedsWord cid hex kind ⊎ (kind ≡ kinds.OtherFeedback) × FeedsNone cid hex

-- what is said of a link
pub data LinkSays : Type 0 where
  Relays : List ℕ → LinkSays
  LinkRefuses : Refusal → LinkSays

-- what is said of a call
pub data CallSays : Type 0 where
  Delivers : List ℕ → CallSays
  Stores : CallSays
  Feeds : List ℕ → CallSays
  Refuses : Refusal → CallSays

-- an answer
pub data Answer : Type 0 where
  BadAnswer : Answer
  LongAnswer : Answer
  OfLink : ℕ → LinkSays → Answer
  OfCall : ℕ → ℕ → CallSays → Answer

-- octets are written in hex
abbrev pub IsLinkSays : LinkSays → Type 0
IsLinkSays (Relays hex) = is_hex hex ≡ true
IsLinkSays (LinkRefuses refusal) = Unit {0}

abbrev pub IsCallSays : CallSays → Type 0
IsCallSays (Delivers hex) = is_hex hex ≡ true
IsCallSays Stores = Unit {0}
IsCallSays (Feeds hex) = is_hex hex ≡ true
IsCallSays (Refuses refusal) = Unit {0}

-- numbers fit their field
abbrev pub IsAnswer : Answer → Type 0
IsAnswer BadAnswer = Unit {0}
IsAnswer LongAnswer = Unit {0}
IsAnswer (OfLink link says) = (link < 2 ^ 16) × IsLinkSays says
IsAnswer (OfCall link cid says) = (link < 2 ^ 16) × (cid < 2 ^ 16) × IsCallSays says

-- what follows the link and ` - `
abbrev pub link_says_text : LinkSays → List ℕ
link_says_text (Relays hex) = codes "relay " ++ hex
link_says_text (LinkRefuses refusal) = codes "refused " ++ name_of refusal

-- what follows the link and the CID
abbrev pub call_text : CallSays → List ℕ
call_text (Delivers hex) = codes "ip " ++ hex
call_text Stores = codes "stored"
call_text (Feeds hex) = codes "feedback " ++ hex
call_text (Refuses refusal) = codes "refused " ++ name_of refusal

-- the line of an answer
abbrev pub spelling : Answer → List ℕ
spelling BadAnswer = bad_line
spelling LongAnswer = long_line
spelling (OfLink link says) = decimal link ++ codes " - " ++ link_says_text says
spelling (OfCall link cid says) = pair_text link cid ++ call_text says

-- the kind of what is said of a link
abbrev pub link_kind : LinkSays → LineKind
link_kind (Relays hex) = kinds.Relayed
link_kind (LinkRefuses refusal) = kinds.Refused refusal

-- the kind of what is said of a call; feedback is of the kind that is read from its octets
abbrev pub IsCallKind : ℕ → CallSays → LineKind → Type 0
IsCallKind cid (Delivers hex) kind = kind ≡ kinds.Delivered
IsCallKind cid Stores kind = kind ≡ kinds.Stored
IsCallKind cid (Feeds hex) kind = IsFeedback cid hex kind
IsCallKind cid (Refuses refusal) kind = kind ≡ kinds.Refused refusal

-- what is told of an answer
abbrev pub Says : Answer → AnswerLine → Type 0
Says BadAnswer s = s ≡ record { link = None; cid = None; kind = kinds.BadLine }
Says LongAnswer s = s ≡ record { link = None; cid = None; kind = kinds.LongLine }
Says (OfLink link says) s = s ≡ record { link = Some link; cid = None; kind = link_kind says }
Says (OfCall link cid says) s = (s.link ≡ Some link) × (s.cid ≡ Some cid) × IsCallKind cid says s.kind

-- the line is the text of an answer, of which this is told
abbrev pub TellsLine : List ℕ → AnswerLine → Type 0
TellsLine line s = (answer : Answer) × IsAnswer answer × (line ≡ spelling answer) × Says answer s

-- the line is the text of no answer
abbrev pub IsNoAnswer : List ℕ → Type 0
IsNoAnswer line = (answer : Answer) → IsAnswer answer → line ≢ spelling answer

-- nothing is told
abbrev pub nothing : AnswerLine
nothing = record { link = None; cid = None; kind = kinds.NoAnswer }

-- what is told of a line; a line above the longest is no answer line
abbrev pub IsSaid : List ℕ → AnswerLine → Type 0
IsSaid line s =
    ((length line ≤ longest_line) × TellsLine line s)
    ⊎ (s ≡ nothing) × ((longest_line < length line) ⊎ IsNoAnswer line)

-- what is told of these lines, one by one
abbrev pub AreSaid : List (List ℕ) → List AnswerLine → Type 0
AreSaid [] [] = Unit {0}
AreSaid (line ∷ lines) (s ∷ told) = IsSaid line s × AreSaid lines told
AreSaid [] (s ∷ told) = ⊥
AreSaid (line ∷ lines) [] = ⊥
