-- Grammars: the octets of packets piece by piece, as the pictures of the RFCs show them, and three readings.
use Rattle.std.specs.Prelude.{◌≡◌, ℕ, zero, suc, ◌+◌, ◌*◌, List, [], ◌∷◌, ◌++◌, length, Bool, true, false, if◌then◌else◌, Option, Some, None, Result, Ok, Err}
use Rattle.rohc_bits.specs.Fronts.{front_value, value_bits}
use Rattle.rohc_bits.specs.Spelling.{Spells}
use Rattle.rohc_bits.specs.LowBits.{LowBits}
use Rattle.rohc_bits.specs.Reading.{◌>>=◌, judged, next_octet, next_word, next_value}

-- A piece of octets that says an A, or is refused by an E. Its fields have names N.
--   an octet, a number of two octets, a self-describing value (RFC 3095 4.5.6), or no octets, which say this;
--   two pieces, one after the other: what the first says decides the second;
--   a piece that is there if a flag announces it; one of two pieces, by a test;
--   a value computed from a piece; a piece that is refused by what it says; a refusal before a piece;
--   a piece whose octets are one field with this name, if there are any; or whose first bits are fields, each
--   with its name and how many bits it has, which may depend on what the piece says.
pub data Piece (N E : Type 0) : Type 0 → Type 1 where
  Octet : Piece N E ℕ
  Word : Piece N E ℕ
  Value : Piece N E LowBits
  Says : {A : Type 0} → A → Piece N E A
  Then : {A B : Type 0} → Piece N E A → (A → Piece N E B) → Piece N E B
  IfNamed : {A : Type 0} → Bool → Piece N E A → Piece N E (Option A)
  Which : {A : Type 0} → Bool → Piece N E A → Piece N E A → Piece N E A
  As : {A B : Type 0} → (A → B) → Piece N E A → Piece N E B
  Judged : {A : Type 0} → (A → Option E) → Piece N E A → Piece N E A
  Unless : {A : Type 0} → Option E → Piece N E A → Piece N E A
  Called : {A : Type 0} → N → Piece N E A → Piece N E A
  Row : {A : Type 0} → (A → List (N × ℕ)) → Piece N E A → Piece N E A

-- What octets say, with the octets behind the piece, or the refusal. A piece that is cut off is refused by
-- `short`.
abbrev pub reads : {N E A : Type 0} → E → Piece N E A → List ℕ → Result (A × List ℕ) E
reads short Octet text = next_octet short text
reads short Word text = next_word short text
reads short Value text = next_value short text
reads short (Says x) text = Ok (x, text)
reads short (Then first more) text = reads short first text >>= λ x. reads short (more x.0) x.1
reads short (IfNamed named piece) text =
    if named then (reads short piece text >>= λ x. Ok (Some x.0, x.1)) else Ok (None, text)
reads short (Which test first other) text = if test then reads short first text else reads short other text
reads short (As f piece) text = reads short piece text >>= λ x. Ok (f x.0, x.1)
reads short (Judged fault piece) text = reads short piece text >>= λ x. judged (fault x.0) x
reads short (Unless fault piece) text = judged fault text >>= λ _. reads short piece text
reads short (Called name piece) text = reads short piece text
reads short (Row fields piece) text = reads short piece text

-- a piece is there exactly if a flag announces it
abbrev pub Named : {A : Type 0} → Bool → (A → List ℕ → Type 0) → Option A → List ℕ → Type 0
Named false Piece x text = (text ≡ []) × (x ≡ None)
Named true Piece None text = ⊥
Named true Piece (Some x) text = Piece x text

-- one of two
abbrev pub Either : Bool → Type 0 → Type 0 → Type 0
Either true First Other = First
Either false First Other = Other

-- The octets of the piece are these, and say this.
abbrev pub SaidBy : {N E A : Type 0} → Piece N E A → A → List ℕ → Type 0
SaidBy Octet n text = text ≡ n ∷ []
SaidBy Word n text = (high : ℕ) × (low : ℕ) × (text ≡ high ∷ low ∷ []) × (n ≡ high * 256 + low)
SaidBy Value d text = Spells text d.value × (d.count ≡ value_bits (length text))
SaidBy (Says x) y text = (text ≡ []) × (y ≡ x)
SaidBy (Then {A} first more) y text = (x : A) × (front : List ℕ) × (behind : List ℕ)
    × (text ≡ front ++ behind) × SaidBy first x front × SaidBy (more x) y behind
SaidBy (IfNamed named piece) x text = Named named (SaidBy piece) x text
SaidBy (Which test first other) x text = Either test (SaidBy first x text) (SaidBy other x text)
SaidBy (As {A} f piece) y text = (x : A) × SaidBy piece x text × (y ≡ f x)
SaidBy (Judged fault piece) x text = SaidBy piece x text × (fault x ≡ None)
SaidBy (Unless fault piece) x text = (fault ≡ None) × SaidBy piece x text
SaidBy (Called name piece) x text = SaidBy piece x text
SaidBy (Row fields piece) x text = SaidBy piece x text

-- The octets at the start of a text say this, and those behind them are such.
abbrev pub SaidBefore : {N E A : Type 0} → Piece N E A → (A → List ℕ → Type 0) → List ℕ → Type 0
SaidBefore {N} {E} {A} piece Behind text = (x : A) × (front : List ℕ) × (behind : List ℕ)
    × (text ≡ front ++ behind) × SaidBy piece x front × Behind x behind

-- the first of two refusals
abbrev pub or_else : {E : Type 0} → Option E → Option E → Option E
or_else None later = later
or_else (Some refusal) later = Some refusal

-- a refusal of what follows, where something was said
abbrev pub fault_after : {E A : Type 0} → Result (A × List ℕ) E → (A → List ℕ → Option E) → Option E
fault_after (Ok x) fault = fault x.0 x.1
fault_after (Err refusal) fault = None

-- a refusal, if too few octets are left
abbrev pub short_of : {E : Type 0} → E → ℕ → List ℕ → Option E
short_of short zero text = None
short_of short (suc count) [] = Some short
short_of short (suc count) (octet ∷ text) = short_of short count text

-- a refusal, if there is no value
abbrev pub cut_off : {E : Type 0} → E → Option (ℕ × ℕ) → Option E
cut_off short None = Some short
cut_off short (Some value) = None

-- The first fault from the left: why the piece is refused, if it is.
abbrev pub first_fault : {N E A : Type 0} → E → Piece N E A → List ℕ → Option E
first_fault short Octet text = short_of short 1 text
first_fault short Word text = short_of short 2 text
first_fault short Value text = cut_off short (front_value text)
first_fault short (Says x) text = None
first_fault short (Then first more) text =
    or_else (first_fault short first text)
    (fault_after (reads short first text) (λ x behind. first_fault short (more x) behind))
first_fault short (IfNamed named piece) text = if named then first_fault short piece text else None
first_fault short (Which test first other) text =
    if test then first_fault short first text else first_fault short other text
first_fault short (As f piece) text = first_fault short piece text
first_fault short (Judged fault piece) text =
    or_else (first_fault short piece text) (fault_after (reads short piece text) (λ x _. fault x))
first_fault short (Unless fault piece) text = or_else fault (first_fault short piece text)
first_fault short (Called name piece) text = first_fault short piece text
first_fault short (Row fields piece) text = first_fault short piece text
