-- The thirty refusals in one table, in the order of their numbers. A row has the number, the name as answer
-- lines show it, and what finds the refusal. Words: Finder, Row, row_of; number_of, name_of, is_found_by;
-- StandAtNumbers.
use Rattle.std.specs.Prelude.{◌≡◌, ℕ, ◌-◌, List, [], ◌∷◌, Bool, true, false, Some, codes, slice_get}
use Rattle.std.specs.List.{list_any}
use Rattle.rohc_context.specs.declared.refusal.Refusal.{Refusal}
use Rattle.rohc_context.specs.declared.refusal.Refusal.TheVariants.{Empty, FeedbackShort, AfterAddCid, Segment, ReservedType, AddCidOnLarge, LargeCid, CidRange, NoHeader, NoContext, Profile, ProfileChange, Truncated, IpVersion, Protocol, ExtensionList, RtpVersion, Csrc, ZeroStride, ReliableMode, OuterHeader, NoStride, RndInUo1, IpIdTwice, Trailing, TooLong, StateTooLow, Check, NoLink, NoMemory}

-- What finds a refusal: the framing of a packet; the reading of an IR or IR-DYN, or of a packet of another
-- kind; the state of a context; or the tables of links and contexts. A rebuilt packet that would be too long
-- is refused alike, whatever its kind.
pub data Finder : Type 0 where
  Framing : Finder
  Chain : Finder
  Form : Finder
  Context : Finder
  Tables : Finder

-- a row of the table
pub record Row : Type 0 where
  pub number : ℕ
  pub name : List ℕ
  pub finders : List Finder

abbrev pub row : ℕ → List ℕ → List Finder → Row
row number name finders = record { number = number; name = name; finders = finders }

-- the table
abbrev pub row_of : Refusal → Row
row_of Empty = row 1 (codes "Empty") (Framing ∷ [])
row_of FeedbackShort = row 2 (codes "FeedbackShort") (Framing ∷ [])
row_of AfterAddCid = row 3 (codes "AfterAddCid") (Framing ∷ [])
row_of Segment = row 4 (codes "Segment") (Framing ∷ [])
row_of ReservedType = row 5 (codes "ReservedType") (Framing ∷ [])
row_of AddCidOnLarge = row 6 (codes "AddCidOnLarge") (Framing ∷ [])
row_of LargeCid = row 7 (codes "LargeCid") (Framing ∷ [])
row_of CidRange = row 8 (codes "CidRange") (Framing ∷ [])
row_of NoHeader = row 9 (codes "NoHeader") (Framing ∷ [])
row_of NoContext = row 10 (codes "NoContext") (Context ∷ [])
row_of Profile = row 11 (codes "Profile") (Chain ∷ [])
row_of ProfileChange = row 12 (codes "ProfileChange") (Chain ∷ [])
row_of Truncated = row 13 (codes "Truncated") (Chain ∷ Form ∷ [])
row_of IpVersion = row 14 (codes "IpVersion") (Chain ∷ [])
row_of Protocol = row 15 (codes "Protocol") (Chain ∷ Form ∷ [])
row_of ExtensionList = row 16 (codes "ExtensionList") (Chain ∷ Form ∷ [])
row_of RtpVersion = row 17 (codes "RtpVersion") (Chain ∷ [])
row_of Csrc = row 18 (codes "Csrc") (Chain ∷ Form ∷ [])
row_of ZeroStride = row 19 (codes "ZeroStride") (Chain ∷ Form ∷ [])
row_of ReliableMode = row 20 (codes "ReliableMode") (Chain ∷ Form ∷ [])
row_of OuterHeader = row 21 (codes "OuterHeader") (Form ∷ [])
row_of NoStride = row 22 (codes "NoStride") (Form ∷ [])
row_of RndInUo1 = row 23 (codes "RndInUo1") (Form ∷ [])
row_of IpIdTwice = row 24 (codes "IpIdTwice") (Form ∷ [])
row_of Trailing = row 25 (codes "Trailing") (Chain ∷ [])
row_of TooLong = row 26 (codes "TooLong") (Chain ∷ [])
row_of StateTooLow = row 27 (codes "StateTooLow") (Context ∷ [])
row_of Check = row 28 (codes "Check") (Chain ∷ Context ∷ [])
row_of NoLink = row 29 (codes "NoLink") (Tables ∷ [])
row_of NoMemory = row 30 (codes "NoMemory") (Tables ∷ [])

abbrev pub number_of : Refusal → ℕ
number_of refusal = (row_of refusal).number

abbrev pub name_of : Refusal → List ℕ
name_of refusal = (row_of refusal).name

abbrev pub is_same : (finder other : Finder) → Bool
is_same Framing Framing = true
is_same Chain Chain = true
is_same Form Form = true
is_same Context Context = true
is_same Tables Tables = true
is_same finder other = false

-- the finder is in the refusal's row
abbrev pub is_found_by : Finder → Refusal → Bool
is_found_by finder refusal = list_any (is_same finder) (row_of refusal).finders

-- each refusal stands in the list at its number, counted from 1
abbrev pub StandAtNumbers : List Refusal → Type 0
StandAtNumbers refusals = (r : Refusal) → slice_get refusals (number_of r - 1) ≡ Some r
