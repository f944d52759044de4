-- A save that is under way. Words: busy, waiting, looked_at; IsGatheredBelow; IsUnderWay.
use Rattle.std.specs.Prelude.{◌≡◌, ◌<◌, ◌≤◌, ℕ, ◌+◌, List, [], ◌∷◌, ◌++◌, map, flat_map, length, take, drop, sum_by, nat_eq, slice_get, All, Bool, true, false, Some}
use Rattle.std.specs.Map.{lookup}
use Rattle.sha2.specs.Hashers.{Holds256}
use Rattle.rohc_context.specs.Record.{Record}
use Rattle.rohc_concentrator.specs.declared.concentrator.Concentrator.{Concentrator}
use Rattle.rohc_saved.specs.Form.{Link, Form, context_text, link_text, form_text, signed}
use Rattle.rohc_piecewise.specs.Piecewise.{Head, held_under, IsAscending, OneOf, AreSaved, IsSavedOver}
use Rattle.rohc_piecewise.specs.Noted.{head_in}
use Rattle.rohc_piecewise.specs.Between.{start_of}
use Rattle.rohc_piecewise.specs.declared.noted.Noted.{Noted}
use Rattle.rohc_piecewise.specs.declared.saver.Saver.{Saver}
use Rattle.rohc_piecewise.specs.declared.saver.Stage.{Stage}
use Rattle.rohc_piecewise.specs.declared.saver.Stage.TheVariants.{Idle, Gathering, Waiting, Last}

-- ---- What is seen of it

-- a save was begun, and its last octet wasn't taken yet
abbrev pub is_busy_at : Stage → Bool
is_busy_at Idle = false
is_busy_at Gathering = true
is_busy_at Waiting = true
is_busy_at Last = true

abbrev pub busy : Saver → Bool
busy s = is_busy_at s.stage

-- the octets that are ready and weren't taken yet
abbrev pub waiting_at : Stage → List ℕ → List ℕ
waiting_at Idle ready = []
waiting_at Gathering ready = []
waiting_at Waiting ready = ready
waiting_at Last ready = ready

abbrev pub waiting : Saver → List ℕ
waiting s = waiting_at s.stage (drop s.sent s.ready.octets.items)

-- the CIDs that were looked at: all those of the links before the one under way, and the first ones of that
abbrev pub looked_at_in : Stage → ℕ → ℕ
looked_at_in Idle next = 0
looked_at_in Gathering next = next
looked_at_in Waiting next = 0
looked_at_in Last next = 0

abbrev pub looked_at : Saver → ℕ
looked_at s =
    sum_by (λ (n : Noted). n.greatest + 1) (take s.place s.heads.items) + looked_at_in s.stage s.ready.next

-- ---- What is known of it

-- contexts of a link, as in IsGathered, of its CIDs below this one
pub record IsGatheredBelow (seen : List Concentrator) (head : Head) (next : ℕ)
    (contexts : List (ℕ × Record)) : Type 0 where
  pub ascending : IsAscending contexts
  pub within : All (λ (c : ℕ × Record). c.0 < next) contexts
  pub each : (cid : ℕ) → cid < next →
      (k : Concentrator) × OneOf seen k × (lookup (nat_eq cid) contexts ≡ held_under k head cid)

-- octets of the start and of links that were looked at wholly wait
pub record IsWaiting (moment : ℕ) (heads : List Head) (seen : List Concentrator)
    (taken : List ℕ) (s : Saver) : Type 0 where
  pub links : List (ℕ × Link)
  pub noted : map head_in s.heads.items ≡ heads
  pub saved : AreSaved seen (take s.place heads) links
  pub hashed : Holds256 s.hasher taken
  pub some : s.sent < length s.ready.octets.items
  pub text : taken ++ drop s.sent s.ready.octets.items
      ≡ start_of moment (length heads) ++ flat_map link_text links

-- they were taken
pub record IsTaken (moment : ℕ) (heads : List Head) (seen : List Concentrator)
    (taken : List ℕ) (s : Saver) : Type 0 where
  pub links : List (ℕ × Link)
  pub noted : map head_in s.heads.items ≡ heads
  pub saved : AreSaved seen (take s.place heads) links
  pub hashed : Holds256 s.hasher taken
  pub text : taken ≡ start_of moment (length heads) ++ flat_map link_text links

-- they were taken, and the contexts of the next link are being gathered behind eight octets that are free
pub record IsGathering (moment : ℕ) (heads : List Head) (seen : List Concentrator)
    (taken : List ℕ) (s : Saver) : Type 0 where
  pub links : List (ℕ × Link)
  pub noted : map head_in s.heads.items ≡ heads
  pub saved : AreSaved seen (take s.place heads) links
  pub hashed : Holds256 s.hasher taken
  pub text : taken ≡ start_of moment (length heads) ++ flat_map link_text links
  pub link : Noted
  pub here : slice_get s.heads.items s.place ≡ Some link
  pub left : s.ready.next ≤ link.greatest
  pub contexts : List (ℕ × Record)
  pub gathered : IsGatheredBelow seen (head_in link) s.ready.next contexts
  pub count : s.ready.count ≡ length contexts
  pub ready : s.ready.octets.items
      ≡ (0 ∷ 0 ∷ 0 ∷ 0 ∷ 0 ∷ 0 ∷ 0 ∷ 0 ∷ []) ++ flat_map context_text contexts

-- all was taken but octets of the digest
pub record IsLast (moment : ℕ) (heads : List Head) (seen : List Concentrator)
    (taken : List ℕ) (s : Saver) : Type 0 where
  pub form : Form
  pub at : form.moment ≡ moment
  pub links : AreSaved seen heads form.links
  pub some : s.sent < length s.ready.octets.items
  pub text : taken ++ drop s.sent s.ready.octets.items ≡ signed (form_text form)

abbrev pub IsAt : Stage → ℕ → List Head → List Concentrator → List ℕ → Saver → Type 0
IsAt Idle moment heads seen taken s = IsSavedOver moment heads seen taken
IsAt Gathering moment heads seen taken s = IsGathering moment heads seen taken s
IsAt Waiting moment heads seen taken s = IsWaiting moment heads seen taken s
IsAt Last moment heads seen taken s = IsLast moment heads seen taken s

-- The save was begun at this moment with these heads. These concentrators were seen since, and these octets
-- taken.
unfoldable pub IsUnderWay : ℕ → List Head → List Concentrator → List ℕ → Saver → Type 0
IsUnderWay moment heads seen taken s = IsAt s.stage moment heads seen taken s
