-- What is restored of what was saved, under settings. Words: limit_of, taken_of; puts_of, puts_in; StopsAt;
-- IsToldOfForm; Restores, IsRefusal.
use Rattle.std.specs.Prelude.{◌≡◌, ℕ, ◌+◌, ◌-◌, List, [], ◌∷◌, ◌++◌, map, filter, flat_map, length, sum_by, Bool, true, false, nat_le, if◌then◌else◌, Option, Some, None, is_some, ◌⊎◌, Err}
use Rattle.rohc_frame.specs.declared.header.CidKind.{CidKind}
use Rattle.rohc_frame.specs.declared.header.CidKind.TheVariants.{Small, Large}
use Rattle.rohc_context.specs.Record.{Record}
use Rattle.rohc_concentrator.specs.declared.concentrator.Concentrator.{Concentrator}
use Rattle.rohc_concentrator.specs.declared.setting.LinkSetting.{LinkSetting}
use Rattle.rohc_concentrator.specs.declared.setup.SetupFault.{SetupFault}
use Rattle.rohc_concentrator.specs.declared.putting.PutFault.{PutFault}
use Rattle.rohc_concentrator.specs.Calls.{Put, CallAnswer, Done, NotPut}
use Rattle.rohc_concentrator.specs.RunsCall.{Turn, Runs}
use Rattle.rohc_concentrator.specs.Tables.{record_at, setting_at, settings_in_order}
use Rattle.rohc_concentrator.specs.Setup.{entry_of, IsFault, AreFine}
use Rattle.rohc_saved.specs.declared.fault.SavedFault.{SavedFault}
use Rattle.rohc_saved.specs.declared.fault.SavedFault.TheVariants.{Settings, NoMemory}
use Rattle.rohc_saved.specs.Form.{Link, Form}
use Rattle.rohc_saved.specs.declared.restored.Restored.{Restored}
use Rattle.rohc_saved.specs.Output.{counted}
use Rattle.rohc_saved.specs.Reading.{restored}

abbrev pub is_same : CidKind → CidKind → Bool
is_same Small Small = true
is_same Small Large = false
is_same Large Small = false
is_same Large Large = true

-- the greatest CID up to which contexts of a link are taken; none if the link isn't in the settings, or is of
-- another CID kind
abbrev pub limit_of : Option LinkSetting → Link → Option ℕ
limit_of None link = None
limit_of (Some s) link = if is_same s.settings.size link.size then Some s.settings.max_cid else None

-- the contexts up to this CID
abbrev pub up_to : Option ℕ → List (ℕ × Record) → List (ℕ × Record)
up_to None contexts = []
up_to (Some greatest) contexts = filter (λ c. nat_le c.0 greatest) contexts

-- what is taken of a link, by its setting if it has one
abbrev pub taken_of : Option LinkSetting → Link → List (ℕ × Record)
taken_of s link = up_to (limit_of s link) link.contexts

-- ---- The calls that restore

-- a context is put into a link, with this answer
abbrev pub put_turn : CallAnswer → ℕ → ℕ × Record → Turn
put_turn answer link c = record { link = link; call = Put c.0 c.1; answer = answer }

-- contexts of a link are put one after another, and each put is done
abbrev pub puts_of : ℕ → List (ℕ × Record) → List Turn
puts_of link contexts = map (put_turn Done link) contexts

-- so are those that are taken of links, by their settings if they have some
abbrev pub puts_in : (ℕ → Option LinkSetting) → List (ℕ × Link) → List Turn
puts_in settings links = flat_map (λ l. puts_of l.0 (taken_of (settings l.0) l.1)) links

-- the first of these contexts are put, the next one is refused, and these calls follow
pub record StopsAt (old : Concentrator) (link : ℕ) (contexts : List (ℕ × Record)) (fault : PutFault)
    (more : List Turn) (new : Concentrator) : Type 0 where
  pub done : List (ℕ × Record)
  pub one : ℕ × Record
  pub behind : List (ℕ × Record)
  pub parts : contexts ≡ done ++ one ∷ behind
  pub runs : Runs old (puts_of link done ++ put_turn (NotPut fault) link one ∷ more) new

-- ---- What is told of it: how many links and contexts were taken, and how many left out

-- the link is taken, isn't in the settings, or is of another CID kind there
abbrev pub taken_link : Option LinkSetting → Link → ℕ
taken_link s link = if is_some (limit_of s link) then 1 else 0

abbrev pub unknown_link : Option LinkSetting → Link → ℕ
unknown_link s link = if is_some s then 0 else 1

abbrev pub other_link : Option LinkSetting → Link → ℕ
other_link s link = 1 - taken_link s link - unknown_link s link

-- its contexts that are taken, are left out with it, or are above the greatest CID
abbrev pub taken_contexts : Option LinkSetting → Link → ℕ
taken_contexts s link = length (taken_of s link)

abbrev pub left_contexts : Option LinkSetting → Link → ℕ
left_contexts s link = if is_some (limit_of s link) then 0 else length link.contexts

abbrev pub high_contexts : Option LinkSetting → Link → ℕ
high_contexts s link = length link.contexts - taken_contexts s link - left_contexts s link

-- the sum over the links, up to the greatest `u64`
abbrev pub told_of : (Option LinkSetting → Link → ℕ) → (ℕ → Option LinkSetting) → List (ℕ × Link) → ℕ
told_of count settings links = counted (sum_by (λ l. count (settings l.0) l.1) links)

-- what is told of one link
pub record TellsOne (s : Option LinkSetting) (link : Link) (told : Restored) : Type 0 where
  pub links : told.links ≡ taken_link s link
  pub unknown : told.unknown_links ≡ unknown_link s link
  pub other : told.other_links ≡ other_link s link
  pub contexts : told.contexts ≡ taken_contexts s link
  pub left : told.left_contexts ≡ left_contexts s link
  pub high : told.high_contexts ≡ high_contexts s link

-- what is told of more is added
pub record AddsUp (old more new : Restored) : Type 0 where
  pub moment : new.moment ≡ old.moment
  pub links : new.links ≡ counted (old.links + more.links)
  pub unknown : new.unknown_links ≡ counted (old.unknown_links + more.unknown_links)
  pub other : new.other_links ≡ counted (old.other_links + more.other_links)
  pub contexts : new.contexts ≡ counted (old.contexts + more.contexts)
  pub left : new.left_contexts ≡ counted (old.left_contexts + more.left_contexts)
  pub high : new.high_contexts ≡ counted (old.high_contexts + more.high_contexts)

-- what is told of all links of a form
pub record IsToldOfForm (settings : ℕ → Option LinkSetting) (form : Form) (told : Restored) : Type 0 where
  pub moment : told.moment ≡ form.moment
  pub links : told.links ≡ told_of taken_link settings form.links
  pub unknown : told.unknown_links ≡ told_of unknown_link settings form.links
  pub other : told.other_links ≡ told_of other_link settings form.links
  pub contexts : told.contexts ≡ told_of taken_contexts settings form.links
  pub left : told.left_contexts ≡ told_of left_contexts settings form.links
  pub high : told.high_contexts ≡ told_of high_contexts settings form.links

-- ---- The whole

-- a concentrator that was made from these settings, into which what is taken of the form was put
pub record Restores (settings : List LinkSetting) (form : Form) (k : Concentrator) : Type 0 where
  pub made : Concentrator
  pub in_order : settings_in_order made ≡ settings
  pub each : (link : ℕ) → setting_at made link ≡ entry_of link settings
  pub empty : (link cid : ℕ) → record_at made link cid ≡ None
  pub puts : Runs made (puts_in (λ link. entry_of link settings) form.links) k

-- the settings have this fault; or they are fine, and there is no memory, or this is the fault of the octets
abbrev pub IsRefusal : List LinkSetting → List ℕ → SavedFault → Type 0
IsRefusal settings octets e =
    ((fault : SetupFault) × IsFault settings fault × (e ≡ Settings fault))
    ⊎ (AreFine settings × ((e ≡ NoMemory) ⊎ (restored octets ≡ Err e)))
