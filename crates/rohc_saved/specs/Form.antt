-- A saved concentrator (docs/FORMATS.md): what is saved, and the octets that spell it. Numbers stand with the
-- most significant octet first. Words: Link, Form; saved_link_of, form_of; form_text, signed, saved_form.
use Rattle.std.specs.Prelude.{ℕ, ◌/◌, ◌%◌, ◌^◌, List, [], ◌∷◌, ◌++◌, map, filter_map, flat_map, length, codes}
use Rattle.std.specs.Option.{option_map}
use Rattle.sha2.specs.Sha256.{sha256}
use Rattle.rohc_frame.specs.declared.header.CidKind.{CidKind}
use Rattle.rohc_frame.specs.declared.header.CidKind.TheVariants.{Small, Large}
use Rattle.std.specs.HashMap.{HashMap}
use Rattle.rohc_context.specs.declared.record.Context.{Context}
use Rattle.rohc_context.specs.Record.{Record, record_of}
use Rattle.rohc_context.specs.SavedText.{saved_text}
use Rattle.rohc_concentrator.specs.declared.concentrator.Concentrator.{Concentrator}
use Rattle.rohc_concentrator.specs.declared.setting.LinkSetting.{LinkSetting}
use Rattle.rohc_concentrator.specs.Tables.{record_at, identifiers_at, settings_in_order}

-- ---- What is saved

-- of a link: its CID kind, its greatest CID, and its CIDs that have a record, each with the record
pub record Link : Type 0 where
  pub size : CidKind
  pub greatest : ℕ
  pub contexts : List (ℕ × Record)

-- the moment of saving, and the links by number
pub record Form : Type 0 where
  pub moment : ℕ
  pub links : List (ℕ × Link)

-- the CIDs of a link in the order of their first IR, each with its record
abbrev pub contexts_of : Concentrator → ℕ → List (ℕ × Record)
contexts_of k link =
    filter_map (λ cid. option_map (λ r. (cid, r)) (record_at k link cid)) (identifiers_at k link)

-- a map of contexts, each seen as its record
abbrev pub contexts_in : {S : Type 0} → HashMap ℕ Context S → List (ℕ × Record)
contexts_in m = map (λ e. (e.0, record_of e.1)) m.entries

abbrev pub saved_link_of : Concentrator → LinkSetting → ℕ × Link
saved_link_of k s = (
  s.link,
  record { size = s.settings.size; greatest = s.settings.max_cid; contexts = contexts_of k s.link },
)

-- what is saved of a concentrator: each link in the order of their settings
abbrev pub form_of : ℕ → Concentrator → Form
form_of moment k = record { moment = moment; links = map (saved_link_of k) (settings_in_order k) }

-- ---- Its octets

-- a number of 16 bits, of 32 and of 64
abbrev pub word : ℕ → List ℕ
word n = n / 256 % 256 ∷ n % 256 ∷ []

abbrev pub quad : ℕ → List ℕ
quad n = word (n / 65536) ++ word n

unfoldable pub long : ℕ → List ℕ
long n = quad (n / 2 ^ 32) ++ quad n

abbrev pub size_octet : CidKind → ℕ
size_octet Small = 0
size_octet Large = 1

-- a CID, and its context as it is saved alone
abbrev pub context_text : ℕ × Record → List ℕ
context_text c = word c.0 ++ saved_text c.1

-- the number of the link, its CID kind, a reserved octet, its greatest CID, and the number of its contexts
unfoldable pub head_text : ℕ × Link → List ℕ
head_text l =
    word l.0 ++ (size_octet l.1.size ∷ 0 ∷ (word l.1.greatest ++ word (length l.1.contexts)))

unfoldable pub link_text : ℕ × Link → List ℕ
link_text l = head_text l ++ flat_map context_text l.1.contexts

abbrev pub magic : List ℕ
magic = codes "Polorowan"

-- the nine octets of the name, the version, the moment of saving, and the number of links
unfoldable pub start_text : Form → List ℕ
start_text form = magic ++ (word 1 ++ (long form.moment ++ word (length form.links)))

unfoldable pub form_text : Form → List ℕ
form_text form = start_text form ++ flat_map link_text form.links

-- a text, and its SHA-256
unfoldable pub signed : List ℕ → List ℕ
signed text = text ++ sha256 text

-- the octets of a concentrator that is saved at this moment
abbrev pub saved_form : ℕ → Concentrator → List ℕ
saved_form moment k = signed (form_text (form_of moment k))

-- the octets of the link of this setting alone
abbrev pub saved_link : ℕ → Concentrator → LinkSetting → List ℕ
saved_link moment k s = signed (form_text (record { moment = moment; links = saved_link_of k s ∷ [] }))
