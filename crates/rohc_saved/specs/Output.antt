-- What a writer took of a text. Words: counted; IsPartWritten, a part; IsWhole; IsPut; SaveFails, SavesLink.
use Rattle.std.specs.Prelude.{◌≡◌, ℕ, ◌-◌, ◌^◌, List, ◌++◌, length, min, Bool, true, false, Option, Some, None, Result, Ok, Err}
use Rattle.std.specs.Io.KnownBytes.{Appends}
use Rattle.sha2.specs.Hashers.{Holds256}
use Rattle.rohc_concentrator.specs.declared.concentrator.Concentrator.{Concentrator}
use Rattle.rohc_concentrator.specs.declared.setting.LinkSetting.{LinkSetting}
use Rattle.rohc_saved.specs.Form.{saved_link}
use Rattle.rohc_saved.specs.declared.fault.SaveFault.{SaveFault}
use Rattle.rohc_saved.specs.declared.fault.SaveFault.TheVariants.{NoLink, Write}
use Rattle.rohc_saved.specs.declared.output.Output.{Output}

-- a number of octets, up to the greatest `u64`
abbrev pub counted : ℕ → ℕ
counted n = min n (2 ^ 64 - 1)

-- the writer took the start of the text: this many octets
pub record IsPartWritten (held holding : Option (List ℕ)) (text : List ℕ) (written : ℕ) : Type 0 where
  pub part : List ℕ
  pub rest : List ℕ
  pub parts : text ≡ part ++ rest
  pub taken : Appends held holding part
  pub count : written ≡ counted (length part)

-- the writer took the whole text
pub record IsWhole (held holding : Option (List ℕ)) (text : List ℕ) (written : ℕ) : Type 0 where
  pub taken : Appends held holding text
  pub count : written ≡ counted (length text)

-- the writer took the whole text, or a part if a write failed
abbrev pub IsTaken : Bool → Option (List ℕ) → Option (List ℕ) → List ℕ → ℕ → Type 0
IsTaken false held holding text written = IsWhole held holding text written
IsTaken true held holding text written = IsPartWritten held holding text written

-- the text was put out: the writer took it, or a part if a write failed, and all of it was hashed
pub record IsPut (held holding : Option (List ℕ)) (text : List ℕ) (out : Output) : Type 0 where
  pub taken : IsTaken out.stopped held holding text out.written
  pub hashed : Holds256 out.hasher text

-- the fault of a save: a write failed, and the writer took a part
pub record SaveFails (held holding : Option (List ℕ)) (text : List ℕ) (fault : SaveFault) : Type 0 where
  pub written : ℕ
  pub fault_is : fault ≡ Write written
  pub part : IsPartWritten held holding text written

-- the link of this setting alone was saved, if there is such a link
abbrev pub SavesLink : (moment : ℕ) → Concentrator → Option LinkSetting → (held holding : Option (List ℕ))
    → Result ℕ SaveFault → Type 0
SavesLink moment k None held holding result = result ≡ Err NoLink
SavesLink moment k (Some s) held holding (Ok written) = IsWhole held holding (saved_link moment k s) written
SavesLink moment k (Some s) held holding (Err fault) = SaveFails held holding (saved_link moment k s) fault
