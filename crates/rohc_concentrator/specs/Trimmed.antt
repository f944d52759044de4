-- A packet without what a layer below added behind it. Words: surplus, trimmed; TrimmedIsRead, a law.
use Rattle.std.specs.Prelude.{◌≡◌, ℕ, ◌-◌, min, List, length, take, Option, Some, None, Ok}
use Rattle.rohc_frame.specs.Header.{Header}
use Rattle.rohc_frame.specs.Reading.{Reading}
use Rattle.rohc_frame.specs.Parts.{parts_of}
use Rattle.rohc_context.specs.Record.{Record}
use Rattle.rohc_context.specs.Excess.{excess_in}
use Rattle.rohc_concentrator.specs.declared.setting.LinkSetting.{LinkSetting}
use Rattle.rohc_concentrator.specs.Bears.{header_on, borne}

-- How many octets behind a packet with this header, whose payload has at most n octets, are no part of it, as
-- the record of its CID reads it. What is before them stays.
abbrev pub surplus : (n : ℕ) → (ℕ → Option Record) → Option Header → ℕ
surplus n records None = 0
surplus n records (Some h) = min (excess_in n h (records h.cid)) (length h.rest)

-- the packet without them, on a link with this setting
abbrev pub trimmed : (n : ℕ) → Option LinkSetting → (ℕ → Option Record) → List ℕ → List ℕ
trimmed n None records octets = octets
trimmed n (Some s) records octets = take (length octets - surplus n records (header_on s octets)) octets

-- the header, with only as much behind its CID
abbrev pub shortened : ℕ → Header → Header
shortened e h = record h { rest = take (length h.rest - e) h.rest }

-- A trimmed packet is read as before: the same feedback elements, and the same header with less behind it. So
-- it bears the same CID.
abbrev pub TrimmedIsRead : Type 0
TrimmedIsRead = (n : ℕ) (s : LinkSetting) (records : ℕ → Option Record) (octets : List ℕ) (r : Reading)
    (h : Header) → parts_of s.settings.size s.settings.max_cid octets ≡ Ok r → r.header ≡ Some h →
    (parts_of s.settings.size s.settings.max_cid (trimmed n (Some s) records octets)
    ≡ Ok (record { elements = r.elements; header = Some (shortened (surplus n records (Some h)) h) }))
    × (borne (Some s) (trimmed n (Some s) records octets) ≡ borne (Some s) octets)
