-- A packet that is cut behind its header and some octets of its payload is read as before.
-- Words: cut_by, padded; CutFormIsRead, CutDynIsRead, CutIrIsRead, PaddedStaticIsCut.
use Rattle.std.specs.Prelude.{◌≡◌, ℕ, ◌-◌, List, ◌++◌, length, take, Option, Ok}
use Rattle.rohc_frame.specs.Header.{Header}
use Rattle.rohc_header.specs.declared.fields.Static.{Static}
use Rattle.rohc_header.specs.declared.fields.Dynamic.{Dynamic}
use Rattle.rohc_chain.specs.Packets.{DynContent, StaticOnly, Whole, ir_at}
use Rattle.rohc_forms.specs.Content.{Content}
use Rattle.rohc_context.specs.Record.{Reference}
use Rattle.rohc_context.specs.Refresh.{dyn_said}
use Rattle.rohc_context.specs.Update.{said_under}
use Rattle.rohc_context.specs.Excess.{ir_excess, dyn_read, form_read}

-- the packet without so many of its last octets, and with these octets behind it
abbrev pub cut_by : (octets : ℕ) → Header → Header
cut_by octets h = record h { rest = take (length h.rest - octets) h.rest }

abbrev pub padded : (behind : List ℕ) → Header → Header
padded behind h = record h { rest = h.rest ++ behind }

-- A packet of kind Other that is cut is read as before, with the first n octets of its payload.
abbrev pub CutFormIsRead : Type 0
CutFormIsRead = (n : ℕ) (h : Header) (r : Reference) (c : Content) → said_under h r ≡ Ok c →
    said_under (cut_by (form_read n (said_under h r)) h) r ≡ Ok (record c { payload = take n c.payload })

-- the same of an IR-DYN, against a reference or none
abbrev pub CutDynIsRead : Type 0
CutDynIsRead = (n : ℕ) (h : Header) (r : Option Reference) (d : DynContent) → dyn_said h r ≡ Ok d →
    dyn_said (cut_by (dyn_read n (dyn_said h r)) h) r ≡ Ok (record d { payload = take n d.payload })

-- the same of an IR with a dynamic chain
abbrev pub CutIrIsRead : Type 0
CutIrIsRead = (n : ℕ) (h : Header) (fixed : Static) (moving : Dynamic) (payload : List ℕ) →
    ir_at h ≡ Ok (Whole fixed moving payload) →
    ir_at (cut_by (ir_excess n h (ir_at h)) h) ≡ Ok (Whole fixed moving (take n payload))

-- An IR without a dynamic chain that gets octets behind it is cut to what it was.
abbrev pub PaddedStaticIsCut : Type 0
PaddedStaticIsCut = (n : ℕ) (h : Header) (fixed : Static) (behind : List ℕ) →
    ir_at h ≡ Ok (StaticOnly fixed) →
    cut_by (ir_excess n (padded behind h) (ir_at (padded behind h))) (padded behind h) ≡ h
