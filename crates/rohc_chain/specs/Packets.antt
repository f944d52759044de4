-- Whole IR and IR-DYN packets, read from left to right up to the first fault.
use Rattle.std.specs.Prelude.{ℕ, ◌-◌, List, [], ◌∷◌, ◌++◌, length, take, Bool, false, ◌==◌, nat_le, if◌then◌else◌, Option, None, Result}
use Rattle.rohc_bits.specs.Reading.{◌>>=◌, judged}
use Rattle.rohc_checks.specs.Division.{check, poly8}
use Rattle.rohc_frame.specs.declared.header.HeadKind.{HeadKind}
use Rattle.rohc_frame.specs.declared.header.HeadKind.TheVariants.{Ir, IrDyn, Other}
use Rattle.rohc_frame.specs.Header.{Header, placed}
pub use Rattle.rohc_frame.specs.Header.{IsIr, IsIrDyn}
use Rattle.rohc_header.specs.declared.fields.Static.{Static}
use Rattle.rohc_header.specs.declared.fields.Dynamic.{Dynamic}
pub use Rattle.rohc_header.specs.Original.{longest_payload}
use Rattle.rohc_chain.specs.declared.packet.Ir as lent
use Rattle.rohc_chain.specs.declared.packet.IrDyn as lent_dyn
use Rattle.rohc_chain.specs.declared.packet.Ir.TheVariants as code
use Rattle.rohc_chain.specs.declared.parts.Kept.{Kept}
use Rattle.rohc_chain.specs.declared.refusal.ChainRefusal.{ChainRefusal}
use Rattle.rohc_chain.specs.declared.refusal.ChainRefusal.TheVariants.{Trailing, TooLong, Check}
use Rattle.rohc_chain.specs.Octets.{octet_at, read}
use Rattle.rohc_chain.specs.Faults.{ir_profile_fault, dyn_profile_fault, unless}
use Rattle.rohc_chain.specs.Chains.{judged_octet, static_at, dynamic_at}

-- The content of an IR, apart from where its payload lies in memory.
pub data IrContent : Type 0 where
  Plain : List ℕ → IrContent
  StaticOnly : Static → IrContent
  Whole : Static → Dynamic → List ℕ → IrContent

-- the content that the code returns, as plain data
abbrev pub ir_content : lent.Ir → IrContent
ir_content (code.Plain packet) = Plain packet.now
ir_content (code.StaticOnly fixed) = StaticOnly fixed
ir_content (code.Whole fixed moving payload) = Whole fixed moving payload.now

-- The content of an IR-DYN.
pub record DynContent : Type 0 where
  pub moving : Dynamic
  pub payload : List ℕ

-- the content that the code returns, as plain data
abbrev pub dyn_content : lent_dyn.IrDyn → DynContent
dyn_content packet = record { moving = packet.moving; payload = packet.payload.now }

-- the IR has a dynamic chain: type octet FD
abbrev pub is_dynamic : HeadKind → Bool
is_dynamic (Ir dynamic) = dynamic
is_dynamic IrDyn = false
is_dynamic Other = false

-- the first octet and the CID octets of a header, in the link's order
abbrev pub front : Header → List ℕ
front h = placed h.size h.cid_octets h.first []

-- What the check of profile 0x0000 covers: the packet up to and including its Profile octet (RFC 3095
-- 5.10.1).
abbrev pub plain_cover : Header → List ℕ
plain_cover h = front h ++ 0 ∷ []

-- What the check of profile 0x0001 covers: the packet without its payload, with the check octet itself as 00
-- (RFC 3095 5.7.7).
abbrev pub cover : Header → List ℕ → List ℕ
cover h chains = front h ++ 1 ∷ 0 ∷ chains

-- the octet is the 8-bit check of what it covers, starting from all ones (RFC 3095 5.9.1)
abbrev pub fits : ℕ → List ℕ → Bool
fits octet covered = check poly8 0xff covered == octet

-- the flag X and the stride, which stay if a dynamic chain doesn't give them
abbrev pub kept_values : Bool → Option ℕ → Kept
kept_values extension stride = record { extension = extension; stride = stride }

-- an IR keeps nothing
abbrev pub nothing_kept : Kept
nothing_kept = kept_values false None

-- the text without these octets at its end
abbrev pub before : List ℕ → List ℕ → List ℕ
before behind text = take (length text - length behind) text

-- TooLong, if the payload is too long
abbrev pub length_fault : List ℕ → Option ChainRefusal
length_fault payload = unless (nat_le (length payload) longest_payload) TooLong

-- Check, if the check octet doesn't match
abbrev pub check_fault : ℕ → List ℕ → Option ChainRefusal
check_fault octet covered = unless (fits octet covered) Check

-- after the check octet, for profile 0x0000
abbrev pub plain_at : Header → ℕ → List ℕ → Result IrContent ChainRefusal
plain_at h octet packet = judged (check_fault octet (plain_cover h)) (Plain packet)

-- Trailing, if octets follow
abbrev pub ended : List ℕ → Option ChainRefusal
ended text = unless (length text == 0) Trailing

-- the static chain and nothing after it, then the check
unfoldable pub static_only_at : Header → ℕ → List ℕ → Result IrContent ChainRefusal
static_only_at h octet chains = do
  (fixed, behind) ← read static_at chains
  _ ← judged (ended behind) behind
  judged (check_fault octet (cover h chains)) (StaticOnly fixed)

-- both chains and the payload, then its length, then the check
unfoldable pub whole_at : Header → ℕ → List ℕ → Result IrContent ChainRefusal
whole_at h octet text = do
  (fixed, behind) ← read static_at text
  (moving, payload) ← read (dynamic_at nothing_kept) behind
  _ ← judged (length_fault payload) payload
  judged (check_fault octet (cover h (before payload text))) (Whole fixed moving payload)

-- after the check octet, for profile 0x0001
abbrev pub chains_at : Header → Bool → ℕ → List ℕ → Result IrContent ChainRefusal
chains_at h dynamic octet text = if dynamic then whole_at h octet text else static_only_at h octet text

-- the content of an IR, or its first fault
unfoldable pub ir_at : Header → Result IrContent ChainRefusal
ir_at h = do
  (profile, text) ← judged_octet (ir_profile_fault (is_dynamic h.kind)) h.rest
  (octet, text) ← octet_at text
  if profile == 0 then plain_at h octet text else chains_at h (is_dynamic h.kind) octet text

-- the content of an IR-DYN for a context of this profile, or its first fault
unfoldable pub ir_dyn_at : Header → ℕ → Kept → Result DynContent ChainRefusal
ir_dyn_at h profile kept = do
  (_, text) ← judged_octet (dyn_profile_fault profile) h.rest
  (octet, text) ← octet_at text
  (moving, payload) ← read (dynamic_at kept) text
  _ ← judged (length_fault payload) payload
  judged (check_fault octet (cover h (before payload text))) (record { moving = moving; payload = payload })
