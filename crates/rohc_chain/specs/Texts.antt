-- The octets of whole IR and IR-DYN packets, and why others are refused (RFC 3095 5.7.7 and 5.10.1).
use Rattle.std.specs.Prelude.{◌≡◌, ℕ, ◌≤◌, List, ◌∷◌, ◌++◌, length, drop, get_or, Bool, true, false, ◌==◌, if◌then◌else◌, Option, None}
use Rattle.rohc_checks.specs.Division.{check, poly8}
use Rattle.rohc_frame.specs.declared.header.HeadKind.TheVariants.{Ir, IrDyn}
use Rattle.rohc_frame.specs.Header.{Header}
use Rattle.rohc_header.specs.declared.fields.Static.{Static}
use Rattle.rohc_header.specs.declared.fields.Dynamic.{Dynamic}
use Rattle.rohc_chain.specs.declared.parts.Kept.{Kept}
use Rattle.rohc_chain.specs.declared.refusal.ChainRefusal.{ChainRefusal}
use Rattle.rohc_chain.specs.Packets.{IrContent, Plain, StaticOnly, Whole, DynContent, is_dynamic, plain_cover, cover, before, nothing_kept, longest_payload, length_fault, check_fault, ended}
use Rattle.rohc_chain.specs.ChainText.{SpellsStatic, SpellsDynamic}
use Rattle.rohc_bits.specs.Grammar.{Octet, Says, Which, As, Judged, Called, or_else, fault_after, first_fault}
use Rattle.rohc_bits.specs.InTurn.{◌>>=◌}
use Rattle.rohc_chain.specs.declared.refusal.ChainRefusal.TheVariants.{Truncated}
use Rattle.rohc_chain.specs.Octets.{Profile, Crc, ChainPiece, read}
use Rattle.rohc_chain.specs.Faults.{ir_profile_fault, dyn_profile_fault}
use Rattle.rohc_chain.specs.Chains.{static_at, dynamic_at}

-- An IR starts with FC, or with FD if it has a dynamic chain (RFC 3095 5.7.7.1). An IR-DYN starts with F8 and
-- has no static chain (5.7.7.2). After the first octet and a large CID come:
--
--   |            Profile            |
--   |              CRC              |
--   /         Static chain          /
--   /         Dynamic chain         /
--   /            Payload            /

-- the 8-bit check of what it covers
abbrev pub check_of : List ℕ → ℕ
check_of covered = check poly8 0xff covered

-- An IR of profile 0x0000: Profile octet 00, the check, any octets (RFC 3095 5.10.1).
pub record IsPlainText (h : Header) (packet : List ℕ) : Type 0 where
  pub kind : h.kind ≡ Ir false
  pub whole : h.rest ≡ 0 ∷ check_of (plain_cover h) ∷ packet

-- An IR without a dynamic chain: Profile octet 01, the check, the static chain.
pub record IsStaticText (h : Header) (fixed : Static) : Type 0 where
  pub chains : List ℕ
  pub kind : h.kind ≡ Ir false
  pub spells_static : SpellsStatic fixed chains
  pub whole : h.rest ≡ 1 ∷ check_of (cover h chains) ∷ chains

-- An IR with a dynamic chain: Profile octet 01, the check, both chains, the payload.
pub record IsWholeText (h : Header) (fixed : Static) (moving : Dynamic) (payload : List ℕ) : Type 0 where
  pub static_chain : List ℕ
  pub dynamic_chain : List ℕ
  pub kind : h.kind ≡ Ir true
  pub spells_static : SpellsStatic fixed static_chain
  pub spells_dynamic : SpellsDynamic nothing_kept moving dynamic_chain
  pub whole : h.rest ≡ 1 ∷ check_of (cover h (static_chain ++ dynamic_chain)) ∷ static_chain ++
      (dynamic_chain ++ payload)

-- the packet's octets are those of an IR with this content
abbrev pub IsIrText : Header → IrContent → Type 0
IsIrText h (Plain packet) = IsPlainText h packet
IsIrText h (StaticOnly fixed) = IsStaticText h fixed
IsIrText h (Whole fixed moving payload) = IsWholeText h fixed moving payload

-- An IR-DYN for a context of profile 1 that keeps these values: Profile octet 01, the check, the dynamic
-- chain, the payload.
pub record IsIrDynText (h : Header) (profile : ℕ) (kept : Kept) (packet : DynContent) : Type 0 where
  pub chain : List ℕ
  pub kind : h.kind ≡ IrDyn
  pub for_profile_1 : profile ≡ 1
  pub spells_dynamic : SpellsDynamic kept packet.moving chain
  pub whole : h.rest ≡ 1 ∷ check_of (cover h chain) ∷ chain ++ packet.payload

-- the rebuilt packet isn't too long
abbrev pub IsShort : IrContent → Type 0
IsShort (Plain packet) = Unit {0}
IsShort (StaticOnly fixed) = Unit {0}
IsShort (Whole fixed moving payload) = length payload ≤ longest_payload

-- the Profile octet
abbrev pub profile_octet : Header → ℕ
profile_octet h = get_or h.rest 0 0

-- the check octet after it
abbrev pub check_octet : Header → ℕ
check_octet h = get_or h.rest 1 0

-- what is judged after all fields, for profile 0x0001: the length, and then the check
abbrev pub last_fault : Header → List ℕ → Option ChainRefusal
last_fault h payload =
    or_else (length_fault payload) (check_fault (check_octet h) (cover h (before payload (drop 2 h.rest))))

-- for either profile: for profile 0x0000 only the check; without a dynamic chain nothing may follow
abbrev pub last_ir_fault : Header → List ℕ → Option ChainRefusal
last_ir_fault h payload =
    if profile_octet h == 0 then check_fault (check_octet h) (plain_cover h)
    else or_else (if is_dynamic h.kind then None else ended payload) (last_fault h payload)

-- after the check octet of an IR: for profile 0x0001 the chains
abbrev pub chain_pieces : Bool → ℕ → ChainPiece (Unit {0})
chain_pieces dynamic profile = Which (profile == 0) (Says tt) (do
  fixed ← static_at
  Which dynamic (As (λ _. tt) (dynamic_at nothing_kept)) (Says tt))

-- after the first octet of an IR: the Profile octet, the check octet, the chains
abbrev pub ir_pieces : Bool → ChainPiece (Unit {0})
ir_pieces dynamic = do
  profile ← Judged (ir_profile_fault dynamic) (Called Profile Octet)
  check ← Called Crc Octet
  chain_pieces dynamic profile

-- the same of an IR-DYN for a context of this profile
abbrev pub ir_dyn_pieces : ℕ → ChainPiece Dynamic
ir_dyn_pieces profile = do
  given ← Judged (dyn_profile_fault profile) (Called Profile Octet)
  check ← Called Crc Octet
  dynamic_at nothing_kept

-- the first fault among the pieces, else the fault that is judged last
abbrev pub fault_among : {A : Type 0} → (List ℕ → Option ChainRefusal) → ChainPiece A → List ℕ →
    Option ChainRefusal
fault_among last pieces text =
    or_else (first_fault Truncated pieces text) (fault_after (read pieces text) (λ _ payload. last payload))

-- why an IR is refused, if it is
abbrev pub ir_fault : Header → Option ChainRefusal
ir_fault h = fault_among (last_ir_fault h) (ir_pieces (is_dynamic h.kind)) h.rest

-- why an IR-DYN is refused by a context of this profile, if it is
abbrev pub ir_dyn_fault : Header → ℕ → Option ChainRefusal
ir_dyn_fault h profile = fault_among (last_fault h) (ir_dyn_pieces profile) h.rest
