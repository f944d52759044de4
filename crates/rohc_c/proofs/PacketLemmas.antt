-- A packet that is rebuilt has no more octets behind its head than the packet that arrived has.
use Rattle.std.proofs.Common.{◌≡◌, ℕ, ◌≤◌, List, ◌∷◌, length, Option, Some, None, Result, Ok, Err, inl, inr, arith, refl, sym, ap, subst}
use Rattle.std.specs.Prelude.{All}
use Rattle.std.proofs.lemmas.List.{length-append}
use Rattle.rohc_frame.specs.declared.header.CidKind.{CidKind}
use Rattle.rohc_frame.specs.declared.header.CidKind.TheVariants.{Small, Large}
use Rattle.rohc_frame.specs.Header.{Header, placed}
use Rattle.rohc_frame.specs.Items.{all_spelled}
use Rattle.rohc_frame.specs.Laws.{IsOctet}
use Rattle.rohc_frame.specs.Parts.{parts_of}
use Rattle.rohc_frame.specs.Reading.{Reading, IsReading, EndsInHeader}
use Rattle.rohc_frame.specs.declared.refusal.FrameRefusal.{FrameRefusal}
use Rattle.rohc_frame.proofs.LawLemmas.{reading_from_parts, header_is_good}
use Rattle.rohc_context.specs.Record.{Record}
use Rattle.rohc_context.specs.Response.{Packet, Response}
use Rattle.rohc_context.proofs.StepLaws.{lends_payload}
use Rattle.rohc_concentrator.specs.declared.setting.LinkSetting.{LinkSetting}
use Rattle.rohc_concentrator.specs.Setting.{settings_of}
use Rattle.rohc_concentrator.specs.Report.{Report, Arrived, OnlyFront, Refused, OwnStep, IsCut, IsRead, IsAnswered}
use Rattle.rohc_c.specs.Written.{IsPacketWithin, IsWithin}

-- what stands behind a header's first octet and identifier is a part of it
rest_within : (size : CidKind) (cid_octets : List ℕ) (first : ℕ) (rest : List ℕ) → length rest ≤ length (placed size cid_octets first rest)
rest_within Small cid_octets first rest = omega (arith, length-append cid_octets (first ∷ rest))
rest_within Large cid_octets first rest = omega (arith, length-append cid_octets rest)

header_within : (size : CidKind) (max_cid : ℕ) (octets : List ℕ) (r : Reading) (h : Header) → IsReading size max_cid octets r → r.header ≡ Some h → length h.rest ≤ length octets
header_within size max_cid octets r h is e =
    let ends = subst (EndsInHeader size max_cid is.after) e is.ends in
    omega (arith, rest_within h.size h.cid_octets h.first h.rest, ap length ends.whole, ap length is.whole, length-append (all_spelled is.items) is.after)

-- an identifier's own answer
own_within : (s : LinkSetting) (m most : ℕ) (h : Header) (before after : ℕ → Option Record) (response : Response) → All IsOctet h.rest → length h.rest ≤ most
    → OwnStep (settings_of s h.cid) m h (before h.cid) response (after h.cid) → IsPacketWithin most response.packet
own_within s m most h before after response all short (inl step) = wider response.packet (lends_payload (before h.cid) (settings_of s h.cid) m h response (after h.cid) all step) where
  wider : (packet : Option Packet) → IsPacketWithin (length h.rest) packet → IsPacketWithin most packet
  wider None p = tt
  wider (Some k) p = omega (arith, short, p)
own_within s m most h before after response all short (inr poor) = subst (λ (r : Response). IsPacketWithin most r.packet) (sym poor.2) tt

-- the header of a packet is of octets and no longer than it
abbrev IsPart : ℕ → Header → Type 0
IsPart most h = All IsOctet h.rest × (length h.rest ≤ most)

module _ (s : LinkSetting) (m most : ℕ) (before after : ℕ → Option Record) (report : Report) where
  cut_within : (relayed : List (List ℕ)) (header : Option Header) → ((h : Header) → header ≡ Some h → IsPart most h) → IsCut s m relayed header before report after → IsWithin most report
  cut_within relayed None part a = subst (IsWithin most) (sym a) tt
  cut_within relayed (Some h) part (response, is, own) =
      subst (IsWithin most) (sym is) (own_within s m most h before after response (part h refl).0 (part h refl).1 own)

  read_within : (parts : Result Reading FrameRefusal) → ((r : Reading) (h : Header) → parts ≡ Ok r → r.header ≡ Some h → IsPart most h) → IsRead s m parts before report after → IsWithin most report
  read_within (Ok r) part a = cut_within r.elements r.header (λ h. part r h refl) a
  read_within (Err refusal) part a = subst (IsWithin most) (sym a) tt

pub answer_within : (set : Option LinkSetting) (m : ℕ) (octets : List ℕ) (before after : ℕ → Option Record) (report : Report) → All IsOctet octets →
    IsAnswered set before m octets report after → IsWithin (length octets) report
answer_within None m octets before after report all a = subst (IsWithin (length octets)) (sym a) tt
answer_within (Some s) m octets before after report all a =
    let size = s.settings.size in
    let max_cid = s.settings.max_cid in
    read_within s m (length octets) before after report (parts_of size max_cid octets) (λ r h e f.
    ((header_is_good size max_cid octets r h e f all).rest, header_within size max_cid octets r h (reading_from_parts size max_cid octets r e) f)) a

-- a greater bound holds too
pub more_within : (report : Report) (most more : ℕ) → most ≤ more → IsWithin most report → IsWithin more report
more_within report most more less within = go report within where
  wider : (packet : Option Packet) → IsPacketWithin most packet → IsPacketWithin more packet
  wider None p = tt
  wider (Some k) p = omega (arith, less, p)

  go : (r : Report) → IsWithin most r → IsWithin more r
  go (Arrived cid response relayed) p = wider response.packet p
  go (OnlyFront relayed) p = tt
  go (Refused refusal) p = tt
