-- What a sender writes for a receiver that may have lost packets (RFC 3095 4.5.2).
-- Words: Held, held_by, HoldsInFull; Written, IsHonestPacket, delivery_of; IsInTime.
use Rattle.std.specs.Prelude.{◌≡◌, ℕ, ◌-◌, ◌<◌, ◌≤◌, List, length, Bool, All, ◌⊎◌, Option, None, Ok}
use Rattle.rohc_bits.specs.Bits.{IsOctet}
use Rattle.rohc_frame.specs.declared.header.HeadKind.TheVariants.{Other}
use Rattle.rohc_frame.specs.Header.{Header}
use Rattle.rohc_header.specs.declared.fields.Static.{Static}
use Rattle.rohc_header.specs.Original.{longest_payload}
use Rattle.rohc_forms.specs.Content.{Content}
use Rattle.rohc_context.specs.declared.settings.Settings.{Settings}
use Rattle.rohc_context.specs.Record.{Reference, FullContext, Record}
use Rattle.rohc_context.specs.Response.{Response, delivered}
use Rattle.rohc_context.specs.Explains.{Explained}
use Rattle.rohc_context.specs.Tries.{Fits, unshifted}
use Rattle.rohc_context.specs.NextReference.{without_marker}
use Rattle.rohc_context.specs.Update.{said_under}

-- what Full Context holds for decoding: the static part and the reference
pub record Held : Type 0 where
  pub fixed : Static
  pub reference : Reference

-- A header taken as the reference: its fields without the marker, with the RND, the NBO, the stride and the
-- presence of a UDP checksum that were held first.
abbrev pub held_by : (first : Held) → Explained → Held
held_by first h = record {
  fixed = first.fixed;
  reference = record {
    moving = record (without_marker h.moving) {
      rnd = first.reference.moving.rnd;
      nbo = first.reference.moving.nbo;
      stride = first.reference.moving.stride;
    };
    carries_sum = first.reference.carries_sum;
  };
}

-- a record in Full Context that holds this
abbrev pub HoldsInFull : Held → Record → Type 0
HoldsInFull held r = (previous : Option Reference) × (window : List Bool) ×
    (r.state ≡ FullContext held.fixed held.reference previous window)

-- a packet, what it says, and the header that it was written for
pub record Written : Type 0 where
  pub packet : Header
  pub content : Content
  pub header : Explained

-- A packet of kind Other without an extension 3, whose rebuilt packet isn't too long. Against what is held it
-- says this, means the header and carries the header's check.
pub record IsHonestPacket (held : Held) (p : Written) : Type 0 where
  pub kind : p.packet.kind ≡ Other
  pub octets : All IsOctet p.packet.rest
  pub said : said_under p.packet held.reference ≡ Ok p.content
  pub no_values : p.content.values ≡ None
  pub few : length p.content.payload ≤ longest_payload
  pub fits : Fits held.fixed (unshifted held.reference) p.content p.header

-- the answer that delivers the header and the payload that it was written for, without feedback
abbrev pub delivery_of : Written → Response
delivery_of p = delivered p.header.octets p.content.payload None

-- an arrival at this time finds a record that counts
abbrev pub IsInTime : Settings → (accepted moment : ℕ) → Type 0
IsInTime s accepted moment = (s.idle_ms ≡ 0) ⊎ (moment - accepted < s.idle_ms)
