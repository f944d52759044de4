-- What the octets of a packet of kind Other say, and its first fault (RFC 3095 5.7.1 to 5.7.5).
use Rattle.std.specs.Prelude.{◌≡◌, Bool, Option}
use Rattle.rohc_bits.specs.Grammar.{SaidBefore, first_fault}
use Rattle.rohc_frame.specs.Header.{Header}
use Rattle.rohc_forms.specs.declared.refusal.FormRefusal.{FormRefusal}
use Rattle.rohc_forms.specs.declared.refusal.FormRefusal.TheVariants.{Truncated}
use Rattle.rohc_forms.specs.Octets.{word_if}
use Rattle.rohc_forms.specs.Content.{Content, whole_content}
use Rattle.rohc_forms.specs.Packets.{head_at, header_at}

-- After the first octet of a packet: the octets up to the end of its extension, the Identification, if the
-- RND in force is 1, the UDP checksum, if packets carry one, and the payload.
abbrev pub IsForm : Header → Bool → Bool → Bool → Content → Type 0
IsForm h rnd udp_sum stride_known c =
    SaidBefore (head_at h.first rnd stride_known) (λ head.
    SaidBefore (word_if head.rnd) (λ id.
    SaidBefore (word_if udp_sum) (λ sum payload.
    c ≡ whole_content head id sum payload))) h.rest

-- why a packet is refused, if it is
abbrev pub form_fault : Header → Bool → Bool → Bool → Option FormRefusal
form_fault h rnd udp_sum stride_known =
    first_fault Truncated (header_at h.first rnd udp_sum stride_known) h.rest
