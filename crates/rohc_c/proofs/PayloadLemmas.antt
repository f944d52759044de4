-- What a buffer holds after a part of a packet was written.
use Rattle.std.proofs.Common.{◌≡◌, ℕ, ◌+◌, ◌≤◌, List, ◌++◌, length, take, drop, arith, ap, sym, ◌∙◌}
use Rattle.std.proofs.lemmas.List.{take-take, take-append-drop, drop-take, drop_at, length-take-le, append_assoc}
use Rattle.std.proofs.Math.Seq.{take-append-add}

-- the first octets, and a part after them
joined : (octets : List ℕ) (from width : ℕ) → take from octets ++ take width (drop from octets) ≡ take (from + width) octets
joined octets from width =
    (λ i. sym (take-take from (from + width) octets (omega arith)) i ++ sym (drop-take from width octets) i) ∙ take-append-drop from (take (from + width) octets)

-- If a buffer holds the first octets of a payload after its own, it holds fewer of them too.
fewer : (place octets : List ℕ) (at from done : ℕ) → at + from ≤ length place → from ≤ done → take (at + done) place ≡ take at place ++ take done octets
    → take (at + from) place ≡ take at place ++ take from octets
fewer place octets at from done room less held =
    let own : length (take at place) ≡ at = length-take-le at place (omega (arith, room)) in
    sym (take-take (at + from) (at + done) place (omega (arith, less)))
    ∙ ap (take (at + from)) held
    ∙ ap (λ n. take (n + from) (take at place ++ take done octets)) (sym own)
    ∙ take-append-add (take at place) (take done octets) from
    ∙ ap (λ l. take at place ++ l) (take-take from done octets less)

pub part_written : (place octets part : List ℕ) (at from done width : ℕ) → at + from ≤ length place → from ≤ done → part ≡ take width (drop from octets)
    → take (at + done) place ≡ take at place ++ take done octets → take (at + from) place ++ part ≡ take at place ++ take (from + width) octets
part_written place octets part at from done width room less is held =
    (λ i. fewer place octets at from done room less held i ++ is i)
    ∙ append_assoc (take at place) (take from octets) (take width (drop from octets))
    ∙ ap (λ l. take at place ++ l) (joined octets from width)

-- a head is written over what stands before a payload
pub packet_stands : (before place head payload : List ℕ) → length head ≤ length before → take (length head + length payload) place ≡ take (length head) before ++ payload
    → take (length head + length payload) (head ++ drop (length head) place) ≡ head ++ payload
packet_stands before place head payload room held =
    take-append-add head (drop (length head) place) (length payload)
    ∙ ap (λ l. head ++ l) (sym (drop-take (length head) (length payload) place) ∙ ap (drop (length head)) held ∙ drop_at (take (length head) before) payload (length head) (length-take-le (length head) before room))
