-- An answer's part of a room, and its buffers; the room for all answers; the one struct of an answer.
use Rattle.std.proofs.Common.{◌≡◌, ℕ, ◌+◌, ◌*◌, ◌≤◌, List, [], ◌∷◌, ◌++◌, length, take, drop, sum_by, arith, refl, ap, ◌∙◌}
use Rattle.std.proofs.lemmas.List.{take_at, drop_at, take_all, length-drop}
use Rattle.std.proofs.lemmas.List.Sums.{sum_by-cons}
use Rattle.std.proofs.Math.ListN.{set}
use Rattle.std.proofs.Math.Seq.{take-append-le, drop-append-le}
use Rattle.rohc_c.specs.Many.{needed, buffers_in}
use Rattle.rohc_c.specs.Written.{Buffers}
use Rattle.rohc_c.specs.declared.many.RohcPacket.{RohcPacket}

pub buffers_are : (count : ℕ) (p f r : List ℕ) → length p ≡ count + 40 → length f ≡ 8 → length r ≡ count
    → ◌≡◌ {A = Buffers} (buffers_in count (p ++ (f ++ r))) (record { packet = p; feedback = f; relayed = r })
buffers_are count p f r packet feedback relayed =
    let behind : drop (count + 40) (p ++ (f ++ r)) ≡ f ++ r = drop_at p (f ++ r) (count + 40) packet in
    let second : take 8 (drop (count + 40) (p ++ (f ++ r))) ≡ f = ap (take 8) behind ∙ take_at f r 8 feedback in
    let third : take count (drop 8 (drop (count + 40) (p ++ (f ++ r)))) ≡ r =
    ap (λ xs. take count (drop 8 xs)) behind ∙ ap (take count) (drop_at f r 8 feedback) ∙ take_all count r (omega (arith, relayed)) in
    λ i. record { packet = take_at p (f ++ r) (count + 40) packet i; feedback = second i; relayed = third i }

-- what stands behind an answer's part doesn't change its buffers
pub buffers_front : (count : ℕ) (part rest : List ℕ) → length part ≡ needed count → ◌≡◌ {A = Buffers} (buffers_in count (part ++ rest)) (buffers_in count part)
buffers_front count part rest size =
    let from = count + 40 in
    let first : from ≤ length part = omega (arith, size) in
    let behind : drop from (part ++ rest) ≡ drop from part ++ rest = drop-append-le from part rest first in
    let some : 8 ≤ length (drop from part) = omega (arith, size, length-drop from part) in
    let third : drop 8 (drop from (part ++ rest)) ≡ drop 8 (drop from part) ++ rest = ap (drop 8) behind ∙ drop-append-le 8 (drop from part) rest some in
    let left : count ≤ length (drop 8 (drop from part)) = omega (arith, size, length-drop from part, length-drop 8 (drop from part)) in
    let feedback : take 8 (drop from (part ++ rest)) ≡ take 8 (drop from part) = ap (take 8) behind ∙ take-append-le 8 (drop from part) rest some in
    let relayed : take count (drop 8 (drop from (part ++ rest))) ≡ take count (drop 8 (drop from part)) =
    ap (take count) third ∙ take-append-le count (drop 8 (drop from part)) rest left in
    λ i. record { packet = take-append-le from part rest first i; feedback = feedback i; relayed = relayed i }

-- the room for all answers, from the octets of all packets
pub needed_by_all : (ps : List RohcPacket) → sum_by (λ p. needed p.count) ps ≡ 2 * sum_by (λ p. p.count) ps + 48 * length ps
needed_by_all [] = refl
needed_by_all (p ∷ ps) =
    omega (arith, needed_by_all ps, sum_by-cons (λ (q : RohcPacket). needed q.count) p ps, sum_by-cons (λ (q : RohcPacket). q.count) p ps)

pub one_set : {A : Type 0} (own : List A) (answer : A) → length own ≡ 1 → set own 0 answer ≡ answer ∷ []
one_set (a ∷ []) answer one = refl
one_set [] answer one = absurd (omega (arith, one))
one_set (a ∷ b ∷ own) answer one = absurd (omega (arith, one))
