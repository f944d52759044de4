use Rattle.std.proofs.Common.{◌≡◌, ℕ, suc, ◌+◌, ◌-◌, ◌*◌, ◌%◌, ◌^◌, ◌<◌, ℤ, pos, negsuc, ◌+ℤ◌, ◌-ℤ◌, ◌≤ℤ◌, subst, sym, ap, ◌∙◌, arith}
use Rattle.std.proofs.lemmas.Nat.{mod_below, pow_pos, mod-mul-add}
use Rattle.std.proofs.Math.Nat.{add-mod-mod}
use Rattle.std.proofs.lemmas.Int.{ints}
use Rattle.rohc_bits.specs.LowBits.{LowBits}
use Rattle.rohc_lsb.specs.Interval.{LiesInInterval, modulo, OneValue, WindowAgrees}
use Rattle.rohc_lsb.proofs.Residues.{modulo_is, raised, remainder_once}

-- the number that lies as far above a as b does modulo m is b modulo m
reached_from : (a : ℤ) (b m q r l n : ℕ) → b < m →
    a +ℤ pos (q * m) ≡ pos l →
    (pos b -ℤ a) +ℤ pos (r * m) ≡ pos n →
    modulo (a +ℤ pos (modulo (pos b -ℤ a) m)) m ≡ b
reached_from a b m q r l n below low far =
    let some : 0 < m = omega arith in
    let gap : modulo (pos b -ℤ a) m ≡ n % m = modulo_is (pos b -ℤ a) m n r some far in
    let sum : l + n ≡ (q + r) * m + b = omega (arith, ints) in
    modulo_is (a +ℤ pos (modulo (pos b -ℤ a) m)) m (l + n % m) q some (omega (arith, ints))
    ∙ add-mod-mod l n m ∙ ap (λ x. x % m) sum ∙ mod-mul-add (q + r) m b below

reached : (a : ℤ) (b m : ℕ) → b < m → modulo (a +ℤ pos (modulo (pos b -ℤ a) m)) m ≡ b
reached a b m below =
    let some : 0 < m = omega arith in
    let (q, l, low) = raised a m some in
    let (r, n, far) = raised (pos b -ℤ a) m some in
    reached_from a b m q r l n below low far

pub modulo_below : (v : ℤ) (m : ℕ) → 0 < m → modulo v m < m
modulo_below v m some =
    let (q, n, e) = raised v m some in
    rw (modulo_is v m n q some e) (mod_below n m some)

-- The value that the bits mean lies as far above the least number of the interval as the bits do modulo 2^k.
pub meant_there : (reference : ℤ) (bits : LowBits) (p : ℕ) → bits.value < 2 ^ bits.count →
    LiesInInterval reference bits p ((reference -ℤ pos p) +ℤ pos (modulo (pos bits.value -ℤ (reference -ℤ pos p)) (2 ^ bits.count)))
meant_there reference bits p fits =
    let over = modulo_below (pos bits.value -ℤ (reference -ℤ pos p)) (2 ^ bits.count) (pow_pos bits.count) in
    record { least = omega (arith, ints); greatest = omega (arith, ints); low = reached (reference -ℤ pos p) bits.value (2 ^ bits.count) fits }

-- the same for an equal value
pub meant_as : (reference : ℤ) (bits : LowBits) (p : ℕ) (v w : ℤ) → LiesInInterval reference bits p v → v ≡ w → LiesInInterval reference bits p w
meant_as reference bits p v w lies e = let P : ℤ → Type 0 = λ x. LiesInInterval reference bits p x in subst P e lies

-- the value by its distance from the least number
pub meant_from : (reference : ℤ) (bits : LowBits) (p : ℕ) (gap v : ℤ) (above : ℕ) → bits.value < 2 ^ bits.count →
    above ≡ modulo gap (2 ^ bits.count) →
    gap ≡ pos bits.value -ℤ (reference -ℤ pos p) →
    v ≡ (reference -ℤ pos p) +ℤ pos above →
    LiesInInterval reference bits p v
meant_from reference bits p gap v above fits above_is gap_is v_is =
    let e = above_is ∙ ap (λ g. modulo g (2 ^ bits.count)) gap_is in
    meant_as reference bits p _ v (meant_there reference bits p fits) (sym (v_is ∙ ap (λ n. (reference -ℤ pos p) +ℤ pos n) e))

-- how far b is above a
distance : (a b : ℤ) → a ≤ℤ b → (d : ℕ) × (b ≡ a +ℤ pos d)
distance (pos a) (pos b) h = (b - a, omega (arith, ints))
distance (pos a) (negsuc b) h = absurd (omega (arith, ints))
distance (negsuc a) (pos b) h = (b + suc a, omega (arith, ints))
distance (negsuc a) (negsuc b) h = (a - b, omega (arith, ints))

-- two values that the same bits mean are one
meant_twice : (reference : ℤ) (bits : LowBits) (p : ℕ) (v w : ℤ) (q l d e : ℕ) →
    (reference -ℤ pos p) +ℤ pos (q * 2 ^ bits.count) ≡ pos l →
    v ≡ (reference -ℤ pos p) +ℤ pos d →
    w ≡ (reference -ℤ pos p) +ℤ pos e →
    LiesInInterval reference bits p v →
    LiesInInterval reference bits p w →
    w ≡ v
meant_twice reference bits p v w q l d e low at_d at_e lies_v lies_w =
    let some : 0 < 2 ^ bits.count = pow_pos bits.count in
    let v_rest : modulo v (2 ^ bits.count) ≡ (l + d) % 2 ^ bits.count = modulo_is v (2 ^ bits.count) (l + d) q some (omega (arith, ints)) in
    let w_rest : modulo w (2 ^ bits.count) ≡ (l + e) % 2 ^ bits.count = modulo_is w (2 ^ bits.count) (l + e) q some (omega (arith, ints)) in
    let rests : (l + e) % 2 ^ bits.count ≡ (l + d) % 2 ^ bits.count = sym w_rest ∙ lies_w.low ∙ sym lies_v.low ∙ v_rest in
    let one : e ≡ d = remainder_once l (2 ^ bits.count) e d (omega (arith, ints)) (omega (arith, ints)) rests in
    omega (arith, ints)

pub meant_once : (reference : ℤ) (bits : LowBits) (p : ℕ) (v w : ℤ) → LiesInInterval reference bits p v → LiesInInterval reference bits p w → w ≡ v
meant_once reference bits p v w lies_v lies_w =
    let (q, l, low) = raised (reference -ℤ pos p) (2 ^ bits.count) (pow_pos bits.count) in
    let (d, at_d) = distance (reference -ℤ pos p) v lies_v.least in
    let (e, at_e) = distance (reference -ℤ pos p) w lies_w.least in
    meant_twice reference bits p v w q l d e low at_d at_e lies_v lies_w

pub one_value : OneValue
one_value reference bits p fits =
    let there = meant_there reference bits p fits in
    (_, there, λ w lies_w. meant_once reference bits p _ w there lies_w)

-- the window's other references lie between its ends
pub window_agrees : WindowAgrees
window_agrees references least greatest bits p v from to at_least at_greatest i d within =
    let above = from i d within in
    let below = to i d within in
    record { least = omega (arith, ints); greatest = omega (arith, ints); low = at_least.low }
