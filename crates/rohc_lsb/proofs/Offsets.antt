use Rattle.std.proofs.Common.{◌≡◌, ℕ, ◌+◌, ◌-◌, ◌*◌, ◌%◌, ◌^◌, ◌<◌, Bool, true, false, pos, ◌-ℤ◌, ap, ◌∙◌, refl, sym, arith}
use Rattle.std.proofs.lemmas.Int.{ints}
use Rattle.std.proofs.lemmas.Nat.{mod_below}
use Rattle.std.proofs.Math.Nat.{mod-add-mod, add-mod_right, mod-eq_of_lt}
use Rattle.rohc_lsb.specs.Fields.{in_network_order, offset_of}
use Rattle.rohc_lsb.proofs.Residues.{modulo_is}

-- octets that are swapped twice are as before
turned_twice : (nbo : Bool) (x : ℕ) → x < 2 ^ 16 → in_network_order nbo (in_network_order nbo x) ≡ x
turned_twice true x range = refl
turned_twice false x range = omega arith

-- the offset as a sum, for an SN of 16 bits
pub offset_is : (nbo : Bool) (sn id : ℕ) → sn < 2 ^ 16 → offset_of nbo sn id ≡ (in_network_order nbo id + (2 ^ 16 - sn)) % 2 ^ 16
offset_is nbo sn id range = modulo_is (pos (in_network_order nbo id) -ℤ pos sn) (2 ^ 16) (in_network_order nbo id + (2 ^ 16 - sn)) 1 (omega arith) (omega (arith, ints))

-- the Identification that has this offset
pub offset_back : (nbo : Bool) (sn offset : ℕ) → sn < 2 ^ 16 → offset < 2 ^ 16 →
    offset_of nbo sn (in_network_order nbo ((sn + offset) % 2 ^ 16)) ≡ offset
offset_back nbo sn offset sn_range range =
    let sum = (sn + offset) % 2 ^ 16 in
    let e : sn + offset + (2 ^ 16 - sn) ≡ offset + 2 ^ 16 = omega arith in
    offset_is nbo sn (in_network_order nbo sum) sn_range
    ∙ ap (λ x. (x + (2 ^ 16 - sn)) % 2 ^ 16) (turned_twice nbo sum (mod_below (sn + offset) (2 ^ 16) (omega arith)))
    ∙ mod-add-mod (sn + offset) (2 ^ 16) (2 ^ 16 - sn)
    ∙ ap (λ x. x % 2 ^ 16) e
    ∙ add-mod_right offset (2 ^ 16)
    ∙ mod-eq_of_lt range

-- the offset as a sum, for any SN
offset_sum : (nbo : Bool) (sn id : ℕ) → offset_of nbo sn id ≡ (in_network_order nbo id + sn * 65535) % 2 ^ 16
offset_sum nbo sn id = modulo_is (pos (in_network_order nbo id) -ℤ pos sn) (2 ^ 16) (in_network_order nbo id + sn * 65535) sn (omega arith) (omega (arith, ints))

pub offset_below : (nbo : Bool) (sn id : ℕ) → offset_of nbo sn id < 2 ^ 16
offset_below nbo sn id = rw (offset_sum nbo sn id) (mod_below (in_network_order nbo id + sn * 65535) (2 ^ 16) (omega arith))

turned_below : (nbo : Bool) (x : ℕ) → x < 2 ^ 16 → in_network_order nbo x < 2 ^ 16
turned_below true x range = range
turned_below false x range = omega arith

-- some Identification has this offset
pub offset_there : (nbo : Bool) (sn offset : ℕ) → offset < 2 ^ 16 → (id : ℕ) × (id < 2 ^ 16) × (offset_of nbo sn id ≡ offset)
offset_there nbo sn offset range =
    let sum = (sn + offset) % 2 ^ 16 in
    let small : sum < 2 ^ 16 = mod_below (sn + offset) (2 ^ 16) (omega arith) in
    let back : in_network_order nbo (in_network_order nbo sum) ≡ sum = turned_twice nbo sum small in
    (in_network_order nbo sum, turned_below nbo sum small, offset_sum nbo sn (in_network_order nbo sum) ∙ omega (arith, back))

-- and only one
pub offset_once : (nbo : Bool) (sn a b : ℕ) → a < 2 ^ 16 → b < 2 ^ 16 → offset_of nbo sn a ≡ offset_of nbo sn b → a ≡ b
offset_once nbo sn a b a_range b_range same =
    let sums : (in_network_order nbo a + sn * 65535) % 2 ^ 16 ≡ (in_network_order nbo b + sn * 65535) % 2 ^ 16 = sym (offset_sum nbo sn a) ∙ same ∙ offset_sum nbo sn b in
    let orders : in_network_order nbo a ≡ in_network_order nbo b = omega (arith, turned_below nbo a a_range, turned_below nbo b b_range, sums) in
    sym (turned_twice nbo a a_range) ∙ ap (in_network_order nbo) orders ∙ turned_twice nbo b b_range
