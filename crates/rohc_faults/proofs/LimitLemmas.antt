-- A setting that a concentrator refuses has a key outside its limits.
use Rattle.std.proofs.Common.{◌≡◌, ◌∷◌, [], List, Bool, true, false, cond, not, refl, arith}
use Rattle.std.proofs.lemmas.Bool.Decides.{nat_tests}
use Rattle.std.proofs.lemmas.Grind.{common_steps}
use Rattle.std.specs.Prelude.{filter}
use Rattle.rohc_concentrator.specs.declared.setting.LinkSetting.{LinkSetting}
use Rattle.rohc_concentrator.specs.Setting.{IsGoodSetting}
use Rattle.rohc_links.specs.declared.fault.Key.{Key}
use Rattle.rohc_links.specs.declared.fault.Key.TheVariants as key
use Rattle.rohc_faults.specs.Limits.{is_within, keys_beyond, FindsBeyond}

-- what passes is left out, and then the others
left_out : (b : Bool) (k : Key) (others : List Key) → b ≡ true → others ≡ [] → cond (not b) (k ∷ others) others ≡ []
left_out true k others within none = none
left_out false k others within none = grind (arith, common_steps)

-- nothing is told: this passes, and the others too
passes : (b : Bool) (k : Key) (others : List Key) → cond (not b) (k ∷ others) others ≡ [] → (b ≡ true) × (others ≡ [])
passes true k others none = (refl, none)
passes false k others none = grind (arith, common_steps)

abbrev beyond_of : LinkSetting → List Key → List Key
beyond_of s keys = filter (λ k. not (is_within k s)) keys

passes_first : (s : LinkSetting) (k : Key) (others : List Key) → beyond_of s (k ∷ others) ≡ [] → (is_within k s ≡ true) × (beyond_of s others ≡ [])
passes_first s k others none = passes (is_within k s) k (beyond_of s others) none

left_out_first : (s : LinkSetting) (k : Key) (others : List Key) → is_within k s ≡ true → beyond_of s others ≡ [] → beyond_of s (k ∷ others) ≡ []
left_out_first s k others within none = left_out (is_within k s) k (beyond_of s others) within none

good : (s : LinkSetting) → keys_beyond s ≡ [] → IsGoodSetting s
good s none =
    let p0 = passes_first s key.MaxCid (key.K1 ∷ key.N1 ∷ key.K2 ∷ key.N2 ∷ key.PacketMs ∷ key.StaticNackMs ∷ key.IdleMs ∷ key.Range ∷ []) none in
    let p1 = passes_first s key.K1 (key.N1 ∷ key.K2 ∷ key.N2 ∷ key.PacketMs ∷ key.StaticNackMs ∷ key.IdleMs ∷ key.Range ∷ []) p0.1 in
    let p2 = passes_first s key.N1 (key.K2 ∷ key.N2 ∷ key.PacketMs ∷ key.StaticNackMs ∷ key.IdleMs ∷ key.Range ∷ []) p1.1 in
    let p3 = passes_first s key.K2 (key.N2 ∷ key.PacketMs ∷ key.StaticNackMs ∷ key.IdleMs ∷ key.Range ∷ []) p2.1 in
    let p4 = passes_first s key.N2 (key.PacketMs ∷ key.StaticNackMs ∷ key.IdleMs ∷ key.Range ∷ []) p3.1 in
    let p5 = passes_first s key.PacketMs (key.StaticNackMs ∷ key.IdleMs ∷ key.Range ∷ []) p4.1 in
    let p6 = passes_first s key.StaticNackMs (key.IdleMs ∷ key.Range ∷ []) p5.1 in
    let p7 = passes_first s key.IdleMs (key.Range ∷ []) p6.1 in
    let p8 = passes_first s key.Range ([]) p7.1 in
    record {
      settings_good = record {
        max_cid = grind (arith, nat_tests, p0.0);
        k1 = (grind (arith, nat_tests, p1.0), grind (arith, nat_tests, p1.0), grind (arith, nat_tests, p2.0));
        k2 = (grind (arith, nat_tests, p3.0), grind (arith, nat_tests, p3.0), grind (arith, nat_tests, p4.0));
        packet_ms = (grind (arith, nat_tests, p5.0), grind (arith, nat_tests, p5.0));
        static_nack_ms = grind (arith, nat_tests, p6.0);
        idle_ms = grind (arith, nat_tests, p7.0);
      };
      ranges_good = p8.0;
    }

none_beyond : (s : LinkSetting) → IsGoodSetting s → keys_beyond s ≡ []
none_beyond s g =
    left_out_first s key.MaxCid (key.K1 ∷ key.N1 ∷ key.K2 ∷ key.N2 ∷ key.PacketMs ∷ key.StaticNackMs ∷ key.IdleMs ∷ key.Range ∷ []) (grind (arith, nat_tests, g.settings_good)) (
    left_out_first s key.K1 (key.N1 ∷ key.K2 ∷ key.N2 ∷ key.PacketMs ∷ key.StaticNackMs ∷ key.IdleMs ∷ key.Range ∷ []) (grind (arith, nat_tests, g.settings_good)) (
    left_out_first s key.N1 (key.K2 ∷ key.N2 ∷ key.PacketMs ∷ key.StaticNackMs ∷ key.IdleMs ∷ key.Range ∷ []) (grind (arith, nat_tests, g.settings_good)) (
    left_out_first s key.K2 (key.N2 ∷ key.PacketMs ∷ key.StaticNackMs ∷ key.IdleMs ∷ key.Range ∷ []) (grind (arith, nat_tests, g.settings_good)) (
    left_out_first s key.N2 (key.PacketMs ∷ key.StaticNackMs ∷ key.IdleMs ∷ key.Range ∷ []) (grind (arith, nat_tests, g.settings_good)) (
    left_out_first s key.PacketMs (key.StaticNackMs ∷ key.IdleMs ∷ key.Range ∷ []) (grind (arith, nat_tests, g.settings_good)) (
    left_out_first s key.StaticNackMs (key.IdleMs ∷ key.Range ∷ []) (grind (arith, nat_tests, g.settings_good)) (
    left_out_first s key.IdleMs (key.Range ∷ []) (grind (arith, nat_tests, g.settings_good)) (
    left_out_first s key.Range ([]) (g.ranges_good) (
    refl)))))))))

pub finds_beyond : FindsBeyond
finds_beyond s = (good s, none_beyond s)
