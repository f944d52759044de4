-- The test of two settings says whether they are equal.
use Rattle.std.proofs.Common.{◌≡◌, true, false, refl}
use Rattle.std.specs.Bool.{Decides}
use Rattle.std.specs.Cmp.Lexicographic.{pointwise}
use Rattle.std.proofs.lemmas.Bool.Decides.{Decides-eqb, Decides-and, Decides-like}
use Rattle.std.proofs.lemmas.Slice.Eq.{slice_eq-Decides}
use Rattle.rohc_frame.specs.declared.header.CidKind.{CidKind}
use Rattle.rohc_frame.specs.declared.header.CidKind.TheVariants.{Small, Large}
use Rattle.rohc_context.specs.declared.settings.Mode.{Mode}
use Rattle.rohc_context.specs.declared.settings.Mode.TheVariants.{U, O}
use Rattle.rohc_context.specs.declared.settings.Settings.{Settings}
use Rattle.rohc_concentrator.specs.declared.setting.CidRange.{CidRange}
use Rattle.rohc_concentrator.specs.declared.setting.LinkSetting.{LinkSetting}
use Rattle.rohc_concentrator.specs.Leaving.{is_same_kind}
use Rattle.rohc_station.specs.Same.{is_same_mode, are_same_settings, is_same_range, is_same_setting}

kinds : (a b : CidKind) → Decides (is_same_kind a b) (a ≡ b)
kinds Small Small = (λ e. refl, λ e. refl)
kinds Small Large = (λ e. absurd (let f : false ≡ true = e in cc), λ e. absurd (let f : ◌≡◌ {A = CidKind} Small Large = e in cc))
kinds Large Small = (λ e. absurd (let f : false ≡ true = e in cc), λ e. absurd (let f : ◌≡◌ {A = CidKind} Large Small = e in cc))
kinds Large Large = (λ e. refl, λ e. refl)

modes : (a b : Mode) → Decides (is_same_mode a b) (a ≡ b)
modes U U = (λ e. refl, λ e. refl)
modes U O = (λ e. absurd (let f : false ≡ true = e in cc), λ e. absurd (let f : ◌≡◌ {A = Mode} U O = e in cc))
modes O U = (λ e. absurd (let f : false ≡ true = e in cc), λ e. absurd (let f : ◌≡◌ {A = Mode} O U = e in cc))
modes O O = (λ e. refl, λ e. refl)

all_settings : (a b : Settings) → Decides (are_same_settings a b) (a ≡ b)
all_settings a b = Decides-like (are_same_settings a b)
    (λ p. let (size, (max_cid, (mode, (k1, (n1, (k2, (n2, (packet_ms, (static_nack_ms, idle_ms))))))))) = p in (λ i. record {
      size = size i;
      max_cid = max_cid i;
      mode = mode i;
      k1 = k1 i;
      n1 = n1 i;
      k2 = k2 i;
      n2 = n2 i;
      packet_ms = packet_ms i;
      static_nack_ms = static_nack_ms i;
      idle_ms = idle_ms i;
    }))
    (λ e. (λ i. (e i).size, (λ i. (e i).max_cid, (λ i. (e i).mode, (λ i. (e i).k1, (λ i. (e i).n1, (λ i. (e i).k2, (λ i. (e i).n2, (λ i. (e i).packet_ms, (λ i. (e i).static_nack_ms, λ i. (e i).idle_ms))))))))))
    (Decides-and _ _ (kinds a.size b.size) (Decides-and _ _ (Decides-eqb a.max_cid b.max_cid) (Decides-and _ _ (modes a.mode b.mode)
    (Decides-and _ _ (Decides-eqb a.k1 b.k1) (Decides-and _ _ (Decides-eqb a.n1 b.n1) (Decides-and _ _ (Decides-eqb a.k2 b.k2) (Decides-and _ _ (Decides-eqb a.n2 b.n2)
    (Decides-and _ _ (Decides-eqb a.packet_ms b.packet_ms) (Decides-and _ _ (Decides-eqb a.static_nack_ms b.static_nack_ms) (Decides-eqb a.idle_ms b.idle_ms))))))))))

ranges : (a b : CidRange) → Decides (is_same_range a b) (a ≡ b)
ranges a b = Decides-like (is_same_range a b)
    (λ p. let (first, (last, mode)) = p in (λ i. record { first = first i; last = last i; mode = mode i }))
    (λ e. (λ i. (e i).first, (λ i. (e i).last, λ i. (e i).mode)))
    (Decides-and _ _ (Decides-eqb a.first b.first) (Decides-and _ _ (Decides-eqb a.last b.last) (modes a.mode b.mode)))

pub same_decides : (a b : LinkSetting) → Decides (is_same_setting a b) (a ≡ b)
same_decides a b = Decides-like (is_same_setting a b)
    (λ p. let (link, (settings, items)) = p in (λ i. record { link = link i; settings = settings i; ranges = record { items = items i } }))
    (λ e. (λ i. (e i).link, (λ i. (e i).settings, λ i. (e i).ranges.items)))
    (Decides-and _ _ (Decides-eqb a.link b.link) (Decides-and _ _ (all_settings a.settings b.settings)
    (slice_eq-Decides ranges a.ranges.items b.ranges.items (pointwise is_same_range a.ranges.items b.ranges.items) refl)))
