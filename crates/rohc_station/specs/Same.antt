-- Whether two settings of a link are the same, field by field. Words: is_same_mode, are_same_settings;
-- is_same_range; is_same_setting.
use Rattle.std.specs.Prelude.{Bool, true, false, ◌==◌, ◌&&◌}
use Rattle.std.specs.Cmp.Lexicographic.{pointwise}
use Rattle.rohc_context.specs.declared.settings.Mode.{Mode}
use Rattle.rohc_context.specs.declared.settings.Mode.TheVariants.{U, O}
use Rattle.rohc_context.specs.declared.settings.Settings.{Settings}
use Rattle.rohc_concentrator.specs.declared.setting.CidRange.{CidRange}
use Rattle.rohc_concentrator.specs.declared.setting.LinkSetting.{LinkSetting}
use Rattle.rohc_concentrator.specs.Leaving.{is_same_kind}

abbrev pub is_same_mode : Mode → Mode → Bool
is_same_mode U U = true
is_same_mode U O = false
is_same_mode O U = false
is_same_mode O O = true

abbrev pub are_same_settings : Settings → Settings → Bool
are_same_settings a b =
    is_same_kind a.size b.size && (a.max_cid == b.max_cid && (is_same_mode a.mode b.mode
    && (a.k1 == b.k1 && (a.n1 == b.n1 && (a.k2 == b.k2 && (a.n2 == b.n2
    && (a.packet_ms == b.packet_ms && (a.static_nack_ms == b.static_nack_ms && a.idle_ms == b.idle_ms))))))))

abbrev pub is_same_range : CidRange → CidRange → Bool
is_same_range a b = a.first == b.first && (a.last == b.last && is_same_mode a.mode b.mode)

abbrev pub is_same_setting : LinkSetting → LinkSetting → Bool
is_same_setting a b = a.link == b.link && (are_same_settings a.settings b.settings
    && pointwise is_same_range a.ranges.items b.ranges.items)
