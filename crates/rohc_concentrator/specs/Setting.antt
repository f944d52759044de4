-- The setting of a link. Words: settings_of s i, the settings for a CID; IsGoodSetting.
use Rattle.std.specs.Prelude.{◌≡◌, ℕ, ◌+◌, List, [], ◌∷◌, Bool, true, ◌&&◌, nat_le, Option, find, unwrap_or}
use Rattle.std.specs.Option.{option_map}
use Rattle.rohc_context.specs.declared.settings.Mode.{Mode}
use Rattle.rohc_context.specs.declared.settings.Settings.{Settings}
use Rattle.rohc_context.specs.Settings.{AreGood}
use Rattle.rohc_concentrator.specs.declared.setting.CidRange.{CidRange}
use Rattle.rohc_concentrator.specs.declared.setting.LinkSetting.{LinkSetting}

-- the range holds the CID
abbrev pub holds : ℕ → CidRange → Bool
holds cid r = nat_le r.first cid && nat_le cid r.last

-- the mode of the range that holds the CID, if one does
abbrev pub mode_in : ℕ → List CidRange → Option Mode
mode_in cid ranges = option_map (λ (r : CidRange). r.mode) (find (holds cid) ranges)

-- the settings for a CID: the link's, with the mode of the range that holds the CID, if one does
abbrev pub settings_of : LinkSetting → ℕ → Settings
settings_of s cid = record s.settings { mode = unwrap_or (mode_in cid s.ranges.items) s.settings.mode }

-- the ranges go from low to high, one above the other, from the least CID to the greatest
abbrev pub are_in_order : ℕ → ℕ → List CidRange → Bool
are_in_order least greatest [] = true
are_in_order least greatest (r ∷ rs) =
    nat_le least r.first && nat_le r.first r.last && nat_le r.last greatest
    && are_in_order (r.last + 1) greatest rs

-- the settings are within their limits, and the ranges in ascending order, without overlap and within the
-- greatest CID
pub record IsGoodSetting (s : LinkSetting) : Type 0 where
  pub settings_good : AreGood s.settings
  pub ranges_good : are_in_order 0 s.settings.max_cid s.ranges.items ≡ true
