-- Sound concentrators: settings and CIDs are in order. Words: IsInOrder; CallsKeepSound.
use Rattle.std.specs.Prelude.{◌≡◌, ℕ, ◌<◌, ◌≤◌, List, length, nat_eq, All, Some}
use Rattle.std.specs.List.{AllByRecursion, IsDistinct}
use Rattle.rohc_concentrator.specs.declared.concentrator.Concentrator.{Concentrator}
use Rattle.rohc_concentrator.specs.declared.setting.LinkSetting.{LinkSetting}
use Rattle.rohc_concentrator.specs.Setup.{AreSound, entry_of}
use Rattle.rohc_concentrator.specs.Tables.{setting_at, identifiers_at, settings_in_order}
use Rattle.rohc_concentrator.specs.RunsCall.{Turn, Runs}
use Rattle.rohc_concentrator.specs.CallLaws.{IsFitTurn}

-- There are at most 256 settings, each for the link of its number, which has 16 bits. The CIDs of a link that
-- have a record differ, and none is above its max_cid.
pub record IsInOrder (k : Concentrator) : Type 0 where
  pub few : length (settings_in_order k) ≤ 256
  pub settings : AreSound (settings_in_order k)
  pub each : (link : ℕ) → setting_at k link ≡ entry_of link (settings_in_order k)
  pub numbers : All (λ (s : LinkSetting). s.link < 65536) (settings_in_order k)
  pub apart : (link : ℕ) → IsDistinct nat_eq (identifiers_at k link)
  pub within : (link : ℕ) (s : LinkSetting) → setting_at k link ≡ Some s →
      All (λ cid. cid ≤ s.settings.max_cid) (identifiers_at k link)

-- Calls keep a sound concentrator sound.
abbrev pub CallsKeepSound : Type 0
CallsKeepSound = (old new : Concentrator) (turns : List Turn) → AllByRecursion IsFitTurn turns →
    Runs old turns new → IsInOrder old → IsInOrder new
