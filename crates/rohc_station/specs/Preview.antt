-- What a reload would do. Words: loss, link_of; lost_of, lost_in, lost_on; loss_of_removed, loss_of_changed;
-- Foresees; IsForetold, PreviewIsReload.
use Rattle.std.specs.Prelude.{◌≡◌, ℕ, ◌+◌, List, length, map, filter, sum_by, not, ◌&&◌, nat_le, Option, Some, None, Bool}
use Rattle.indexmap.specs.IndexMap.{keys}
use Rattle.rohc_concentrator.specs.declared.concentrator.Concentrator.{Concentrator}
use Rattle.rohc_concentrator.specs.declared.records.LinkRecords.{LinkRecords}
use Rattle.rohc_concentrator.specs.declared.setting.LinkSetting.{LinkSetting}
use Rattle.rohc_concentrator.specs.Leaving.{is_same_kind}
use Rattle.rohc_concentrator.specs.Setup.{AreFine}
use Rattle.rohc_concentrator.specs.Tables.{setting_at, identifiers_at}
use Rattle.rohc_concentrator.specs.RunsCall.{Turn}
use Rattle.rohc_links.specs.Limits.{counted}
use Rattle.rohc_links.specs.Links.{Lists}
use Rattle.rohc_station.specs.declared.preview.Loss.{Loss}
use Rattle.rohc_station.specs.declared.preview.Preview.{Preview}
use Rattle.rohc_station.specs.declared.reload.ReloadReport.{ReloadReport}
use Rattle.rohc_station.specs.declared.station.Station.{Station}
use Rattle.rohc_station.specs.Reload.{AreLinks, added, changed, removed, contexts_on, Reloads}

abbrev pub loss : (link contexts : ℕ) → Loss
loss link contexts = record { link = link; contexts = contexts }

abbrev pub link_of : LinkSetting → ℕ
link_of s = s.link

-- a CID stays by a change of its link's setting: the CID kind stays, and the CID is at most the new greatest
abbrev pub stays : (before after : LinkSetting) → ℕ → Bool
stays before after cid =
    is_same_kind before.settings.size after.settings.size && nat_le cid after.settings.max_cid

-- how many of these CIDs of a link don't survive a change of its setting; 0 if there is no such link
abbrev pub lost_of : Option LinkSetting → List ℕ → LinkSetting → ℕ
lost_of None cids s = 0
lost_of (Some before) cids s = counted 0 (length (filter (λ cid. not (stays before s cid)) cids))

abbrev pub lost_in : LinkRecords → LinkSetting → ℕ
lost_in records s = lost_of (Some records.setting) (keys records.contexts) s

abbrev pub lost_on : Concentrator → LinkSetting → ℕ
lost_on k s = lost_of (setting_at k s.link) (identifiers_at k s.link) s

abbrev pub loss_of_removed : Concentrator → ℕ → Loss
loss_of_removed k link = loss link (contexts_on k link)

abbrev pub loss_of_changed : Concentrator → LinkSetting → Loss
loss_of_changed k s = loss s.link (lost_on k s)

-- the calls of a reload of this file, and how many contexts each removes
pub record Foresees (k : Concentrator) (file : List LinkSetting) (p : Preview) : Type 0 where
  pub numbers : List ℕ
  pub are_links : AreLinks k numbers
  pub adds : p.added.items ≡ map link_of (added numbers file)
  pub changes : p.changed.items ≡ map (loss_of_changed k) (changed k file)
  pub removes : p.removed.items ≡ map (loss_of_removed k) (removed file numbers)

abbrev pub contexts_of : Loss → ℕ
contexts_of l = l.contexts

-- what is told of a reload was foretold: how many links of each kind, and all contexts that they lose
pub record IsForetold (p : Preview) (report : ReloadReport) : Type 0 where
  pub so_many_added : report.added ≡ length p.added.items
  pub so_many_changed : report.changed ≡ length p.changed.items
  pub so_many_removed : report.removed ≡ length p.removed.items
  pub so_many_gone : report.contexts_gone ≡ counted 0
      (sum_by contexts_of p.removed.items + sum_by contexts_of p.changed.items)

-- A reload that is done does what a preview of the same links foresees.
abbrev pub PreviewIsReload : Type 0
PreviewIsReload = (old new : Station) (file : Lists) (p : Preview) (report : ReloadReport)
    (calls : List Turn) → AreFine file.settings → Foresees old.concentrator file.settings p →
    Reloads old file report calls new → IsForetold p report
