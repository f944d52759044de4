-- Links that are taken anew. Words: AreLinks of a concentrator; removed, changed, added; removing, changing,
-- adding, refused_add; reload_turns; Tells; TakesFile, Reloads; IsReloadFault; StopsIn, IsPartly,
-- ReloadStays.
use Rattle.std.specs.Prelude.{◌≡◌, ◌⊎◌, ℕ, ◌+◌, ◌-◌, List, [], ◌∷◌, ◌++◌, length, map, filter, sum_by, not, nat_eq, Bool, false, Option, Some, None}
use Rattle.std.specs.List.{IsDistinct, list_any}
use Rattle.rohc_concentrator.specs.declared.concentrator.Concentrator.{Concentrator}
use Rattle.rohc_concentrator.specs.declared.setting.LinkSetting.{LinkSetting}
use Rattle.rohc_concentrator.specs.declared.links.AddFault.TheVariants as adds
use Rattle.rohc_concentrator.specs.Tables.{setting_at, identifiers_at, settings_in_order}
use Rattle.rohc_concentrator.specs.Setup.{names_link, entry_of, IsFault, AreFine}
use Rattle.rohc_concentrator.specs.Calls.{AddLink, RemoveLink, ChangeLink, Done, NotAdded}
use Rattle.rohc_concentrator.specs.RunsCall.{Turn, Runs}
use Rattle.rohc_links.specs.Links.{Lists}
use Rattle.rohc_links.specs.Limits.{counted}
use Rattle.rohc_station.specs.declared.reload.ReloadReport.{ReloadReport}
use Rattle.rohc_station.specs.declared.reload.ReloadFault.{ReloadFault}
use Rattle.rohc_station.specs.declared.reload.ReloadFault.TheVariants.{Settings, NoMemory}
use Rattle.rohc_station.specs.declared.station.Station.{Station}
use Rattle.rohc_station.specs.Same.{is_same_setting}
use Rattle.rohc_station.specs.Counting.{KeepsCounts}
use Rattle.rohc_station.specs.ByCall.{KeepsStanding}
use Rattle.rohc_station.specs.Taking.{counters_at, by_call_at}

-- the number is in the list
abbrev pub is_among : ℕ → List ℕ → Bool
is_among link numbers = list_any (nat_eq link) numbers

-- The numbers of a concentrator's links, in their order: each number's link has the setting at its place, no
-- number is there twice, and no other number has a link.
pub record AreLinks (k : Concentrator) (numbers : List ℕ) : Type 0 where
  pub in_order : map (setting_at k) numbers ≡ map (λ s. Some s) (settings_in_order k)
  pub apart : IsDistinct nat_eq numbers
  pub whole : (l : ℕ) → is_among l numbers ≡ false → setting_at k l ≡ None

-- the links that a file leaves out
abbrev pub removed : List LinkSetting → List ℕ → List ℕ
removed file numbers = filter (λ l. not (names_link l file)) numbers

-- a link that is there has another setting
abbrev pub differs : Option LinkSetting → LinkSetting → Bool
differs None s = false
differs (Some before) s = not (is_same_setting before s)

-- the settings of a file that differ from those of their links
abbrev pub changed : Concentrator → List LinkSetting → List LinkSetting
changed k file = filter (λ (s : LinkSetting). differs (setting_at k s.link) s) file

-- the settings of a file whose links aren't among these
abbrev pub added : List ℕ → List LinkSetting → List LinkSetting
added numbers file = filter (λ (s : LinkSetting). not (is_among s.link numbers)) file

-- calls that are done
abbrev pub removing : ℕ → Turn
removing l = record { link = l; call = RemoveLink; answer = Done }

abbrev pub changing : LinkSetting → Turn
changing s = record { link = s.link; call = ChangeLink s; answer = Done }

abbrev pub adding : LinkSetting → Turn
adding s = record { link = s.link; call = AddLink s; answer = Done }

-- a link isn't added for want of memory
abbrev pub refused_add : LinkSetting → Turn
refused_add s = record { link = s.link; call = AddLink s; answer = NotAdded adds.NoMemory }

-- The calls of a reload: the links that the file leaves out are removed, then settings are changed, and then
-- new links are added.
abbrev pub reload_turns : Concentrator → List ℕ → List LinkSetting → List Turn
reload_turns k numbers file =
    map removing (removed file numbers) ++ (map changing (changed k file) ++ map adding (added numbers file))

-- how many contexts a link has, and how many of them are gone
abbrev pub contexts_on : Concentrator → ℕ → ℕ
contexts_on k link = length (identifiers_at k link)

abbrev pub gone_on : Concentrator → Concentrator → LinkSetting → ℕ
gone_on old new s = contexts_on old s.link - contexts_on new s.link

-- what is told of a reload: how many calls of each kind, and how many contexts went
pub record Tells (old : Concentrator) (numbers : List ℕ) (file : List LinkSetting) (report : ReloadReport)
    (new : Concentrator) : Type 0 where
  pub so_many_added : report.added ≡ length (added numbers file)
  pub so_many_changed : report.changed ≡ length (changed old file)
  pub so_many_removed : report.removed ≡ length (removed file numbers)
  pub so_many_gone : report.contexts_gone ≡ counted 0
      (sum_by (contexts_on old) (removed file numbers) + sum_by (gone_on old new) (changed old file))

-- Beside the concentrator: the ports are those of the file, and a link that stays keeps its counts, and so do
-- the calls whose contexts stand. A link that was named before it was there stays in the list of those.
pub record TakesFile (old : Station) (file : Lists) (new : Station) : Type 0 where
  pub counts : (l : ℕ) → KeepsCounts (counters_at old l) (entry_of l file.settings) (counters_at new l)
  pub by_call : KeepsStanding new.concentrator (by_call_at old) (by_call_at new)
  pub totals : new.totals ≡ old.totals
  pub unknown_links : new.unknown_links ≡ old.unknown_links
  pub links : new.links ≡ file

-- the links of a file are taken: all its calls are done, in their order
pub record Reloads (old : Station) (file : Lists) (report : ReloadReport) (calls : List Turn)
    (new : Station) : Type 0 where
  pub numbers : List ℕ
  pub are_links : AreLinks old.concentrator numbers
  pub these : calls ≡ reload_turns old.concentrator numbers file.settings
  pub runs : Runs old.concentrator calls new.concentrator
  pub tells : Tells old.concentrator numbers file.settings report new.concentrator
  pub takes : TakesFile old file new

-- the settings have this fault; or they are fine, and there is no memory
abbrev pub IsReloadFault : List LinkSetting → ReloadFault → Type 0
IsReloadFault settings (Settings fault) = IsFault settings fault
IsReloadFault settings NoMemory = AreFine settings

-- the first of these calls, and then none, or an add that found no memory
abbrev pub StopsIn : List Turn → List Turn → Type 0
StopsIn turns calls = (front behind : List Turn) × (turns ≡ front ++ behind) × ((calls ≡ front)
    ⊎ ((s : LinkSetting) × (rest : List Turn) × (behind ≡ adding s ∷ rest)
    × (calls ≡ front ++ refused_add s ∷ [])))

-- the links of a file are taken, but for want of memory the calls stop
pub record IsPartly (old : Station) (file : Lists) (calls : List Turn) (new : Station) : Type 0 where
  pub numbers : List ℕ
  pub are_links : AreLinks old.concentrator numbers
  pub stops : StopsIn (reload_turns old.concentrator numbers file.settings) calls
  pub runs : Runs old.concentrator calls new.concentrator
  pub takes : TakesFile old file new

-- at a fault of the settings all is as it was; without memory too, or the calls stop
abbrev pub ReloadStays : Station → Lists → ReloadFault → List Turn → Station → Type 0
ReloadStays old file (Settings fault) calls new = (new ≡ old) × (calls ≡ [])
ReloadStays old file NoMemory calls new = ((new ≡ old) × (calls ≡ [])) ⊎ IsPartly old file calls new
