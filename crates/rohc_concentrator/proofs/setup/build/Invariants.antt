use Rattle.std.specs.Option.{option_map, option_and_then}
use Rattle.std.proofs.Common.{◌≡◌, ℕ, take, map, None, nat_eq}
use Rattle.std.specs.HashMap.{get}
use Rattle.rohc_concentrator.specs.declared.records.LinkRecords.{LinkRecords}
use Rattle.rohc_concentrator.specs.Tables.{record_in}
use Rattle.rohc_concentrator.specs.Setup.{entry_of}
use Rattle.rohc_concentrator.proofs.setup.build.Given as goal

-- the table has the settings so far, in their order, and no record
abbrev pub invariant-loop-setting : goal.invariant-loop-setting
invariant-loop-setting l = record {
  in_order : map (λ (e : ℕ × LinkRecords). e.1.setting) l.links.entries ≡ take l.setting-index l.settings;
  each : (link : ℕ) → option_map (λ (r : LinkRecords). r.setting) (get nat_eq l.links link) ≡ entry_of link (take l.setting-index l.settings);
  empty : (link cid : ℕ) → option_and_then (λ (t : LinkRecords). record_in t cid) (get nat_eq l.links link) ≡ None;
}
