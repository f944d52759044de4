use Rattle.std.proofs.Common.{◌≡◌, ◌++◌, ℕ, List, Option, flat_map, map}
use Rattle.rohc_concentrator.specs.Tables.{settings_in_order}
use Rattle.rohc_concentrator.specs.declared.records.LinkRecords.{LinkRecords}
use Rattle.rohc_saved.specs.Form.{saved_link_of, link_text}
use Rattle.rohc_saved.specs.Output.{IsPut}
use Rattle.rohc_saved.proofs.saving.put_links.Given as goal

-- the links so far were put out
abbrev pub invariant-loop-records : goal.invariant-loop-records
invariant-loop-records g l = record {
  front : List ℕ;
  parts : front ++ flat_map link_text (map (saved_link_of l.concentrator) (map (λ (e : ℕ × LinkRecords). e.1.setting) l.records-iterator)) ≡ flat_map link_text (map (saved_link_of l.concentrator) (settings_in_order l.concentrator));
  put : (held : Option (List ℕ)) (text : List ℕ) → IsPut held (g.W.Write.contents l.initial.writer) text l.initial.out → IsPut held (g.W.Write.contents l.writer) (text ++ front) l.out;
}
