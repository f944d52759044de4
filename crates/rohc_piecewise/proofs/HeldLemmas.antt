-- The record of a CID under a head, by the tables.
use Rattle.std.proofs.Common.{◌≡◌, ℕ, Bool, true, false, if◌then◌else◌, Option, Some, None, refl, ap, ◌∙◌, nat_eq, Bor}
use Rattle.std.specs.Option.{option_map, option_copied}
use Rattle.std.specs.HashMap.{get}
use Rattle.rohc_context.specs.declared.record.Context.{Context}
use Rattle.rohc_context.specs.Record.{record_of}
use Rattle.rohc_concentrator.specs.declared.concentrator.Concentrator.{Concentrator}
use Rattle.rohc_concentrator.specs.declared.records.LinkRecords.{LinkRecords}
use Rattle.rohc_concentrator.specs.Tables.{setting_at, record_in, record_at, IsLink}
use Rattle.rohc_saved.specs.Restoring.{is_same}
use Rattle.rohc_piecewise.specs.Piecewise.{Head, if_kind, held_under}

copied : (found : Option (Bor Context)) → option_map (λ (c : Bor Context). record_of c.now) found ≡ option_map record_of (option_copied found)
copied None = refl
copied (Some c) = refl

pub seen_as : (found : Option (Bor Context)) (cid : ℕ) (r : LinkRecords) → option_copied found ≡ get nat_eq r.contexts cid → option_map (λ (c : Bor Context). record_of c.now) found ≡ record_in r cid
seen_as found cid r e = copied found ∙ ap (option_map record_of) e

there : (k : Concentrator) (head : Head) (cid : ℕ) (r : LinkRecords) → IsLink k head.number r → held_under k head cid ≡ if_kind (Some r.setting) head.size (record_in r cid)
there k head cid r is = ap (λ s. if_kind s head.size (record_at k head.number cid)) is.setting ∙ ap (λ found. if_kind (Some r.setting) head.size found) (is.records cid)

pub held_here : (k : Concentrator) (head : Head) (cid : ℕ) (r : LinkRecords) → IsLink k head.number r → is_same r.setting.settings.size head.size ≡ true → held_under k head cid ≡ record_in r cid
held_here k head cid r is same = there k head cid r is ∙ ap (λ (b : Bool). if b then record_in r cid else None) same

pub held_other : (k : Concentrator) (head : Head) (cid : ℕ) (r : LinkRecords) → IsLink k head.number r → is_same r.setting.settings.size head.size ≡ false → held_under k head cid ≡ None
held_other k head cid r is same = there k head cid r is ∙ ap (λ (b : Bool). if b then record_in r cid else None) same

pub held_none : (k : Concentrator) (head : Head) (cid : ℕ) → setting_at k head.number ≡ None → held_under k head cid ≡ None
held_none k head cid e = ap (λ s. if_kind s head.size (record_at k head.number cid)) e
