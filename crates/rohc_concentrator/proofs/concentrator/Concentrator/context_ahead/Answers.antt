use Rattle.std.proofs.Common.{◌≡◌, ◌∙◌, [], Option, Some, ap, sym, slice_get, nat_eq, unwrap_or}
use Rattle.std.specs.HashMap.{get, keys}
use Rattle.std.specs.Option.{option_map}
use Rattle.rohc_concentrator.specs.declared.records.LinkRecords.{LinkRecords}
use Rattle.rohc_concentrator.specs.Bears.{header_in, cid_in, borne}
use Rattle.rohc_concentrator.specs.Tables.{setting_at, identifiers_at}
use Rattle.rohc_concentrator.proofs.PlaceLemmas.{lent_at, key_stands}
use Rattle.rohc_concentrator.proofs.concentrator.Concentrator.context_ahead.Goals as goal

pub returns-clause-place : goal.returns-clause-place
returns-clause-place c =
    let k = c.args.self.now in
    let link = c.args.link in
    let octets = c.args.octets.now in
    let records = c.in_ok-records.records.now in
    let cid = c.in_ok-forward.forward.cid in
    let place = c.in_ok-place-2.place in
    let found : get nat_eq k.links link ≡ Some records =
    (lent_at k.links c.in_ok-place.place link c.in_ok-place.ensures.there c.in_ok-records.field-0-0.now records (sym c.in_ok-records.ensures.entry)).1 in
    let here : identifiers_at k link ≡ keys records.contexts = ap (λ (f : Option LinkRecords). unwrap_or (option_map (λ (r : LinkRecords). keys r.contexts) f) []) found in
    let setting : setting_at k link ≡ Some records.setting = ap (option_map (λ (r : LinkRecords). r.setting)) found in
    let bears : borne (Some records.setting) octets ≡ Some cid = ap (λ p. cid_in (header_in p)) c.in_ok-forward.ensures.parts in
    ap (λ l. slice_get l place) here ∙ key_stands records.contexts place cid c.in_ok-place-2.ensures.there ∙ sym (ap (λ s. borne s octets) setting ∙ bears)
