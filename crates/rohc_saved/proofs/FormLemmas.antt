-- What is saved of the contexts of a link.
use Rattle.std.proofs.Common.{◌≡◌, ℕ, List, [], ◌∷◌, ◌++◌, map, filter_map, Option, Some, None, refl, sym, ap, subst, ◌∙◌, nat_eq, arith, append_assoc, unwrap_or}
use Rattle.std.specs.Option.{option_map}
use Rattle.std.specs.List.{IsDistinct}
use Rattle.std.specs.Prelude.{Contains}
use Rattle.std.specs.Cmp.{nat_eq_equiv}
use Rattle.std.specs.Map.{keys_of, lookup}
use Rattle.std.specs.HashMap.{get, keys, IsUnique}
use Rattle.std.proofs.lemmas.List.Elements.{Contains-get_or, Contains-append_right}
use Rattle.std.proofs.lemmas.Map.Views.{lookup-from_Contains}
use Rattle.rohc_context.specs.declared.record.Context.{Context}
use Rattle.rohc_context.specs.Record.{Record, record_of}
use Rattle.rohc_concentrator.specs.declared.concentrator.Concentrator.{Concentrator}
use Rattle.rohc_concentrator.specs.declared.records.LinkRecords.{LinkRecords}
use Rattle.rohc_concentrator.specs.declared.setting.LinkSetting.{LinkSetting}
use Rattle.rohc_concentrator.specs.Tables.{setting_at, record_in, record_at, identifiers_at, IsLink}
use Rattle.rohc_saved.specs.Form.{contexts_of, contexts_in}

abbrev pair_of : ℕ → Option Record → Option (ℕ × Record)
pair_of cid found = option_map (λ r. (cid, r)) found

-- the entries of a map with unique keys, each looked up by its key
listed : (whole before es : List (ℕ × Context)) → whole ≡ before ++ es → IsDistinct nat_eq (keys_of whole)
    → filter_map (λ cid. pair_of cid (option_map record_of (lookup (nat_eq cid) whole))) (keys_of es) ≡ map (λ (e : ℕ × Context). (e.0, record_of e.1)) es
listed whole before [] is unique = refl
listed whole before (e ∷ es) is unique =
    let member : Contains whole e = subst (λ es. Contains es e) (sym is) (Contains-append_right before (e ∷ es) e (Contains-get_or (e ∷ es) 0 e (omega arith))) in
    let found : lookup (nat_eq e.0) whole ≡ Some e.1 = lookup-from_Contains nat_eq_equiv e.0 e.1 whole unique member in
    let rest = listed whole (before ++ e ∷ []) es (is ∙ sym (append_assoc before (e ∷ []) es)) unique in
    rw found (ap (λ xs. (e.0, record_of e.1) ∷ xs) rest)

-- what is saved of a link that is there is what its map holds
pub contexts_are : (k : Concentrator) (link : ℕ) (r : LinkRecords) → IsLink k link r → IsUnique nat_eq r.contexts → contexts_of k link ≡ contexts_in r.contexts
contexts_are k link r is unique =
    ap (λ (at : ℕ → Option Record). filter_map (λ cid. pair_of cid (at cid)) (identifiers_at k link)) (λ i cid. is.records cid i)
    ∙ ap (filter_map (λ cid. pair_of cid (record_in r cid))) is.identifiers
    ∙ listed r.contexts.entries [] r.contexts.entries refl unique

no_cids : (found : Option LinkRecords) → option_map (λ (r : LinkRecords). r.setting) found ≡ None → unwrap_or (option_map (λ (r : LinkRecords). keys r.contexts) found) [] ≡ []
no_cids None e = refl
no_cids (Some r) e = absurd (let f : ◌≡◌ {A = Option LinkSetting} (Some r.setting) None = e in cc)

-- a link that isn't there has no contexts
pub contexts_none : (k : Concentrator) (link : ℕ) → setting_at k link ≡ None → contexts_of k link ≡ []
contexts_none k link e = ap (filter_map (λ cid. pair_of cid (record_at k link cid))) (no_cids (get nat_eq k.links link) e)

-- one more part stands before the others
pub parts_more : {A : Type 0} (front one more rest whole : List A) → rest ≡ one ++ more → front ++ rest ≡ whole → (front ++ one) ++ more ≡ whole
parts_more front one more rest whole cut is = append_assoc front one more ∙ ap (λ rest. front ++ rest) (sym cut) ∙ is
