use Rattle.std.proofs.Common.{◌++◌, ◌∷◌, [], ℕ, List, map, ap, sym, ◌∙◌, append_assoc}
use Rattle.std.proofs.lemmas.List.{map-append}
use Rattle.rohc_concentrator.specs.declared.records.LinkRecords.{LinkRecords}
use Rattle.rohc_piecewise.specs.Piecewise.{Head, head_of}
use Rattle.rohc_piecewise.specs.Noted.{head_in}
use Rattle.rohc_piecewise.proofs.saving.heads_of.Goals as goal

pub loop-records-preserved : goal.loop-records-preserved
loop-records-preserved c =
    let texts : List (ℕ × LinkRecords) → List Head = λ es. map head_of (map (λ (e : ℕ × LinkRecords). e.1.setting) es) in
    let front : List Head = map head_in c.loop-records.heads.items in
    let rest : List Head = texts c.next.new.self in
    ap (λ hs. map head_in hs ++ rest) c.in_ok-push.ensures.items
    ∙ ap (λ hs. hs ++ rest) (map-append head_in c.loop-records.heads.items (c.of.result ∷ []))
    ∙ append_assoc front (head_in c.of.result ∷ []) rest
    ∙ ap (λ h. front ++ h ∷ rest) c.of.ensures
    ∙ sym (ap (λ es. front ++ texts es) c.in-Some.ensures.steps)
    ∙ c.loop-records.invariant
