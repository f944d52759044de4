-- `none` makes a handle of nothing.
use Rattle.std.proofs.Common.{◌≡◌, [], ◌∷◌, refl, lit<, None}
use mir.Val.{Val}
use base.Logic.{SProp, emp}
use base.Fml.{ftrue}
use contract.Monad.{fact, fact_i}
use contract.Running.{tables}
use types.Kit.{‵, raw, ◌⊛◌, ◌$◌, ◌∵◌, !, qed, by, move, keep, split, use0}
use types.Run.{no_more, and_then, lit, returns, enter}
use types.ByLocal.{alloc_all, pass_all, free_all, look_at, sets}
use types.Part.{agg}
use denote.RawPtr.{null_ptr, ptr_val}
use denote.Steps.{nothing}
use denote.Triple.Entry.{alive}
use denote.Triple.Walked.{Stays, walk_of}
use Rattle.std.proofs.raw_atomic.Walks.{proved_at, leaves}
use Rattle.rohc_c.proofs.HandleValues.{one, handle_in}
use Rattle.rohc_c.specs.contracts.handle.Handle.none.{ended, clauses}
use Rattle.rohc_c.specs.contracts.handle.Handle.none.Key.{name as #self}
use Rattle.rohc_c.proofs.handle.Handle.none.Statement.{statement}
use Rattle.rohc_c.proofs.handle.Handle.none.Code as code

pub none_spec : {M : Type 1} → statement M
none_spec 𝓤 𝓛 𝓜 𝓡 wired =
    let 𝓣 = tables 𝓤 𝓛.H 𝓜 𝓡 𝓡.env in
    let c = clauses 𝓛 𝓜.mem 𝓡.returns in
    let stays : Stays ended.signature.params ended.kept = tt in
    proved_at 𝓛 ended stays c 𝓜 𝓡 tt #self code.function (code.unfolded 𝓤 𝓛.H 𝓜 𝓡 wired) (λ z are.
    let Post : Val → SProp 𝓤 = (walk_of 𝓛 ended stays c).post z in
    qed 𝓛 ((raw (alive 𝓛 ended.signature z.0.0 z.0.1) ⊛ ‵ ftrue) ∷ ‵ ftrue ∷ []) ∵ split ! $ keep ! (0 ∷ []) $
    enter ! 𝓣.C 𝓣.Λ code.function [] Post $ alloc_all ! (λ l. pass_all ! refl tt $
    sets ! (agg ! (and_then ! (lit ! tt) (no_more !))) refl (tt, (record { fits = lit< tt }, tt)) $
    returns ! (look_at ! 0 refl) $ free_all ! refl $ nothing ! $ handle_in ! null_ptr None $
    use0 𝓛 (raw (fact 𝓤 (None ≡ None))) (fact_i 𝓤 (None ≡ None) (emp 𝓤) refl) $ nothing ! $
    move ! (3 ∷ 0 ∷ 2 ∷ 1 ∷ []) $ by ! (leaves 𝓛 ended stays c z (one (ptr_val null_ptr)) (record { at = null_ptr; concentrator = None }) tt tt)))
