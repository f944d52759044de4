-- `open` recalls the type behind the address.
use Rattle.std.proofs.Common.{◌≡◌, List, [], ◌∷◌, ◌++◌, refl, sym, subst, Some}
use mir.Val.{Val, vptr}
use mir.Syntax.{impl, tnil, dnil}
use base.Logic.{SProp, ent, emp, id⊢}
use prog.Wp.{WpFn}
use contract.Monad.{fact, fact_i}
use contract.Running.{tables}
use types.Kit.{‵, raw, ◌⊛◌, ◌$◌, ◌∵◌, !, qed, by, move, keep, split, fsplit, fjoin, suffices, use0}
use types.Run.{stop, fld, of_opd, no_more, and_then, returns, enter}
use types.ByLocal.{alloc_all, pass_all, free_all, look_at, get, get_in, sets}
use types.Part.{agg, sub, whole}
use denote.Exit.{yes}
use denote.RattleType.{owns}
use denote.Signature.{types_at, plain}
use denote.RawPtr.{block_ptr}
use denote.Steps.{nothing, heard}
use denote.Triple.Entry.{alive}
use denote.Triple.Walked.{Stays, stay_dropped, walk_of}
use Rattle.core.proofs.alloc.Calls.{Goes-blank, handle_tells}
use Rattle.std.proofs.raw_atomic.Walks.{proved_at, leaves}
use Rattle.std.specs.Prelude.{IsSome}
use Rattle.std.specs.contracts.alloc.Global as global
use Rattle.std.specs.contracts.impls.GlobalAllocator.TheImpl.{ghosts}
use Rattle.std.proofs.alloc.Global.TheLaws as global_laws
use Rattle.rohc_concentrator.specs.contracts.concentrator.Concentrator.{the_row as R}
use Rattle.rohc_c.proofs.LooseValues.{pair, pair_good, loose_in}
use Rattle.rohc_c.proofs.HandleValues.{Handle, one, value_in, handle_out}
use Rattle.rohc_c.specs.contracts.handle.Handle.open.{ended, clauses}
use Rattle.rohc_c.specs.contracts.handle.Handle.open.Key.{name as #self}
use Rattle.rohc_c.proofs.handle.Handle.open.Statement.{statement}
use Rattle.rohc_c.proofs.handle.Handle.open.Code as code

pub open_spec : {M : Type 1} → statement M
open_spec 𝓤 𝓛 𝓜 𝓡 wired =
    let 𝓣 = tables 𝓤 𝓛.H 𝓜 𝓡 𝓡.env in
    let c = clauses 𝓛 𝓜.mem 𝓡.returns in
    let A = global.the_row in
    let laws = global_laws.the_row_laws in
    let stays : Stays ended.signature.params ended.kept = (stay_dropped (plain (λ _. Handle)) yes, (stay_dropped (plain (λ _. A)) yes, tt)) in
    proved_at 𝓛 ended stays c 𝓜 𝓡 (Goes-blank 𝓛 0 (plain (λ _. Handle)) yes (λ κs x f. tt), (Goes-blank 𝓛 0 (plain (λ _. A)) yes (λ κs x f. tt), tt)) #self code.function (code.unfolded 𝓤 𝓛.H 𝓜 𝓡 wired) (λ z are.
    let given = z.0.3.0 in
    let alloc = z.0.3.1.0 in
    let Post : Val → SProp 𝓤 = (walk_of 𝓛 ended stays c).post z in
    let Run : List Val → SProp 𝓤 = λ ws. WpFn 𝓤 𝓛.H 𝓣.C 𝓣.Λ code.function ws Post in
    qed 𝓛 ((raw (alive 𝓛 ended.signature z.0.0 z.0.1) ⊛ ‵ (owns (types_at ended.signature.params z.0.0) z.0.3 z.0.4)) ∷ raw (fact 𝓤 (IsSome given.concentrator)) ∷ []) ∵
    move ! (1 ∷ []) $ heard ! (IsSome given.concentrator) (λ some. let found = value_in given.concentrator some in let k = found.0 in
    split ! $ move ! (1 ∷ []) $ fsplit ! $ move ! (1 ∷ []) $ fsplit ! $
    handle_tells (record { row = A; laws = laws; g = ghosts; d = impl [] tnil dnil; drops = impl [] tnil dnil }) ! alloc z.0.4.1.0 (λ a is fits. move ! (2 ∷ []) $
    handle_out ! given k found.1 z.0.4.0 (λ block offset there are_one. let us : List Val = one (vptr block offset) ∷ a ∷ [] in
    -- [the box; the allocator; nothing; the tokens]
    keep ! (0 ∷ 1 ∷ 3 ∷ []) $
    suffices ! (Run us) (subst (λ (xs : List Val). ent 𝓤 (Run us) (Run xs)) (sym (λ i. are_one i ++ (is i ++ []))) (id⊢ 𝓤 (Run us))) $
    enter ! 𝓣.C 𝓣.Λ code.function us Post $ alloc_all ! (λ l. pass_all ! refl ((tt, (tt, tt)), (fits, tt)) $
    sets ! (of_opd ! (get_in ! (fld ! refl (stop !)) (sub ! 0 refl (whole !)))) refl (tt, tt) $ sets ! (of_opd ! (get ! refl)) refl (tt, tt) $
    sets ! (agg ! (and_then ! (get ! refl) (and_then ! (get ! refl) (no_more !)))) refl (pair_good R A laws ghosts block offset a fits) $
    returns ! (look_at ! 0 refl) $ free_all ! refl $ loose_in R A laws ghosts ! block offset a alloc k $
    use0 𝓛 (raw (fact 𝓤 (Some k ≡ given.concentrator))) (fact_i 𝓤 (Some k ≡ given.concentrator) (emp 𝓤) (sym found.1)) $
    nothing ! $ nothing ! $ fjoin ! $ nothing ! $ fjoin ! $ move ! (3 ∷ 0 ∷ 2 ∷ 1 ∷ []) $
    by ! (leaves 𝓛 ended stays c z (pair (vptr block offset) a) (record { at = block_ptr block offset; alloc = alloc; value = k }) (tt, (tt, tt)) (tt, (tt, tt))))))))
