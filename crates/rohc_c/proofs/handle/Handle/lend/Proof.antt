-- `lend` lends the concentrator, and the handle follows it. Assumes `Logic`.
use Rattle.std.proofs.Common.{◌≡◌, ℕ, List, [], ◌∷◌, refl, sym, Some}
use seplogic.Ra.Ura.{Ura}
use base.Fraction.{full_share}
use mir.Raw.{raw as bare}
use mir.Syntax.{named}
use mir.Val.{Val, vptr}
use base.Logic.{SProp, ent, sep}
use base.Fml.{Lft, GName, Share, Fml, ftrue, flft, fsep}
use types.Logic.{Logic, sem}
use types.Kit.{‵, ◌⊛◌, some, at_ret, ◌$◌, ◌∵◌, !, qed, by, move, keep, use1, drop, split, join, pick, fsplit, fsplit3, fjoin, suffices, frame, done, raw, later, await, group, fpack, rewrite}
use types.Part.{whole, sub, look_in}
use types.Run.{stop, fld, load, of_opd, first, blocks, exec, returns, enter, addr}
use types.ByLocal.{alloc_all, pass_all, free_all, look_at, get, through, sets, env, sets_last}
use contract.Monad.{fact}
use contract.Running.{tables}
use denote.RattleType.{owns}
use denote.Memory.{part_at, mem, cell_at, part_of, lone}
use denote.RawPtr.{block_ptr}
use denote.Ref.{MutRef, mut_vals, mut_Tells}
use denote.Signature.{plain, types_at, mut_ref_to}
use denote.Steps.{nothing, heard, opens}
use denote.Triple.Walked.{says, Stays, stay_dropped, walk_of, ends_at, Goes-spent_ref}
use denote.Exit.{no}
use denote.Follow.{follows, lends_Part}
use Rattle.std.specs.Prelude.{IsSome}
use Rattle.std.proofs.raw_atomic.Walks.{proved}
use Rattle.core.proofs.alloc.Shapes.{after}
use Rattle.libc.specs.Heap.{chunk}
use Rattle.rohc_concentrator.specs.contracts.concentrator.Concentrator.{the_row as R}
use Rattle.rohc_c.specs.Lending.{holding}
use Rattle.rohc_c.proofs.HandleValues.{Handle, one, value_in, handle_in, handle_out}
use Rattle.rohc_c.specs.contracts.handle.Handle.lend.{ended, clauses}
use Rattle.rohc_c.specs.contracts.handle.Handle.lend.Key.{name as #self}
use Rattle.rohc_c.proofs.handle.Handle.lend.Statement.{statement}
use Rattle.rohc_c.proofs.handle.Handle.lend.Code as code

module _ {M : Type 1} {𝓤 : Ura M} (𝓛 : Logic 𝓤) (rb ro b o : ℕ) (h : Handle.Denot) (at_b : h.at ≡ block_ptr b o) where
  -- all of the handle but its concentrator
  abbrev Rest : Fml
  Rest = fsep (chunk (bare (lone R.mir)) (block_ptr b o)) (cell_at full_share Handle.mir (one (vptr b o) ∷ []) rb ro)

  back : (w : R.Denot) → ent 𝓤 (sep 𝓤 (sem 𝓛 ((mem R).own_at w b o)) (sem 𝓛 Rest)) (sem 𝓛 ((mem Handle).own_at (holding h w) rb ro))
  unfolding part_of
  back w =
      qed 𝓛 (‵ (part_at R full_share w b o) ∷ ‵ Rest ∷ []) ∵ move ! (1 ∷ []) $ fsplit ! $ move ! (2 ∷ 0 ∷ []) $ fjoin ! $
      handle_in ! (block_ptr b o) (Some w) $
      rewrite ! 0 (λ p. ‵ (Handle.own_val (record { at = p; concentrator = Some w }) (one (vptr b o) ∷ []))) (sym at_b) refl $
      move ! (1 ∷ 0 ∷ []) $ fjoin ! $
      fpack ! (List Val) (λ us. fsep (cell_at full_share Handle.mir us rb ro) (Handle.own_val (holding h w) us)) (one (vptr b o) ∷ []) $ done !

pub lend_spec : {M : Type 1} → statement M
lend_spec 𝓤 𝓛 𝓜 𝓡 wired =
    let 𝓣 = tables 𝓤 𝓛.H 𝓜 𝓡 𝓡.env in
    let c = clauses 𝓛 𝓜.mem 𝓡.returns in
    let fn = code.function in
    let hs : Stays ended.signature.params ended.kept = (stay_dropped (mut_ref_to (0 ∷ []) tt (plain (λ _. Handle))) no, tt) in
    proved 𝓛 ended hs c 𝓜 𝓡 (Goes-spent_ref 𝓛 1 (0 ∷ []) tt (plain (λ _. Handle)), tt) #self fn (code.unfolded 𝓤 𝓛.H 𝓜 𝓡 wired)
    (λ κs. (mut_vals, tt)) (λ κs. (mut_Tells (named 0) κs.0 Handle, tt)) (λ κs qs bounds a gh are.
    let κ : Lft = κs.0 in let q : Share = qs.0 in let rb : ℕ = a.0.ref_ptr.0 in let ro : ℕ = a.0.ref_ptr.1 in let γ : GName = a.0.ghost_name in let h : Handle.Denot = a.0.now in
    let y : (walk_of 𝓛 ended hs c).Ghost = ((κs, qs, bounds, a, (vptr rb ro ∷ [], tt)), gh) in let Post : Val → SProp 𝓤 = (walk_of 𝓛 ended hs c).post y in
    qed 𝓛 (((‵ (flft κ q) ⊛ ‵ ftrue) ⊛ ‵ (owns (types_at ended.signature.params κs) a y.0.4)) ∷ raw (fact 𝓤 (IsSome h.concentrator)) ∷ []) ∵
    move ! (1 ∷ []) $ heard ! (IsSome h.concentrator) (λ is. let found = value_in h.concentrator is in let k = found.0 in
    split ! $
    enter ! 𝓣.C 𝓣.Λ fn (vptr rb ro ∷ []) Post $ alloc_all ! (λ l. pass_all ! refl ((tt, tt), tt) $ let En = env fn.locals l in
    move ! (1 ∷ []) $ fsplit ! $ fsplit3 ! $ drop ! $ move ! (3 ∷ []) $ split ! $ move ! (2 ∷ 3 ∷ 0 ∷ []) $
    opens ! tt Handle {h = h} rb ro (λ vs. move ! (1 ∷ []) $ handle_out ! h k found.1 vs (λ b o at_b are_one. fsplit ! $
    rewrite ! 2 (λ (us : List Val). ‵ (cell_at full_share Handle.mir us rb ro)) are_one refl $
    first ! $ blocks ! $
    sets ! (of_opd ! (load ! (through ! refl (fld ! refl (stop !))) (look_in ! 2 (sub ! 0 refl (whole !))))) refl (tt, tt) $
    sets ! (of_opd ! (get ! refl)) refl (tt, tt) $
    sets_last ! (addr ! (through ! refl (stop !))) refl (tt, tt) $
    exec ! 𝓣.C 𝓣.Λ En (after 1 fn.body) (at_ret En Post) $
    sets ! (of_opd ! (get ! refl)) refl (tt, tt) $
    move ! (1 ∷ 2 ∷ []) $ fjoin ! $ move ! (2 ∷ 3 ∷ 4 ∷ 1 ∷ 0 ∷ []) $ group ! 5 $
    use1 𝓛 (later (some (λ (γ' : GName). ‵ ((MutRef (named 0) κ R).own_val (record { ref_ptr = (b, o); ghost_name = γ'; now = k }) (vptr b o ∷ [])) ⊛ ‵ (flft κ q) ⊛ ‵ (follows Handle R γ γ' (holding h)))))
    (lends_Part 𝓛 Handle R (holding h) (named 0) κ q rb ro b o γ (sem 𝓛 (Rest 𝓛 rb ro b o h at_b)) (back 𝓛 rb ro b o h at_b) (Handle.coded.code h) (Handle.coded.code h) k) $ await ! tt $ pick ! (λ γ'.
    returns ! (look_at ! 0 refl) $ free_all ! refl $ keep ! (0 ∷ []) $ types.Kit.split3 ! $
    suffices ! _ (ends_at 𝓛 ended hs c y (vptr b o) (record { ref_ptr = (b, o); ghost_name = γ'; now = k }) (tt, tt) (tt, tt)) $
    nothing ! $ nothing ! $ fjoin ! $ join ! $ nothing ! $ move ! (2 ∷ 0 ∷ []) $ join ! $ join ! $ frame ! $ says ! (sym found.1) $ done !))))))
