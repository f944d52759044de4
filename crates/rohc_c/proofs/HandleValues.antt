-- A handle, as the machine holds it: one address. Assumes `Logic`.
use Rattle.std.proofs.Common.{◌≡◌, List, [], ◌∷◌, ◌++◌, refl, sym, subst, Option, Some, None}
use lib.Dec.{T}
use seplogic.Ra.Ura.{Ura}
use mir.Raw.{raw as bare}
use mir.Val.{Val, vptr, vstruct, vcons, vnil, of_list}
use base.Logic.{never, fst∗}
use base.Fml.{Fml}
use types.Logic.{Logic, sem}
use types.Kit.{Item, Goal, Seq, Step, step, ‵, ◌$◌, drop, fsplit, fjoin, fpick, fpack, rewrite, feq_i, feq_l}
use denote.RattleType.{RattleType, Valss}
use denote.Builtin.{RawPtr}
use denote.Memory.{lone}
use denote.RawPtr.{Ptr, block_ptr, null_ptr, ptr_val, in_a_block}
use denote.Steps.{nothing}
use denote.Struct.Struct.{within}
use denote.Struct.Owning.{shape}
use Rattle.std_alloc.specs.Box.Ownership.{box_owns}
use Rattle.libc.specs.Heap.{chunk}
use Rattle.std.specs.Prelude.{IsSome}
use Rattle.rohc_concentrator.specs.contracts.concentrator.Concentrator.{the_row as R}
use Rattle.rohc_c.specs.Held.{held}
use Rattle.rohc_c.specs.contracts.handle.Handle as handle

abbrev pub Handle : RattleType
Handle = handle.the_row

-- a struct of one field
abbrev pub one : Val → Val
one v = vstruct (vcons v vnil)

-- the block of a boxed concentrator
abbrev pub boxed : Ptr → R.Denot → Fml
boxed p k = box_owns (λ layout q. chunk layout q) R p k

-- an option that is some has a value
pub value_in : {X : Type 0} (o : Option X) → IsSome o → (x : X) × (o ≡ Some x)
value_in None some = absurd (subst T (sym some) tt)
value_in (Some x) some = (x, refl)

module _ {M : Type 1} {𝓤 : Ura M} {𝓛 : Logic 𝓤} {K : Type 0} {Γ : List (Item 𝓤)} {G : Goal 𝓤 𝓛.H} where
  -- to own a handle of a concentrator is to own its block
  pub handle_out : K → (d : Handle.Denot) (k : R.Denot) → d.concentrator ≡ Some k → (vs : List Val)
      → ((block offset : _) → d.at ≡ block_ptr block offset → vs ≡ one (vptr block offset) ∷ [] → Seq K 𝓛 (‵ (boxed (block_ptr block offset) k) ∷ Γ) G)
      → Seq K 𝓛 (‵ (Handle.own_val d vs) ∷ Γ) G
  handle_out t d k some vs go =
      fsplit t $ fpick t (λ parts. fsplit t $ feq_l t (λ whole. fsplit t $ feq_l t (λ address. drop t $
      rewrite t 0 (λ (x : Option R.Denot). ‵ (held R d.at x)) some refl $
      in_a_block t d.at (λ p. boxed p k) (fst∗ 𝓤 (never 𝓤) (sem 𝓛 (chunk (bare (lone R.mir)) null_ptr))) (λ block offset there.
      let with_address = subst (λ (ps : List Val). vs ≡ vstruct (of_list (ps ++ [])) ∷ []) address whole in
      go block offset there (subst (λ (p : Ptr). vs ≡ vstruct (of_list (ptr_val p ∷ [])) ∷ []) there with_address)))))

  -- and the other way round, of nothing too
  pub handle_in : K → (p : Ptr) (x : Option R.Denot)
      → Step K 𝓛 (‵ (Handle.own_val (record { at = p; concentrator = x }) (one (ptr_val p) ∷ [])) ∷ Γ) G (‵ (held R p x) ∷ Γ) G
  handle_in t p x = step (λ s.
      nothing t $ feq_i t (List Val) (ptr_val p ∷ []) (ptr_val p ∷ []) refl $ fjoin t $
      feq_i t (List Val) (one (ptr_val p) ∷ []) (one (ptr_val p) ∷ []) refl $ fjoin t $
      fpack t (Valss (RawPtr ∷ [])) (within (shape handle.the_type) (p, tt) (one (ptr_val p) ∷ [])) (ptr_val p ∷ [], tt) $ fjoin t $ s)
