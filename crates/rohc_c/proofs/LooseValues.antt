-- A box taken apart, as the machine holds it: the address of its block, and the allocator. Assumes `Logic`.
use Rattle.std.proofs.Common.{◌≡◌, ℕ, List, [], ◌∷◌, ◌++◌, refl, subst}
use mathlib.Core.Bool.{true, ◌&&◌}
use lib.Dec.{T}
use seplogic.Ra.Ura.{Ura}
use mir.Syntax.{impl, tnil, dnil}
use mir.Raw.{raw as bare}
use mir.Val.{Val, vptr, vstruct, vcons, vnil, of_list, has_ty, WT}
use base.Logic.{never, fst∗}
use types.Logic.{Logic, sem}
use types.Kit.{Item, Goal, Seq, Step, step, ‵, ◌$◌, move, drop, fsplit, fjoin, fpick, fpack, feq_i, feq_l}
use denote.RattleType.{RattleType, Valss}
use denote.Builtin.{RawPtr}
use denote.Memory.{lone}
use denote.RawPtr.{Ptr, block_ptr, null_ptr, ptr_val, in_a_block}
use denote.Steps.{nothing}
use denote.Param.{layout}
use denote.Param.Laws.{Laws}
use denote.Struct.Struct.{within}
use denote.Struct.Owning.{shape}
use Rattle.core.specs.declared.alloc.Allocator.{Ghosts}
use Rattle.core.proofs.alloc.Calls.{Al, handle_tells}
use Rattle.core.proofs.cell.Inside.{Good}
use Rattle.std_alloc.specs.Box.Ownership.{box_owns}
use Rattle.std_alloc.proofs.ResultValues.{and_tt}
use Rattle.rohc_c.specs.contracts.loose.Loose as loose

-- the address and the allocator as one value
abbrev pub pair : (address allocator : Val) → Val
pair address allocator = vstruct (vcons address (vcons allocator vnil))

-- of what a box holds, and of its allocator
module _ (R A : RattleType) (laws : Laws A) (g : Ghosts A.Denot) where
  abbrev pub Loose : RattleType
  Loose = loose.the_row R A g

  abbrev allocator : Al
  allocator = record { row = A; laws = laws; g = g; d = impl [] tnil dnil; drops = impl [] tnil dnil }

  -- the pair is a value of its type
  pub pair_good : (block offset : ℕ) (a : Val) → Good (layout A) a → T (has_ty (layout A) a && true) × WT (pair (vptr block offset) a)
  pair_good block offset a fits = (and_tt (has_ty (layout A) a) fits.0, (tt, (fits.1, tt)))

  module _ {M : Type 1} {𝓤 : Ura M} {𝓛 : Logic 𝓤} {K : Type 0} {Γ : List (Item 𝓤)} {G : Goal 𝓤 𝓛.H} where
    -- to own a loose box is to own the box at an address and its allocator
    pub loose_out : K → (d : Loose.Denot) (vs : List Val)
        → ((block offset : ℕ) (a : Val) → d.at ≡ block_ptr block offset → vs ≡ pair (vptr block offset) a ∷ [] → Good (layout A) a
        → Seq K 𝓛 (‵ (box_owns (g.dealloc_token d.alloc) R (block_ptr block offset) d.value) ∷ ‵ (A.own_val d.alloc (a ∷ [])) ∷ Γ) G)
        → Seq K 𝓛 (‵ (Loose.own_val d vs) ∷ Γ) G
    loose_out t d vs go =
        fsplit t $ fpick t (λ parts. fsplit t $ feq_l t (λ whole. fsplit t $ feq_l t (λ address. fsplit t $
        handle_tells allocator t d.alloc parts.1.0 (λ a is fits. move t (1 ∷ []) $ drop t $ move t (1 ∷ []) $
        in_a_block t d.at (λ p. box_owns (g.dealloc_token d.alloc) R p d.value) (fst∗ 𝓤 (never 𝓤) (sem 𝓛 (g.dealloc_token d.alloc (bare (lone R.mir)) null_ptr))) (λ block offset there.
        let with_parts = subst (λ (ps : List Val). vs ≡ vstruct (of_list (ps ++ (parts.1.0 ++ []))) ∷ []) address whole in
        let with_allocator = subst (λ (ws : List Val). vs ≡ vstruct (of_list (ptr_val d.at ∷ (ws ++ []))) ∷ []) is with_parts in
        go block offset a there (subst (λ (p : Ptr). vs ≡ vstruct (of_list (ptr_val p ∷ a ∷ [])) ∷ []) there with_allocator) fits)))))

    -- and the other way round
    pub loose_in : K → (block offset : ℕ) (a : Val) (d : A.Denot) (x : R.Denot)
        → Step K 𝓛 (‵ (Loose.own_val (record { at = block_ptr block offset; alloc = d; value = x }) (pair (vptr block offset) a ∷ [])) ∷ Γ) G
        (‵ (box_owns (g.dealloc_token d) R (block_ptr block offset) x) ∷ ‵ (A.own_val d (a ∷ [])) ∷ Γ) G
    loose_in t block offset a d x = step (λ s. let v : Val = pair (vptr block offset) a in
        nothing t $ move t (2 ∷ 0 ∷ []) $ fjoin t $ feq_i t (List Val) (vptr block offset ∷ []) (vptr block offset ∷ []) refl $ fjoin t $
        feq_i t (List Val) (v ∷ []) (v ∷ []) refl $ fjoin t $
        fpack t (Valss (RawPtr ∷ A ∷ [])) (within (shape (loose.the_type R A g)) (block_ptr block offset, (d, tt)) (v ∷ [])) (vptr block offset ∷ [], (a ∷ [], tt)) $ fjoin t $ s)
