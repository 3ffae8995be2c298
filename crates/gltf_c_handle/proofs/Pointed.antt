-- A struct of one pointer: its machine value, and what it owns at that. Assumes `Logic`.
use Rattle.std.proofs.Common.{◌≡◌, ℕ, List, [], ◌∷◌, ◌++◌, refl, subst}
use seplogic.Ra.Ura.{Ura}
use base.Fml.{Fml}
use base.Logic.{never, fst∗}
use mir.Raw.{raw as bits}
use mir.Syntax.{Dict, impl, tnil, tcons, dnil}
use mir.Val.{Val, vstruct, vcons, vnil, of_list}
use types.Logic.{Logic, sem}
use types.Kit.{Item, Goal, Seq, Step, step, ‵, ◌$◌, drop, fsplit, fjoin, fpick, fpack, feq_i, feq_l}
use denote.Builtin.{RawPtr}
use denote.Memory.{lone}
use denote.RattleType.{RattleType, Valss}
use denote.RawPtr.{Ptr, block_ptr, null_ptr, ptr_val, in_a_block}
use denote.Steps.{nothing}
use denote.Exit.{no}
use denote.Param.{layout, arg}
use denote.Param.Laws.{Laws, arg_laws}
use denote.Struct.Struct.{within}
use denote.Struct.Owning.{shape}
use Rattle.gltf_c_block.specs.Heap.{right_to_free}
use Rattle.std.specs.contracts.alloc.Global as heap
use Rattle.std.proofs.alloc.Global.TheLaws as of_heap
use Rattle.std_heap.specs.contracts.GlobalAllocator.TheImpl as allocator
use Rattle.std_alloc.proofs.BoxSteps.Form.{Bx}
use Rattle.std_alloc.specs.Box.Ownership.{box_owns}
use Rattle.gltf_c_handle.specs.contracts.bare.Bare as bare

abbrev pub pointer : Ptr → Val
pointer p = vstruct (vcons (ptr_val p) vnil)

-- the program's allocator, as a call of a generic function passes it
abbrev pub Heap : RattleType
Heap = arg (bits (layout heap.the_row)) no heap.the_row

pub heap_laws : Laws Heap
heap_laws = arg_laws (bits (layout heap.the_row)) no heap.the_row of_heap.the_row_laws refl

-- nothing is done where one is dropped
abbrev pub no_drop : Dict
no_drop = impl ("gltf_c_handle::Destruct++none::drop" ∷ []) (tcons (layout Heap) tnil) dnil

-- a box of that allocator

abbrev pub boxed : (T : RattleType) → Laws T → Bx
boxed T L = record {
  row = T;
  laws = L;
  al = record {
    row = Heap;
    laws = heap_laws;
    g = allocator.ghosts;
    d = allocator.dict;
    drops = no_drop;
  };
}

-- the value at a pointer, and the right to free it
abbrev pub owned_at : (R : RattleType) → Ptr → R.Denot → Fml
owned_at = box_owns right_to_free

module _ (R : RattleType) {M : Type 1} {𝓤 : Ura M} {𝓛 : Logic 𝓤} {K : Type 0} {Γ : List (Item 𝓤)}
    {G : Goal 𝓤 𝓛.H} where
  -- what stood in a box at p makes a bare one
  pub bare_in : K → (p : Ptr) (x : R.Denot)
      → Step K 𝓛 (‵ ((bare.the_row R).own_val (record { at = p; value = x }) (pointer p ∷ [])) ∷ Γ)
      G
      (‵ (owned_at R p x) ∷ Γ) G
  bare_in t p x = step (λ rest.
      nothing t $ feq_i t (List Val) (ptr_val p ∷ []) (ptr_val p ∷ []) refl $ fjoin t $
      feq_i t (List Val) (pointer p ∷ []) (pointer p ∷ []) refl $ fjoin t $
      fpack t (Valss (RawPtr ∷ [])) (within (shape (bare.the_type R)) (p, tt) (pointer p ∷ []))
      (ptr_val p ∷ [], tt) $ fjoin t $ rest)

  -- and a bare one is a pointer into a block, with what stands there
  pub bare_out : K → (d : (bare.the_row R).Denot) (vs : List Val)
      → ((b o : ℕ) → d.at ≡ block_ptr b o → vs ≡ pointer (block_ptr b o) ∷ []
      → Seq K 𝓛 (‵ (owned_at R (block_ptr b o) d.value) ∷ Γ) G)
      → Seq K 𝓛 (‵ ((bare.the_row R).own_val d vs) ∷ Γ) G
  bare_out t d vs next =
      fsplit t $ fpick t (λ vss. fsplit t $ feq_l t (λ whole. fsplit t $ feq_l t (λ field. drop t $
      in_a_block t d.at (λ p. owned_at R p d.value)
      (fst∗ 𝓤 (never 𝓤) (sem 𝓛 (right_to_free (bits (lone R.mir)) null_ptr))) (λ b o at.
      next b o at
      (subst (λ (p : Ptr). vs ≡ pointer p ∷ []) at
      (subst (λ (ps : List Val). vs ≡ vstruct (of_list (ps ++ [])) ∷ []) field whole))))))
