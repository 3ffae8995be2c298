-- What a handle owns at its pointer. Assumes `Logic`.
use Rattle.std.proofs.Common.{◌≡◌, ℕ, ◌<◌, ◌^◌, List, [], ◌∷◌, ◌++◌, refl, sym, subst, lit<}
use seplogic.Ra.Ura.{Ura}
use base.Logic.{ent, guard, guard_i, via, never, fst∗, snd∗}
use contract.Monad.{fact, fact_use, fact_mono}
use mir.Raw.{raw as bits}
use mir.Val.{Val, vstruct, of_list}
use types.Logic.{Logic, sem}
use types.Kit.{Item, Goal, Seq, Step, step, ‵, given, ◌$◌, drop, use1, learn, fsplit, fjoin}
use types.Kit.{fpick, fpack, feq_i, feq_l}
use base.Fraction.{full_share}
use denote.Builtin.{RawPtr}
use denote.Memory.{lone}
use denote.RattleType.{Valss}
use denote.RawPtr.{Ptr, block_ptr, null_ptr, ptr_val, count_of, in_a_block, lies_at, Testable}
use denote.Steps.{nothing}
use denote.Struct.Struct.{within}
use denote.Struct.Owning.{shape}
use Rattle.std_heap.proofs.GlobalToken.{dealloc_token_start}
use Rattle.gltf_c_block.specs.Heap.{heap, right_to_free}
use Rattle.std.specs.declared.option.Option.{Option}
use Rattle.std.specs.declared.option.Option.TheVariants.{None, Some}
use Rattle.gltf_c_handle.proofs.Pointed.{pointer, owned_at}
use Rattle.gltf_c_handle.specs.Owned.{handle_owns}
use Rattle.gltf_c_open.specs.declared.file.File.{File}
use Rattle.gltf_c_open.specs.contracts.file.File.{the_row as held}
use Rattle.gltf_c_handle.specs.declared.handle.GltfFile.{GltfFile}
use Rattle.gltf_c_handle.specs.contracts.handle.GltfFile as handle

-- a pointer that may be freed is the start of a block, and may be compared with null
pub testable : {M : Type 1} {𝓤 : Ura M} (𝓛 : Logic 𝓤) (p : Ptr) (x : File)
    → ent 𝓤 (sem 𝓛 (owned_at held p x)) (guard 𝓤 (Testable p) (sem 𝓛 (owned_at held p x)))
testable {𝓤 = 𝓤} 𝓛 p x =
    let owned = sem 𝓛 (owned_at held p x) in
    let right = sem 𝓛 (right_to_free (bits (lone held.mir)) p) in
    let start : ent 𝓤 right (fact 𝓤 (Testable p)) =
    via 𝓤 (fact 𝓤 (count_of p ≡ 0)) (dealloc_token_start 𝓛 heap (bits (lone held.mir)) p)
    (fact_mono 𝓤 (count_of p ≡ 0) (Testable p) (λ e. subst (λ (k : ℕ). k < 2 ^ 63) (sym e) (lit<
    tt))) in
    fact_use 𝓤 (Testable p) (via 𝓤 right (snd∗ 𝓤 (sem 𝓛 (lies_at held full_share p x)) right) start)
    (guard_i 𝓤 (Testable p) owned)

module _ {M : Type 1} {𝓤 : Ura M} {𝓛 : Logic 𝓤} {K : Type 0} {Γ : List (Item 𝓤)} {G : Goal 𝓤 𝓛.H}
  where
    -- a handle is made of its pointer and what is there
    pub handle_in : K → (p : Ptr) (v : Option File) → Step K 𝓛
        (‵ (handle.the_row.own_val (record { at = p; value = v }) (pointer p ∷ [])) ∷ Γ) G
        (‵ (handle_owns p v) ∷ Γ) G
    handle_in t p v = step (λ rest.
        nothing t $ feq_i t (List Val) (ptr_val p ∷ []) (ptr_val p ∷ []) refl $ fjoin t $
        feq_i t (List Val) (pointer p ∷ []) (pointer p ∷ []) refl $ fjoin t $
        fpack t (Valss (RawPtr ∷ [])) (within (shape handle.the_type) (p, tt) (pointer p ∷ []))
        (ptr_val p ∷ [], tt) $ fjoin t $ rest)

    pub handle_out : K → (d : GltfFile) (vs : List Val)
        → (vs ≡ pointer d.at ∷ [] → Seq K 𝓛 (‵ (handle_owns d.at d.value) ∷ Γ) G)
        → Seq K 𝓛 (‵ (handle.the_row.own_val d vs) ∷ Γ) G
    handle_out t d vs next =
        fsplit t $ fpick t (λ vss. fsplit t $ feq_l t (λ whole. fsplit t $ feq_l t (λ field.
        drop t $ next (subst (λ (ps : List Val). vs ≡ vstruct (of_list (ps ++ [])) ∷ []) field
        whole))))

    -- by what is there: nothing at null, or the value at a pointer that may be compared with null
    pub by_value : K → (p : Ptr) (v : Option File)
        → (v ≡ None → p ≡ null_ptr → Seq K 𝓛 Γ G)
        → ((b o : ℕ) (x : File) → v ≡ Some x → p ≡ block_ptr b o → Testable (block_ptr b o)
        → Seq K 𝓛 (‵ (owned_at held (block_ptr b o) x) ∷ Γ) G)
        → Seq K 𝓛 (‵ (handle_owns p v) ∷ Γ) G
    by_value t p None none some = feq_l t (λ e. none refl e)
    by_value t p (Some x) none some =
        in_a_block t p (λ q. owned_at held q x)
        (fst∗ 𝓤 (never 𝓤) (sem 𝓛 (right_to_free (bits (lone held.mir)) null_ptr))) (λ b o e.
        use1 𝓛 (given (Testable (block_ptr b o)) (‵ (owned_at held (block_ptr b o) x)))
        (testable 𝓛 (block_ptr b o) x) $ learn t (λ may. some b o x refl e may))
