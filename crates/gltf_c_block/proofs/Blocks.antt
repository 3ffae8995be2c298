-- What a block and a vector of bytes own, taken apart and made. Assumes `Logic`.
use Rattle.std.proofs.Common.{◌≡◌, ℕ, ◌<◌, ◌≤◌, ◌*◌, ◌^◌, List}
use Rattle.std.proofs.Common.{[], ◌∷◌, ◌++◌, refl, ap, ◌∙◌, arith}
use lib.ListN.{length}
use seplogic.Ra.Ura.{Ura}
use base.Fml.{Fml}
use base.Logic.{never, id⊢}
use mir.Syntax.{w64}
use mir.Val.{Val, vint, vptr, vstruct, of_list}
use types.Logic.{Logic}
use types.Kit.{Item, Goal, Seq, Step, step, ‵, ◌$◌, move, drop, fsplit, fjoin, fpick, fpack}
use types.Kit.{feq_i, feq_l, flt_i, flt_l}
use denote.Builtin.{u8}
use denote.RattleType.{Valss}
use denote.RawPtr.{Ptr, block_ptr, ptr_val, in_block, in_a_block}
use denote.Steps.{nothing}
use denote.Struct.Struct.{Shape, within}
use denote.Struct.Owning.{shape}
use Rattle.core.specs.Allocator.{block_with_items}
use Rattle.std.specs.contracts.alloc.Global as heap
use Rattle.std_heap.specs.contracts.GlobalAllocator.TheImpl as allocator
use Rattle.std_heap.specs.declared.Global.{Global}
use Rattle.std_alloc.specs.Vec.Ownership.{owns_if, has_block}
use Rattle.std_alloc.specs.contracts.vec.Vec as vec
use Rattle.gltf_c_block.specs.Heap.{right_to_free}
use Rattle.gltf_c_block.specs.Owned.{memory_owns}
use Rattle.gltf_c_block.specs.declared.Full.{Full}
use Rattle.gltf_c_block.specs.declared.GltfBlock.{GltfBlock}
use Rattle.gltf_c_block.specs.contracts.Full as full
use Rattle.gltf_c_block.specs.contracts.GltfBlock as block
use Rattle.gltf_c_block.proofs.Typed.{Bytes, words, vec_words}

-- n bytes at p, and the right to free them
abbrev pub Memory : ℕ → List ℕ → Ptr → Fml
Memory n bytes p = owns_if (has_block n) (block_with_items right_to_free u8 p n n bytes)

pub same : (n : ℕ) → n ≤ n
same n = omega arith

pub as_count : (n : ℕ) → n * 1 < 2 ^ 63 → n < 2 ^ 63
as_count n small = omega arith

-- the vector that has them
abbrev pub made : (a : Global) (p : Ptr) (n : ℕ) (bytes : List ℕ) → n ≡ length bytes
    → n * 1 < 2 ^ 63 → Bytes.Denot
made a p n bytes long small = record {
  ptr = p;
  len = n;
  cap = n;
  alloc = a;
  items = bytes;
  ok = (long, same n);
  small = as_count n small;
}

abbrev Parts : Shape
Parts = shape (vec.the_type u8 heap.the_row allocator.ghosts)

module _ {M : Type 1} {𝓤 : Ura M} {𝓛 : Logic 𝓤} {K : Type 0} {Γ : List (Item 𝓤)}
    {G : Goal 𝓤 𝓛.H} where
  -- a block is its two words, and owns what `block_owns` says
  pub block_out : K → (d : GltfBlock) (vs : List Val)
      → (vs ≡ words d.at d.size ∷ [] → d.size < 2 ^ 64 → d.size ≡ length d.bytes
      → let memory : Fml = memory_owns d.at d.size d.bytes in
      Seq K 𝓛 (‵ (owns_if (has_block d.size) memory) ∷ Γ) G)
      → Seq K 𝓛 (‵ (block.the_row.own_val d vs) ∷ Γ) G
  block_out t d vs next =
      fsplit t $ fpick t (λ vss. fsplit t $ feq_l t (λ all. fsplit t $ feq_l t (λ first.
      fsplit t $ fsplit t $ feq_l t (λ second. flt_l t (λ fits. drop t $
      fsplit t $ feq_l t (λ long.
      next (all ∙ (λ i. vstruct (of_list (first i ++ (second i ++ []))) ∷ [])) fits
      long))))))

  -- a full one is made of them and of its memory
  pub full_in : K → (p : Ptr) (n : ℕ) (bytes : List ℕ) → n < 2 ^ 64 → n ≡ length bytes
      → let d : Full = record { at = p; size = n; bytes = bytes } in
      Step K 𝓛 (‵ (full.the_row.own_val d (words p n ∷ [])) ∷ Γ) G
      (‵ (memory_owns p n bytes) ∷ Γ) G
  full_in t p n bytes fits long = step (λ rest.
      let pointer : List Val = ptr_val p ∷ [] in let number : List Val = vint w64 n ∷ [] in
      let all : List Val = words p n ∷ [] in let Two = shape full.the_type in
      feq_i t ℕ n (length bytes) long $ fjoin t $
      nothing t $ flt_i t n (2 ^ 64) fits $ feq_i t (List Val) number number refl $ fjoin t $
      fjoin t $ feq_i t (List Val) pointer pointer refl $ fjoin t $
      feq_i t (List Val) all all refl $ fjoin t $
      fpack t (Valss Two.fields) (within Two (p, (n, tt)) all) (pointer, (number, tt)) $
      fjoin t $ rest)

  -- and is its words again, with a pointer into a block, and its memory
  pub full_out : K → (d : Full) (vs : List Val)
      → ((b o : ℕ) → vs ≡ words (block_ptr b o) d.size ∷ []
      → d.size < 2 ^ 64 → d.size * 1 < 2 ^ 63 → d.size ≡ length d.bytes
      → Seq K 𝓛 (‵ (Memory d.size d.bytes (block_ptr b o)) ∷ Γ) G)
      → Seq K 𝓛 (‵ (full.the_row.own_val d vs) ∷ Γ) G
  full_out t d vs next =
      fsplit t $ fpick t (λ vss. fsplit t $ feq_l t (λ all. fsplit t $ feq_l t (λ first.
      fsplit t $ fsplit t $ feq_l t (λ second. flt_l t (λ fits. drop t $
      fsplit t $ feq_l t (λ long. fsplit t $ flt_l t (λ small.
      in_a_block t d.at (λ p. in_block p (Memory d.size d.bytes p))
      (id⊢ 𝓤 (never 𝓤)) (λ b o at.
      next b o
      (all ∙ (λ i. vstruct (of_list (first i ++ (second i ++ []))) ∷ [])
      ∙ ap (λ (p : Ptr). words p d.size ∷ []) at)
      fits small long))))))))

  -- a vector is made of its four words, of the memory and of the allocator
  pub vec_in : K → (a : Global) (h : Val) (b o n : ℕ) (bytes : List ℕ)
      → n < 2 ^ 64 → (small : n * 1 < 2 ^ 63) (long : n ≡ length bytes)
      → let d : Bytes.Denot = made a (block_ptr b o) n bytes long small in
      Step K 𝓛 (‵ (Bytes.own_val d (vec_words h b o n ∷ [])) ∷ Γ) G
      (‵ (Memory n bytes (block_ptr b o)) ∷ ‵ (heap.the_row.own_val a (h ∷ [])) ∷ Γ) G
  vec_in t a h b o n bytes fits small long = step (λ rest.
      let pointer : List Val = vptr b o ∷ [] in let number : List Val = vint w64 n ∷ [] in
      let all : List Val = vec_words h b o n ∷ [] in
      flt_i t (n * 1) (2 ^ 63) small $ fjoin t $
      nothing t $ move t (2 ∷ 0 ∷ []) $ fjoin t $
      flt_i t n (2 ^ 64) fits $ feq_i t (List Val) number number refl $ fjoin t $ fjoin t $
      flt_i t n (2 ^ 64) fits $ feq_i t (List Val) number number refl $ fjoin t $ fjoin t $
      feq_i t (List Val) pointer pointer refl $ fjoin t $
      feq_i t (List Val) all all refl $ fjoin t $
      fpack t (Valss Parts.fields) (within Parts (block_ptr b o, (n, (n, (a, tt)))) all)
      (pointer, (number, (number, (h ∷ [], tt)))) $
      fjoin t $ rest)
