-- The contract of `into_bare`: the result has the value of the box. The proof is by hand, because
-- `Bare` owns memory at its pointer. It finds the machine word of the box (`box_out`), enters the
-- code and calls `Box::into_raw`, which gives a pointer into a block with the value and the right
-- to free it (`in_a_block`). `bare_in` makes the result of these. A comment in brackets lists what
-- is held at that step, in the order by which `move !` and `keep !` count.
use Rattle.std.proofs.Common.{◌≡◌, List, [], ◌∷◌, ◌++◌, refl, sym, ap, ◌∙◌, subst}
use mir.Syntax.{a_type, dcons, dnil, Fn, Args}
use mir.Raw.{raw as bits}
use mir.Val.{Val}
use mir.MapTy.{inst_fn}
use base.Fraction.{full_share}
use base.Logic.{SProp, ent, emp, never, id⊢, fst∗}
use base.Fml.{ftrue, flft}
use prog.Wp.{WpFn}
use types.Logic.{sem}
use types.Kit.{‵, raw, ◌⊛◌, some, later, ◌$◌, ◌∵◌, !, qed, by, move, keep, drop, split, join}
use types.Kit.{fsplit, fjoin, pick, suffices, use0, use1, await, feq_l}
use types.Run.{of_opd, no_more, and_then, returns, enter}
use types.ByLocal.{alloc_all, pass_all, free_all, look_at, get, sets, lands_as}
use types.Part.{agg}
use contract.BorrowLft.{◌⊑◌}
use contract.Monad.{fact, fact_i}
use contract.Running.{tables}
use denote.Exit.{no}
use denote.RattleType.{RattleType, owns}
use denote.Signature.{types_at, plain}
use denote.Builtin.{RawPtr}
use denote.RawPtr.{Ptr, block_ptr, null_ptr, ptr_val, in_a_block}
use denote.Steps.{nothing, only}
use denote.Param.{param, layout, bounded}
use denote.Param.NoDrop.{glues}
use denote.Triple.Clauses.{Lasts, lasts}
use denote.Triple.Spec.{triple_of}
use denote.Triple.Call.{calls_at}
use denote.Triple.Walked.{Stays, stay_dropped, walk_of}
use Rattle.core.proofs.alloc.Calls.{Goes-blank}
use Rattle.core.proofs.atomic.Steps.{fm}
use Rattle.gltf_c_block.specs.Heap.{right_to_free}
use Rattle.std.proofs.raw_atomic.Walks.{proved_at, leaves}
use Rattle.std.specs.contracts.alloc.Global as heap
use Rattle.std_heap.specs.contracts.GlobalAllocator.TheImpl as allocator
use Rattle.std_heap.proofs.GlobalAllocator.TheImpl.Met.{passed}
use Rattle.std_alloc.specs.Box.Ownership.{box_owns}
use Rattle.std_alloc.proofs.BoxSteps.Form as box
use Rattle.std_alloc.proofs.BoxSteps.Steps.{box_out, box_in}
use Rattle.std_alloc.specs.contracts.boxed.Box.into_raw as callee
use Rattle.std_alloc.proofs.boxed.Box.into_raw.Met.{met}
use Rattle.std_alloc.specs.contracts.boxed.Box as box_type
use Rattle.gltf_c_handle.proofs.Pointed.{Heap, heap_laws, pointer, no_drop, boxed, bare_in}
use Rattle.gltf_c_handle.specs.contracts.bare.into_bare as f
use Rattle.gltf_c_handle.specs.contracts.bare.into_bare.Key.{name as self}
use Rattle.gltf_c_handle.proofs.bare.into_bare.Statement.{statement}
use Rattle.gltf_c_handle.proofs.bare.into_bare.Code as code

pub into_bare_spec : {M : Type 1} → statement M
unfolding Rattle.gltf_c_handle.proofs.Destruct++none.drop.Code.code
into_bare_spec {M} 𝓤 𝓛 𝓜 𝓡 wired T L drops dropped =
    let H = 𝓛.H in let 𝓣 = tables 𝓤 H 𝓜 𝓡 𝓡.env in
    let R : RattleType = param 0 T in let Z : RattleType = Heap in
    let E : box.Bx = boxed T L in let Held : RattleType = box_type.the_row R heap.the_row
    allocator.ghosts in
    let ended = f.ended T drops in let c = f.clauses T drops 𝓛 𝓜.mem 𝓡.returns in
    let inst : Args = bounded (a_type ∷ []) (T, tt) (dcons drops dnil) in let fn : Fn = inst_fn
    inst code.function in
    let stays : Stays ended.signature.params ended.kept = (stay_dropped (plain (λ _. Held)) no, tt)
    in
    proved_at 𝓛 ended stays c 𝓜 𝓡 (Goes-blank 𝓛 1 (plain (λ _. Held)) no (λ κs x f. tt), tt) (self
    inst) fn
    (code.unfolded 𝓤 H 𝓜 𝓡 wired (T, tt) drops) (λ z are.
    let κs = z.0.0 in let qs = z.0.1 in let held = z.0.3.0 in
    let Post : Val → SProp 𝓤 = (walk_of 𝓛 ended stays c).post z in
    let Run : List Val → SProp 𝓤 = λ ws. WpFn 𝓤 H 𝓣.C 𝓣.Λ fn ws Post in
    let alive = ‵ (flft κs.0 qs.0) ⊛ ‵ ftrue in let asked = raw ((c κs z.0.3).requires z.1) in
    qed 𝓛 ((alive ⊛ ‵ (owns (types_at ended.signature.params κs) z.0.3 z.0.4)) ∷ asked ∷ []) ∵
    split ! $ move ! (1 ∷ []) $ fsplit ! $
    box_out E ! held z.0.4.0 (λ b o h e ws fits. box_in E ! held b o held.value e refl $
    -- [the box; nothing; the token of T; what is asked]
    let word : Val = box.word E h b o in let typed = box.box_typed E h b o fits in
    let k = triple_of 𝓛 (callee.signature T Z allocator.ghosts allocator.dict no_drop drops)
    (callee.spec T Z allocator.ghosts allocator.dict no_drop drops 𝓛 𝓜.mem 𝓡.returns) in
    let y : k.Ghost = (
      (
        (κs.0, ([], tt)),
        (qs.0, (full_share, tt)),
        tt,
        (held, tt),
        (
          word ∷ [],
          tt,
        ),
      ),
      tt,
    ) in
    let both = ‵ (flft κs.0 qs.0) ⊛ ‵ (flft [] full_share) ⊛ ‵ ftrue in
    fjoin ! $ move ! (1 ∷ []) $ split ! $
    use0 𝓛 (‵ (flft [] full_share)) (𝓛.lfts.lft-nil full_share) $
    move ! (0 ∷ 2 ∷ []) $ join ! $ move ! (1 ∷ 0 ∷ []) $ join ! $ join ! $
    move ! (1 ∷ []) $ use1 𝓛 (raw (fact 𝓤 (κs.0 ⊑ T.lives)) ⊛ ‵ ftrue) (id⊢ 𝓤 _) $ split ! $
    use0 𝓛 (raw (fact 𝓤 ([] ⊑ Z.lives))) (fact_i 𝓤 ([] ⊑ Z.lives) (emp 𝓤) (λ a m. m)) $
    move ! (0 ∷ 2 ∷ []) $ join ! $ move ! (1 ∷ 0 ∷ []) $ join ! $ move ! (1 ∷ 0 ∷ []) $ join ! $
    use1 𝓛 (raw (k.pre y)) (id⊢ 𝓤 _) $
    suffices ! (Run (word ∷ [])) (subst (λ (us : List Val). ent 𝓤 (Run (word ∷ [])) (Run us)) (sym
    (λ i. ws i ++ [])) (id⊢ 𝓤 (Run (word ∷ [])))) $
    enter ! 𝓣.C 𝓣.Λ fn (word ∷ []) Post $ alloc_all ! (λ l. pass_all ! refl (typed, tt) $
    sets ! (of_opd ! (get ! refl)) refl typed $
    calls_at ! (fm 𝓛 𝓜 𝓡) k
    (met 𝓤 𝓛 𝓜 𝓡 (code.calls-std_alloc::boxed::Box::into_raw 𝓡.env wired) T Z L heap_laws
    allocator.ghosts allocator.dict no_drop drops
    (passed 𝓡.env (code.calls-std_heap::GlobalAllocator::allocate 𝓡.env wired)
    (code.calls-std_heap::GlobalAllocator::deallocate 𝓡.env wired)
    (code.calls-std_heap::GlobalAllocator::grow 𝓡.env wired)
    (code.calls-std_heap::GlobalAllocator::shrink 𝓡.env wired) M 𝓤 𝓛 𝓜 𝓡)
    (glues "gltf_c_handle::Destruct++none::drop" 𝓡.env
    (code.calls-gltf_c_handle::Destruct++none::drop 𝓡.env
    wired) Z heap_laws M 𝓤 𝓛 𝓜 𝓡)
    dropped)
    y (and_then ! (get ! refl) (no_more !)) (λ u.
    use1 𝓛 (later (some (λ (r : Ptr). (both ⊛ ‵ (RawPtr.own_val r (u ∷ []))) ⊛
    some (λ (ls : Lasts (callee.ended T Z allocator.ghosts allocator.dict no_drop drops) y.0.0
    y.0.3). ‵ (lasts (callee.ended T Z allocator.ghosts allocator.dict no_drop drops) y.0.0
    y.0.3 ls) ⊛ ‵ (box_owns right_to_free R r held.value))))) (id⊢ 𝓤 _) $
    await ! tt $ pick ! (λ r. split ! $ move ! (1 ∷ []) $ pick ! (λ _. split ! $ drop ! $
    in_a_block ! r (λ p. box_owns right_to_free R p held.value) (fst∗ 𝓤 (never 𝓤) (sem 𝓛
    (right_to_free (bits (layout T)) null_ptr))) (λ b' o' at.
    move ! (1 ∷ []) $ split ! $ move ! (1 ∷ []) $ feq_l ! (λ is.
    -- [the tokens; what the pointer owns]
    lands_as ! (ap only (is ∙ ap (λ (p : Ptr). ptr_val p ∷ []) at)) refl (tt, tt) $
    sets ! (agg ! (and_then ! (get ! refl) (no_more !))) refl (tt, (tt, tt)) $
    split ! $ move ! (1 ∷ []) $ split ! $ drop ! $ move ! (1 ∷ 0 ∷ []) $ join ! $ move ! (1 ∷ []) $
    bare_in R ! (block_ptr b' o') held.value $
    use0 𝓛 (raw (fact 𝓤 (held.value ≡ held.value))) (fact_i 𝓤 (held.value ≡ held.value) (emp 𝓤)
    refl) $
    nothing ! $ nothing ! $ fjoin ! $
    returns ! (look_at ! 0 refl) $ free_all ! refl $ keep ! (3 ∷ 0 ∷ 2 ∷ 1 ∷ []) $
    by ! (leaves 𝓛 ended stays c z (pointer (block_ptr b' o')) (record {
      at = block_ptr b' o';
      value = held.value;
    }) (tt, tt) (tt, tt))))))))))
