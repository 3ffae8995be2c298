-- The contract of `into_box`: the box has the value that stood at the pointer. The proof is by
-- hand, because `Bare` owns memory at its pointer. It takes the allocator and the `Bare` apart
-- (`handle_tells`, `bare_out`), enters the code, and calls `Box::from_raw` with the program's
-- allocator, which takes over what the pointer owns. The box that comes back is returned as it is
-- (`box_out`, `box_in`). A comment in brackets lists what is held at that step, in the order by
-- which `move !` and `keep !` count.
use Rattle.std.proofs.Common.{◌≡◌, List, [], ◌∷◌, ◌++◌, refl, sym, ap, subst}
use mir.Syntax.{a_type, dcons, dnil, Fn, Args}
use mir.Val.{Val, vptr}
use mir.MapTy.{inst_fn}
use base.Fraction.{full_share}
use base.Logic.{SProp, ent, emp, id⊢}
use base.Fml.{ftrue, flft}
use prog.Wp.{WpFn}
use types.Kit.{‵, raw, ◌⊛◌, some, later, at_ret, split3, rewrite, feq_i, ◌$◌, ◌∵◌, !, qed, by, move}
use types.Kit.{keep, drop, split, join, fsplit, fjoin, pick, suffices, use0, use1, await}
use types.Run.{stop, fld, of_opd, no_more, and_then, first, blocks, exec, returns, enter}
use types.ByLocal.{alloc_all, pass_all, free_all, look_at, get, get_in, sets, lands_last, env}
use types.Part.{sub, whole}
use contract.BorrowLft.{◌⊑◌}
use contract.Monad.{fact, fact_i}
use contract.Running.{tables}
use denote.Exit.{no, yes}
use denote.RattleType.{RattleType, owns}
use denote.Signature.{types_at, plain}
use denote.RawPtr.{block_ptr}
use denote.Steps.{nothing, only}
use denote.Param.{param, layout, bounded}
use denote.Param.NoDrop.{glues}
use denote.Triple.Clauses.{Lasts, lasts}
use denote.Triple.Spec.{triple_of}
use denote.Triple.Call.{calls_at_last}
use denote.Triple.Walked.{Stays, stay_dropped, walk_of, Goes-dropped}
use Rattle.core.proofs.alloc.Calls.{handle_tells}
use Rattle.core.proofs.alloc.Shapes.{after}
use Rattle.core.proofs.cell.Inside.{Good}
use Rattle.core.proofs.atomic.Steps.{fm}
use Rattle.std.proofs.raw_atomic.Walks.{proved_at, leaves}
use Rattle.std.specs.contracts.alloc.Global as heap
use Rattle.std_heap.specs.contracts.GlobalAllocator.TheImpl as allocator
use Rattle.std_heap.proofs.GlobalAllocator.TheImpl.Met.{passed}
use Rattle.std_alloc.proofs.BoxSteps.Form as box
use Rattle.std_alloc.proofs.BoxSteps.Steps.{box_out, box_in}
use Rattle.std_alloc.specs.contracts.boxed.Box.from_raw as callee
use Rattle.std_alloc.proofs.boxed.Box.from_raw.Met.{met}
use Rattle.gltf_c_handle.proofs.Pointed.{Heap, heap_laws, pointer, no_drop, boxed, bare_out}
use Rattle.gltf_c_handle.specs.contracts.bare.Bare as bare
use Rattle.gltf_c_handle.specs.contracts.bare.into_box as f
use Rattle.gltf_c_handle.specs.contracts.bare.into_box.Key.{name as self}
use Rattle.gltf_c_handle.proofs.bare.into_box.Statement.{statement}
use Rattle.gltf_c_handle.proofs.bare.into_box.Code as code

pub into_box_spec : {M : Type 1} → statement M
unfolding Rattle.gltf_c_handle.proofs.Destruct++none.drop.Code.code
into_box_spec {M} 𝓤 𝓛 𝓜 𝓡 wired T L drops dropped =
    let H = 𝓛.H in let 𝓣 = tables 𝓤 H 𝓜 𝓡 𝓡.env in
    let R : RattleType = param 0 T in let Z : RattleType = Heap in
    let E : box.Bx = boxed T L in let Whole : RattleType = box.B E in
    let ended = f.ended T drops in let c = f.clauses T drops 𝓛 𝓜.mem 𝓡.returns in
    let inst : Args = bounded (a_type ∷ []) (T, tt) (dcons drops dnil) in let fn : Fn = inst_fn
    inst code.function in
    let Part : RattleType = bare.the_row R in
    let stays : Stays ended.signature.params ended.kept =
    (stay_dropped (plain (λ _. heap.the_row)) yes, (stay_dropped (plain (λ _. Part)) no, tt)) in
    proved_at 𝓛 ended stays c 𝓜 𝓡 (
      Goes-dropped 𝓛 1 (plain (λ _. heap.the_row)) yes (λ κs x w. refl),
      (
        Goes-dropped 𝓛 1 (plain (λ
            _. Part)) no (λ κs x f. refl),
        tt,
      ),
    ) (self inst) fn
    (code.unfolded 𝓤 H 𝓜 𝓡 wired (T, tt) drops) (λ z are.
    let κs = z.0.0 in let qs = z.0.1 in let a = z.0.3.0 in let part = z.0.3.1.0 in
    let Post : Val → SProp 𝓤 = (walk_of 𝓛 ended stays c).post z in
    let Run : List Val → SProp 𝓤 = λ ws. WpFn 𝓤 H 𝓣.C 𝓣.Λ fn ws Post in
    let alive = ‵ (flft κs.0 qs.0) ⊛ ‵ ftrue in let asked = raw ((c κs z.0.3).requires z.1) in
    qed 𝓛 ((alive ⊛ ‵ (owns (types_at ended.signature.params κs) z.0.3 z.0.4)) ∷ asked ∷ []) ∵
    split ! $ move ! (1 ∷ []) $ fsplit ! $
    handle_tells E.al ! a z.0.4.0 (λ h eh gh. move ! (1 ∷ []) $ fsplit ! $
    bare_out R ! part z.0.4.1.0 (λ b o at ev. move ! (1 ∷ []) $ drop ! $
    -- [what the pointer owns; the allocator; the token of T; what is asked]
    let word : Val = pointer (block_ptr b o) in
    let k = triple_of 𝓛 (callee.signature T Z allocator.ghosts allocator.dict no_drop) (callee.spec
    T Z allocator.ghosts allocator.dict no_drop 𝓛 𝓜.mem 𝓡.returns) in
    let y : k.Ghost = (
      (
        (κs.0, ([], tt)),
        (qs.0, (full_share, tt)),
        tt,
        (a, (block_ptr b o, tt)),
        (h ∷ [], (vptr b o ∷ [], tt)),
      ),
      part.value,
    ) in
    let both = ‵ (flft κs.0 qs.0) ⊛ ‵ (flft [] full_share) ⊛ ‵ ftrue in
    move ! (3 ∷ []) $ use1 𝓛 (raw (fact 𝓤 (κs.0 ⊑ T.lives)) ⊛ ‵ ftrue) (id⊢ 𝓤 _) $ split ! $ move !
    (1 ∷ []) $ drop ! $
    use0 𝓛 (raw (fact 𝓤 ([] ⊑ Z.lives))) (fact_i 𝓤 ([] ⊑ Z.lives) (emp 𝓤) (λ a m. m)) $
    move ! (0 ∷ 2 ∷ []) $ join ! $ move ! (1 ∷ 0 ∷ []) $ join ! $
    -- [what is required; the allocator; the token of T]
    nothing ! $ feq_i ! (List Val) (vptr b o ∷ []) (vptr b o ∷ []) refl $ fjoin ! $ move ! (2 ∷ 0 ∷
    []) $ fjoin ! $
    move ! (2 ∷ []) $ split ! $ use0 𝓛 (‵ (flft [] full_share)) (𝓛.lfts.lft-nil full_share) $
    move ! (0 ∷ 2 ∷ []) $ join ! $ move ! (1 ∷ 0 ∷ []) $ join ! $ join ! $ join ! $
    use1 𝓛 (raw (k.pre y)) (id⊢ 𝓤 _) $
    suffices ! (Run (h ∷ word ∷ [])) (subst (λ (us : List Val). ent 𝓤 (Run (h ∷ word ∷ [])) (Run
    us)) (sym (λ i. eh i ++ (ev i ++ []))) (id⊢ 𝓤 (Run (h ∷ word ∷ [])))) $
    enter ! 𝓣.C 𝓣.Λ fn (h ∷ word ∷ []) Post $ alloc_all ! (λ l. pass_all ! refl (
      gh,
      (
        (
          tt,
          (
            tt,
            tt,
          ),
        ),
        tt,
      ),
    ) $ let Ev = env fn.locals l in
    sets ! (of_opd ! (get_in ! (fld ! refl (stop !)) (sub ! 0 refl (whole !)))) refl (tt, tt) $
    first ! $ blocks ! $
    calls_at_last ! (fm 𝓛 𝓜 𝓡) k
    (met 𝓤 𝓛 𝓜 𝓡 (code.calls-std_alloc::boxed::Box::from_raw 𝓡.env wired) T Z L heap_laws
    allocator.ghosts allocator.dict no_drop
    (passed 𝓡.env (code.calls-std_heap::GlobalAllocator::allocate 𝓡.env wired)
    (code.calls-std_heap::GlobalAllocator::deallocate 𝓡.env wired)
    (code.calls-std_heap::GlobalAllocator::grow 𝓡.env wired)
    (code.calls-std_heap::GlobalAllocator::shrink 𝓡.env wired) M 𝓤 𝓛 𝓜 𝓡)
    (glues "gltf_c_handle::Destruct++none::drop" 𝓡.env
    (code.calls-gltf_c_handle::Destruct++none::drop 𝓡.env
    wired) Z heap_laws M 𝓤 𝓛 𝓜 𝓡))
    y (and_then ! (get ! refl) (and_then ! (get ! refl) (no_more !))) (λ u.
    use1 𝓛 (later (some (λ (r : Whole.Denot). (both ⊛ ‵ (Whole.own_val r (u ∷ []))) ⊛
    some (λ (ls : Lasts (callee.ended T Z allocator.ghosts allocator.dict no_drop) y.0.0 y.0.3). ‵
    (lasts (callee.ended T Z allocator.ghosts allocator.dict no_drop) y.0.0 y.0.3 ls) ⊛
    (raw (fact 𝓤 (r.value ≡ part.value)) ⊛ raw (fact 𝓤 (r.alloc ≡ a))))))) (id⊢ 𝓤 (k.post y u)) $
    await ! tt $ pick ! (λ r. split ! $ move ! (1 ∷ []) $ pick ! (λ _. split3 ! $ drop ! $ move !
    (2 ∷ []) $ split ! $ move ! (1 ∷ []) $
    box_out E ! r (u ∷ []) (λ b' o' h' at' us fits. box_in E ! r b' o' r.value at' refl $ rewrite !
    0 (λ (xs : List Val). ‵ (Whole.own_val r xs)) (sym us) refl $
    -- [the box; the tokens; its value; its allocator]
    let good : Good (layout Whole) u = subst (Good (layout Whole)) (sym (ap only us))
    (box.box_typed E h' b' o' fits) in
    lands_last ! refl good $ exec ! 𝓣.C 𝓣.Λ Ev (after 2 fn.body) (at_ret Ev Post) $ sets ! (of_opd
    ! (get ! refl)) refl good $
    move ! (1 ∷ []) $ split ! $ move ! (1 ∷ []) $ split ! $ drop ! $ move ! (1 ∷ 0 ∷ []) $ join ! $
    nothing ! $ nothing ! $ fjoin ! $ nothing ! $ fjoin ! $
    returns ! (look_at ! 0 refl) $ free_all ! refl $ keep ! (1 ∷ 0 ∷ 2 ∷ 3 ∷ []) $
    by ! (leaves 𝓛 ended stays c z u r (tt, (tt, tt)) (tt, (tt, tt)))))))))))
