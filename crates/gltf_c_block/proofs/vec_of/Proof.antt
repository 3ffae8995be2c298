-- The contract of `vec_of`: a vector with the bytes of the block. The proof is by hand, because it
-- reads a `Vec` where a `Parts` was written. Those are one struct to the machine, which reads no
-- names: a cell of one type is a cell of its raw form (`at_raw`, `raw_at`), and both have the same.
-- So what is read has the four words of a vector. With the memory of the block and the allocator
-- these own what a `Vec` owns (`vec_in`). `Parts` owns nothing, and is dropped.
use Rattle.std.proofs.Common.{List, [], ◌∷◌, ◌++◌, refl, sym, subst}
use base.Fml.{ftrue, fat}
use base.Fraction.{full_share}
use base.Logic.{SProp, ent, id⊢}
use contract.Running.{tables}
use mir.Syntax.{Ty}
use mir.Val.{Val}
use prog.Wp.{WpFn, spot_of}
use types.Kit.{‵, raw, ◌⊛◌, at_ret, ◌$◌, ◌∵◌, !, qed, move, keep, drop, use1}
use types.Kit.{split, join, fsplit, suffices, done}
use types.Run.{stop, fld, from, addr, load, look_raw, of_opd, no_more, and_then, first, blocks}
use types.Run.{exec, returns, enter}
use types.ByLocal.{alloc_all, pass_all, free_all, look_at, get, get_in, through, sets, sets_last}
use types.ByLocal.{take_at, give_at, env}
use types.Part.{agg, sub, whole}
use denote.Exit.{yes}
use denote.Memory.{lone}
use denote.RattleType.{owns}
use denote.RawPtr.{block_ptr}
use denote.Signature.{types_at, plain}
use denote.Steps.{nothing}
use denote.Triple.Walked.{Stays, walk_of, stay_dropped, Goes-dropped, says, ends_at}
use Rattle.core.proofs.alloc.Calls.{handle_tells}
use Rattle.core.proofs.alloc.Shapes.{after}
use Rattle.core.proofs.cell.Inside.{Good}
use Rattle.std.proofs.raw_atomic.Walks.{proved_at}
use Rattle.std.specs.contracts.alloc.Global as heap
use Rattle.gltf_c_block.proofs.Blocks.{made, full_out, vec_in}
use Rattle.gltf_c_block.proofs.Typed.{Bytes, al, words, vec_words, vec_typed}
use Rattle.gltf_c_block.specs.contracts.Full as full
use Rattle.gltf_c_block.specs.contracts.vec_of as f
use Rattle.gltf_c_block.proofs.vec_of.Statement.{statement}
use Rattle.gltf_c_block.proofs.vec_of.Code as code

abbrev stayed : Stays f.ended.signature.params f.ended.kept
stayed = (
  stay_dropped (plain (λ _. heap.the_row)) yes,
  (stay_dropped (plain (λ _. full.the_row)) yes, tt),
)

pub vec_of_spec : {M : Type 1} → statement M
vec_of_spec 𝓤 𝓛 𝓜 𝓡 wired =
    let c = f.clauses 𝓛 𝓜.mem 𝓡.returns in
    let 𝓣 = tables 𝓤 𝓛.H 𝓜 𝓡 𝓡.env in let fn = code.function in
    proved_at 𝓛 f.ended stayed c 𝓜 𝓡 (
      Goes-dropped 𝓛 0 (plain (λ _. heap.the_row)) yes (λ κs x w. refl),
      (Goes-dropped 𝓛 0 (plain (λ _. full.the_row)) yes (λ κs x w. refl), tt),
    )
    f.Key.name fn (code.unfolded 𝓤 𝓛.H 𝓜 𝓡 wired) (λ z are.
    let κs = z.0.0 in let a = z.0.3.0 in let d = z.0.3.1.0 in let n = d.size in
    let Post : Val → SProp 𝓤 = (walk_of 𝓛 f.ended stayed c).post z in
    let Run : List Val → SProp 𝓤 = λ ws. WpFn 𝓤 𝓛.H 𝓣.C 𝓣.Λ fn ws Post in
    let given = ‵ (owns (types_at f.ended.signature.params κs) z.0.3 z.0.4) in
    qed 𝓛 ((‵ ftrue ⊛ given) ∷ raw ((c κs z.0.3).requires z.1) ∷ []) ∵
    split ! $ drop ! $ fsplit ! $
    handle_tells al ! a z.0.4.0 (λ h h_is h_typed. move ! (1 ∷ []) $ fsplit ! $
    full_out ! d z.0.4.1.0 (λ b o is fits small long. move ! (0 ∷ 2 ∷ []) $
    -- [the memory; the allocator; no more parameters; what is asked]
    let block_words : Val = words (block_ptr b o) n in let out : Val = vec_words h b o n in
    let typed : Good (lone Bytes.mir) out = vec_typed h b o n h_typed fits in
    let args : List Val = h ∷ block_words ∷ [] in
    suffices ! (Run args) (subst (λ (us : List Val). ent 𝓤 (Run args) (Run us))
    (sym (λ i. h_is i ++ (is i ++ []))) (id⊢ 𝓤 (Run args))) $
    enter ! 𝓣.C 𝓣.Λ fn args Post $
    alloc_all ! (λ l. pass_all ! refl (h_typed, ((tt, (tt, (record { fits = fits }, tt))), tt)) $
    let Ev = env fn.locals l in let parts : Ty = (spot_of 𝓤 𝓛.H Ev 5).0 in
    sets ! (of_opd ! (get_in ! (fld ! refl (stop !)) (sub ! 0 refl (whole !)))) refl (tt, tt) $
    sets ! (of_opd ! (get_in ! (fld ! refl (stop !)) (sub ! 1 refl (whole !)))) refl
    (tt, record { fits = fits }) $
    sets ! (of_opd ! (get ! refl)) refl (tt, tt) $
    sets ! (agg ! (and_then ! (get ! refl) (and_then ! (get ! refl) (and_then ! (get ! refl)
    (and_then ! (get ! refl) (no_more !)))))) refl typed $
    first ! $ blocks ! $ sets ! (addr ! (from ! (stop !))) refl (tt, tt) $
    take_at ! 5 $
    use1 𝓛 (‵ (fat full_share _ _ _ _)) (𝓛.laws.at_raw full_share parts (l 5) 0 out) $
    -- [the cell of `parts`, with no name; the memory; the allocator; no more; what is asked]
    sets_last ! (of_opd ! (load ! (through ! refl (stop !)) (look_raw ! 0 refl))) refl typed $
    exec ! 𝓣.C 𝓣.Λ Ev (after 5 fn.body) (at_ret Ev Post) $
    use1 𝓛 (‵ (fat full_share parts (l 5) 0 out))
    (𝓛.laws.raw_at full_share parts (l 5) 0 out) $
    give_at ! 5 $
    sets ! (of_opd ! (get ! refl)) refl typed $
    returns ! (look_at ! 0 refl) $ free_all ! refl $ keep ! (0 ∷ 1 ∷ []) $
    vec_in ! a h b o n d.bytes fits small long $
    suffices ! _ (ends_at 𝓛 f.ended stayed c z out (made a (block_ptr b o) n d.bytes long small)
    (tt, (tt, tt)) (tt, (tt, tt))) $ says ! refl $
    nothing ! $ nothing ! $ join ! $ nothing ! $ join ! $ nothing ! $ done !))))
