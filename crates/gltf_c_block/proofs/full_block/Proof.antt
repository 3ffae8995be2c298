-- The contract of `full_block`: None of an empty block, else a `Full` with its bytes. The proof is
-- by hand, because both own memory at their pointer. It takes the block apart (`block_out`), enters
-- the code and follows the branch. In the first arm there are no bytes (`no_bytes`). In the second
-- the block owns its memory, of which `full_in` makes the result.
use Rattle.std.proofs.Common.{List, [], ◌∷◌, ◌++◌, refl, sym, subst, lit<}
use mathlib.Core.Bool.{Bool}
use base.Fml.{ftrue}
use base.Logic.{SProp, ent, id⊢}
use contract.Running.{tables}
use mir.Val.{Val, vnil}
use prog.Wp.{WpFn}
use types.Kit.{‵, raw, ◌⊛◌, at_ret, ◌$◌, ◌∵◌, !, qed, keep, drop, use0, use1}
use types.Kit.{split, join, fsplit, rewrite, suffices, done}
use types.Match.{live}
use types.Run.{stop, fld, lit, bin, of_opd, no_more, and_then, first, branches, exec, returns}
use types.Run.{enter}
use types.ByLocal.{alloc_all, pass_all, free_all, look_at, get, get_in, sets, sets_last, env}
use types.Part.{agg, sub, whole}
use denote.Exit.{yes}
use denote.RattleType.{RattleType, owns}
use denote.Signature.{types_at, type_at, plain}
use denote.Steps.{nothing}
use denote.Triple.Walked.{Stays, walk_of, stay_dropped, Goes-dropped, says, ends_at}
use Rattle.core.proofs.alloc.Shapes.{after}
use Rattle.core.proofs.option.Made.{Some-of, none_of}
use Rattle.std.proofs.raw_atomic.Walks.{proved_at}
use Rattle.std.specs.declared.option.Option.TheVariants.{None, Some}
use Rattle.std_alloc.proofs.Flags.{T_true}
use Rattle.std_alloc.specs.Vec.Ownership.{owns_if, has_block}
use Rattle.gltf_c_block.proofs.Blocks.{block_out, full_in}
use Rattle.gltf_c_block.proofs.Typed.{words, some_words, no_bytes}
use Rattle.gltf_c_block.proofs.Typed.{pointer_typed, words_typed, some_typed}
use Rattle.gltf_c_block.specs.Owned.{memory_owns}
use Rattle.gltf_c_block.specs.contracts.GltfBlock as block
use Rattle.gltf_c_block.specs.contracts.Full as full
use Rattle.gltf_c_block.specs.contracts.full_block as f
use Rattle.gltf_c_block.proofs.full_block.Statement.{statement}
use Rattle.gltf_c_block.proofs.full_block.Code as code

abbrev stayed : Stays f.ended.signature.params f.ended.kept
stayed = (stay_dropped (plain (λ _. block.the_row)) yes, tt)

pub full_block_spec : {M : Type 1} → statement M
full_block_spec 𝓤 𝓛 𝓜 𝓡 wired =
    let c = f.clauses 𝓛 𝓜.mem 𝓡.returns in
    let 𝓣 = tables 𝓤 𝓛.H 𝓜 𝓡 𝓡.env in let fn = code.function in
    proved_at 𝓛 f.ended stayed c 𝓜 𝓡
    (Goes-dropped 𝓛 0 (plain (λ _. block.the_row)) yes (λ κs x w. refl), tt)
    f.Key.name fn (code.unfolded 𝓤 𝓛.H 𝓜 𝓡 wired) (λ z are.
    let κs = z.0.0 in let d = z.0.3.0 in let p = d.at in let n = d.size in
    let Out : RattleType = type_at f.ended.signature.result κs in
    let Post : Val → SProp 𝓤 = (walk_of 𝓛 f.ended stayed c).post z in
    let Run : List Val → SProp 𝓤 = λ ws. WpFn 𝓤 𝓛.H 𝓣.C 𝓣.Λ fn ws Post in
    let given = ‵ (owns (types_at f.ended.signature.params κs) z.0.3 z.0.4) in
    let block_words : Val = words p n in let some : Val = some_words p n in
    let none : Val = live 0 vnil in
    let result : full.the_row.Denot = record { at = p; size = n; bytes = d.bytes } in
    qed 𝓛 ((‵ ftrue ⊛ given) ∷ raw ((c κs z.0.3).requires z.1) ∷ []) ∵
    split ! $ drop ! $ fsplit ! $ block_out ! d z.0.4.0 (λ is fits long.
    let args : List Val = block_words ∷ [] in
    suffices ! (Run args) (subst (λ (us : List Val). ent 𝓤 (Run args) (Run us))
    (sym (λ i. is i ++ [])) (id⊢ 𝓤 (Run args))) $
    enter ! 𝓣.C 𝓣.Λ fn args Post $
    alloc_all ! (λ l. pass_all ! refl (words_typed p n fits, tt) $ let Ev = env fn.locals l in
    -- [what the block owns; no more parameters; what is asked; the locals]
    sets ! (of_opd ! (get_in ! (fld ! refl (stop !)) (sub ! 0 refl (whole !)))) refl
    (pointer_typed p) $
    sets ! (of_opd ! (get_in ! (fld ! refl (stop !)) (sub ! 1 refl (whole !)))) refl
    (tt, record { fits = fits }) $
    sets ! (bin ! (get ! refl) (lit ! tt) tt) refl (tt, tt) $ first ! $ branches ! (get ! refl)
    (λ empty.
    sets_last ! (agg ! (and_then ! (lit ! tt) (no_more !))) refl
    (tt, (record { fits = lit< tt }, tt)) $
    exec ! 𝓣.C 𝓣.Λ Ev (after 4 fn.body) (at_ret Ev Post) $
    sets ! (of_opd ! (get ! refl)) refl (tt, (record { fits = lit< tt }, tt)) $
    returns ! (look_at ! 0 refl) $ free_all ! refl $ keep ! [] $
    suffices ! _ (ends_at 𝓛 f.ended stayed c z none None (tt, tt) (tt, tt)) $
    says ! (no_bytes n d.bytes long empty) $
    use0 𝓛 (‵ (Out.own_val None (none ∷ []))) (none_of 𝓛 full.the_row) $
    nothing ! $ nothing ! $ join ! $ nothing ! $ done !)
    (λ filled.
    sets ! (agg ! (and_then ! (get ! refl) (and_then ! (get ! refl) (no_more !)))) refl
    (words_typed p n fits) $
    sets_last ! (agg ! (and_then ! (lit ! tt) (and_then ! (get ! refl) (no_more !)))) refl
    (some_typed p n fits) $
    exec ! 𝓣.C 𝓣.Λ Ev (after 4 fn.body) (at_ret Ev Post) $
    sets ! (of_opd ! (get ! refl)) refl (some_typed p n fits) $
    returns ! (look_at ! 0 refl) $ free_all ! refl $ keep ! (0 ∷ []) $
    rewrite ! 0 (λ (y : Bool). ‵ (owns_if y (memory_owns p n d.bytes)))
    (T_true (has_block n) filled) refl $
    full_in ! p n d.bytes fits long $
    use1 𝓛 (‵ (Out.own_val (Some result) (some ∷ [])))
    (Some-of 𝓛 full.the_row result block_words) $
    suffices ! _ (ends_at 𝓛 f.ended stayed c z some (Some result) (tt, tt) (tt, tt)) $
    says ! refl $ nothing ! $ nothing ! $ join ! $ nothing ! $ done !))))
