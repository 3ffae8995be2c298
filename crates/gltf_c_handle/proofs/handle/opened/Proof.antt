-- The contract of `opened`: None of a closed handle, else a `Bare` with the file of the handle. The
-- proof is by hand, because both own memory at their pointer. It goes by cases on what the handle
-- holds (`by_value` of `Held`): the pointer is null and owns nothing, or it owns the file and may
-- be compared with null. Each case enters the code and follows the branch that `is_null` takes; the
-- other branch is absurd. `bare_in` makes a `Bare` of the pointer and what it owns.
use Rattle.std.proofs.Common.{List, [], ◌∷◌, ◌++◌, refl, sym, ap, ◌∙◌, subst, lit<}
use mir.Val.{Val, vcons, vnil}
use base.Fml.{ftrue}
use base.Logic.{SProp, ent, id⊢}
use contract.Running.{tables}
use prog.Wp.{WpFn}
use types.Kit.{‵, raw, ◌⊛◌, at_ret, ◌$◌, ◌∵◌, !, qed, keep, drop, split, join, fsplit, suffices}
use types.Kit.{use0, use1, done}
use types.Run.{stop, fld, lit, of_opd, bin, no_more, and_then, first, branches, exec, returns}
use types.Run.{enter}
use types.ByLocal.{alloc_all, pass_all, free_all, look_at, get, get_in, sets, sets_last, env}
use types.Part.{agg, sub, whole}
use types.Match.{live}
use denote.Exit.{yes}
use denote.Param.{layout}
use denote.RattleType.{RattleType, owns}
use denote.RawPtr.{Ptr, block_ptr, null_ptr, tests_null}
use denote.Signature.{types_at, type_at, plain}
use denote.Steps.{nothing}
use denote.Triple.Walked.{Stays, walk_of, stay_dropped, Goes-dropped, says, ends_at}
use Rattle.core.proofs.alloc.Shapes.{after}
use Rattle.core.proofs.cell.Inside.{Good}
use Rattle.core.proofs.option.Made.{Some-of, none_of}
use Rattle.std.proofs.raw_atomic.Walks.{proved_at}
use Rattle.std.specs.declared.option.Option.TheVariants.{None, Some}
use Rattle.gltf_c_handle.proofs.Pointed.{pointer, bare_in}
use Rattle.gltf_c_handle.proofs.Held.{handle_out, by_value}
use Rattle.gltf_c_handle.specs.contracts.bare.Bare as bare
use Rattle.gltf_c_open.specs.contracts.file.File.{the_row as held}
use Rattle.gltf_c_handle.specs.contracts.handle.GltfFile as handle
use Rattle.gltf_c_handle.specs.contracts.handle.opened as f
use Rattle.gltf_c_handle.proofs.handle.opened.Statement.{statement}
use Rattle.gltf_c_handle.proofs.handle.opened.Code as code

abbrev Part : RattleType
Part = bare.the_row held

abbrev stayed : Stays f.ended.signature.params f.ended.kept
stayed = (stay_dropped (plain (λ _. handle.the_row)) yes, tt)

pub opened_spec : {M : Type 1} → statement M
opened_spec 𝓤 𝓛 𝓜 𝓡 wired =
    let c = f.clauses 𝓛 𝓜.mem 𝓡.returns in let 𝓣 = tables 𝓤 𝓛.H 𝓜 𝓡 𝓡.env in
    let fn = code.function in
    proved_at 𝓛 f.ended stayed c 𝓜 𝓡 (
      Goes-dropped 𝓛 0 (plain (λ _. handle.the_row)) yes (λ κs x w.
          refl),
      tt,
    )
    f.Key.name fn (code.unfolded 𝓤 𝓛.H 𝓜 𝓡 wired) (λ z are.
    let κs = z.0.0 in let given = z.0.3.0 in
    let Out : RattleType = type_at f.ended.signature.result κs in
    let Post : Val → SProp 𝓤 = (walk_of 𝓛 f.ended stayed c).post z in
    let Run : List Val → SProp 𝓤 = λ ws. WpFn 𝓤 𝓛.H 𝓣.C 𝓣.Λ fn ws Post in
    let shut : Val = live 0 vnil in
    qed 𝓛 ((‵ ftrue ⊛ ‵ (owns (types_at f.ended.signature.params κs) z.0.3 z.0.4)) ∷ raw ((c κs
    z.0.3).requires z.1) ∷ []) ∵
    split ! $ drop ! $ fsplit ! $
    handle_out ! given z.0.4.0 (λ is. by_value ! given.at given.value
    (λ is_none at_null. let word : Val = pointer null_ptr in
    suffices ! (Run (word ∷ [])) (subst (λ (us : List Val). ent 𝓤 (Run (word ∷ [])) (Run us)) (sym
    (λ i. (is ∙ ap (λ (p : Ptr). pointer p ∷ []) at_null) i ++ [])) (id⊢ 𝓤 (Run (word ∷ [])))) $
    enter ! 𝓣.C 𝓣.Λ fn (word ∷ []) Post $ alloc_all ! (λ l. pass_all ! refl (
      (
        tt,
        (
          record {
            fits =
                lit< tt;
          },
          tt,
        ),
      ),
      tt,
    ) $ let Ev = env fn.locals l in
    sets ! (of_opd ! (get_in ! (fld ! refl (stop !)) (sub ! 0 refl (whole !)))) refl (
      tt,
      record {
        fits = lit< tt;
      },
    ) $
    sets ! (bin ! (get ! refl) (lit ! tt) (tests_null null_ptr (lit< tt))) refl (tt, tt) $ first !
    $ branches ! (get ! refl)
    (λ _. sets_last ! (agg ! (and_then ! (lit ! tt) (no_more !))) refl (
      tt,
      (
        record {
          fits = lit<
              tt;
        },
        tt,
      ),
    ) $
    exec ! 𝓣.C 𝓣.Λ Ev (after 3 fn.body) (at_ret Ev Post) $ sets ! (of_opd ! (get ! refl)) refl (
      tt,
      (record { fits = lit< tt }, tt),
    ) $
    returns ! (look_at ! 0 refl) $ free_all ! refl $ keep ! [] $
    suffices ! _ (ends_at 𝓛 f.ended stayed c z shut None (tt, tt) (tt, tt)) $ says ! (sym is_none) $
    use0 𝓛 (‵ (Out.own_val None (shut ∷ []))) (none_of 𝓛 Part) $ nothing ! $ nothing ! $ join ! $
    nothing ! $ done !)
    (λ wrong. absurd wrong)))
    (λ b o x is_some at_b may. let word : Val = pointer (block_ptr b o) in
    let out : Val = live 1 (vcons word vnil) in let part : Part.Denot = record {
      at = block_ptr b
          o;
      value = x;
    } in
    let good : Good (layout Out) out = (tt, (record { fits = lit< tt }, ((tt, tt), tt))) in
    suffices ! (Run (word ∷ [])) (subst (λ (us : List Val). ent 𝓤 (Run (word ∷ [])) (Run us)) (sym
    (λ i. (is ∙ ap (λ (p : Ptr). pointer p ∷ []) at_b) i ++ [])) (id⊢ 𝓤 (Run (word ∷ [])))) $
    enter ! 𝓣.C 𝓣.Λ fn (word ∷ []) Post $ alloc_all ! (λ l. pass_all ! refl ((tt, (tt, tt)), tt) $
    let Ev = env fn.locals l in
    sets ! (of_opd ! (get_in ! (fld ! refl (stop !)) (sub ! 0 refl (whole !)))) refl (tt, tt) $
    sets ! (bin ! (get ! refl) (lit ! tt) (tests_null (block_ptr b o) may)) refl (tt, tt) $ first !
    $ branches ! (get ! refl)
    (λ wrong. absurd wrong)
    (λ _. sets ! (of_opd ! (get ! refl)) refl (tt, tt) $
    sets ! (agg ! (and_then ! (get ! refl) (no_more !))) refl (tt, (tt, tt)) $
    sets_last ! (agg ! (and_then ! (lit ! tt) (and_then ! (get ! refl) (no_more !)))) refl good $
    exec ! 𝓣.C 𝓣.Λ Ev (after 3 fn.body) (at_ret Ev Post) $ sets ! (of_opd ! (get ! refl)) refl good
    $
    returns ! (look_at ! 0 refl) $ free_all ! refl $ keep ! (0 ∷ []) $
    bare_in held ! (block_ptr b o) x $ use1 𝓛 (‵ (Out.own_val (Some part) (out ∷ []))) (Some-of 𝓛
    Part part word) $
    suffices ! _ (ends_at 𝓛 f.ended stayed c z out (Some part) (tt, tt) (tt, tt)) $ says ! (sym
    is_some) $
    nothing ! $ nothing ! $ join ! $ nothing ! $ done !)))))
