-- `sealed` makes a handle of a pointer and of what it owns.
use Rattle.std.proofs.Common.{List, [], ◌∷◌, ◌++◌, refl, sym, subst}
use mir.Val.{Val}
use base.Fml.{ftrue}
use base.Logic.{SProp, ent, id⊢}
use contract.Running.{tables}
use prog.Wp.{WpFn}
use types.Kit.{‵, raw, ◌⊛◌, ◌$◌, ◌∵◌, !, qed, keep, drop, split, join, fsplit, suffices, done}
use types.Run.{stop, fld, of_opd, no_more, and_then, returns, enter}
use types.ByLocal.{alloc_all, pass_all, free_all, look_at, get, get_in, sets}
use types.Part.{agg, sub, whole}
use denote.Exit.{yes}
use denote.RattleType.{RattleType, owns}
use denote.RawPtr.{block_ptr}
use denote.Signature.{types_at, plain}
use denote.Steps.{nothing}
use denote.Triple.Walked.{Stays, walk_of, stay_dropped, Goes-dropped, says, ends_at}
use Rattle.std.proofs.raw_atomic.Walks.{proved_at}
use Rattle.std.specs.declared.option.Option.TheVariants.{Some}
use Rattle.gltf_c_handle.proofs.Pointed.{pointer, bare_out}
use Rattle.gltf_c_handle.proofs.Held.{handle_in}
use Rattle.gltf_c_handle.specs.contracts.bare.Bare as bare
use Rattle.gltf_c_open.specs.contracts.file.File.{the_row as held}
use Rattle.gltf_c_handle.specs.contracts.handle.sealed as f
use Rattle.gltf_c_handle.proofs.handle.sealed.Statement.{statement}
use Rattle.gltf_c_handle.proofs.handle.sealed.Code as code

abbrev Part : RattleType
Part = bare.the_row held

abbrev stayed : Stays f.ended.signature.params f.ended.kept
stayed = (stay_dropped (plain (λ _. Part)) yes, tt)

pub sealed_spec : {M : Type 1} → statement M
sealed_spec 𝓤 𝓛 𝓜 𝓡 wired =
    let c = f.clauses 𝓛 𝓜.mem 𝓡.returns in let 𝓣 = tables 𝓤 𝓛.H 𝓜 𝓡 𝓡.env in
    proved_at 𝓛 f.ended stayed c 𝓜 𝓡 (Goes-dropped 𝓛 0 (plain (λ _. Part)) yes (λ κs x w. refl), tt)
    f.Key.name code.function (code.unfolded 𝓤 𝓛.H 𝓜 𝓡 wired) (λ z are.
    let κs = z.0.0 in let part = z.0.3.0 in
    let Post : Val → SProp 𝓤 = (walk_of 𝓛 f.ended stayed c).post z in
    let Run : List Val → SProp 𝓤 = λ ws. WpFn 𝓤 𝓛.H 𝓣.C 𝓣.Λ code.function ws Post in
    qed 𝓛 ((‵ ftrue ⊛ ‵ (owns (types_at f.ended.signature.params κs) z.0.3 z.0.4)) ∷ raw ((c κs
    z.0.3).requires z.1) ∷ []) ∵
    split ! $ drop ! $ fsplit ! $
    bare_out held ! part z.0.4.0 (λ b o at is.
    let word : Val = pointer (block_ptr b o) in
    suffices ! (Run (word ∷ [])) (subst (λ (us : List Val). ent 𝓤 (Run (word ∷ [])) (Run us)) (sym
    (λ i. is i ++ [])) (id⊢ 𝓤 (Run (word ∷ [])))) $
    enter ! 𝓣.C 𝓣.Λ code.function (word ∷ []) Post $ alloc_all ! (λ l. pass_all ! refl (
      (
        tt,
        (
          tt,
          tt,
        ),
      ),
      tt,
    ) $
    sets ! (of_opd ! (get_in ! (fld ! refl (stop !)) (sub ! 0 refl (whole !)))) refl (tt, tt) $
    sets ! (of_opd ! (get ! refl)) refl (tt, tt) $
    sets ! (agg ! (and_then ! (get ! refl) (no_more !))) refl (tt, (tt, tt)) $
    returns ! (look_at ! 0 refl) $ free_all ! refl $ keep ! (0 ∷ []) $
    suffices ! _ (ends_at 𝓛 f.ended stayed c z word (record {
      at = block_ptr b o;
      value = Some
          part.value;
    }) (tt, tt) (tt, tt)) $ says ! refl $
    handle_in ! (block_ptr b o) (Some part.value) $ nothing ! $ nothing ! $ join ! $ nothing ! $
    done !)))
