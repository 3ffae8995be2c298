-- What two extensions of a view say, moved one after the other.
use Rattle.std.proofs.Common.{◌≡◌, List, Option, Some, None, Result, Ok, Err, refl, ap, sym, subst, ◌∙◌}
use Rattle.std.specs.Prelude.{IfOk, MatchOption, ⊤, option_map, option_and_then}
use Rattle.serde_json.specs.Data.{Data}
use Rattle.serde_json.specs.View.{view}
use Rattle.serde_json.specs.declared.value.Value.{Value}
use Rattle.gltf_edit.specs.Bundled.{relocated, relocated_at, relocated_extensions, unless_null}
use Rattle.gltf_edit.specs.Bundled.{meshopt, khr_meshopt, member_at, Lies, LiesAt, ExtensionLies}
use Rattle.gltf_edit.specs.BundledLaws.{differ, get_with_some_other}
use Rattle.gltf_edit.specs.declared.span.Span.{Span}

module _ (spans : List Span) (d : Data) where
  -- what the second says stays where the first one is moved
  second_stays : member_at khr_meshopt (relocated_at meshopt spans d) ≡ member_at khr_meshopt d
  second_stays =
      ap (option_and_then unless_null)
      (get_with_some_other khr_meshopt meshopt
      (option_map (relocated spans) (member_at meshopt d)) d (differ khr_meshopt meshopt refl))

  second_lies : LiesAt khr_meshopt spans (relocated_at meshopt spans d) → LiesAt khr_meshopt spans d
  second_lies lies = subst (λ (o : Option Data). MatchOption o ⊤ (Lies spans)) second_stays lies

  second_lay : LiesAt khr_meshopt spans d → LiesAt khr_meshopt spans (relocated_at meshopt spans d)
  second_lay lies =
      subst (λ (o : Option Data). MatchOption o ⊤ (Lies spans)) (sym second_stays) lies

  -- so both are
  pub both_moved : {E : Type 0} (once : Data) → once ≡ relocated_at meshopt spans d
      → LiesAt meshopt spans d → (r : Result (Option Value) E)
      → IfOk r (λ o. MatchOption o (LiesAt khr_meshopt spans once → ⊥)
      (λ v. (view v ≡ relocated_at khr_meshopt spans once) × LiesAt khr_meshopt spans once))
      → IfOk r (λ o. MatchOption o (ExtensionLies spans d → ⊥)
      (λ v. (view v ≡ relocated_extensions spans d) × ExtensionLies spans d))
  both_moved once is first (Err e) made = tt
  both_moved once is first (Ok None) made =
      λ lies. made (subst (LiesAt khr_meshopt spans) (sym is) (second_lay lies.second))
  both_moved once is first (Ok (Some v)) made = (
    made.0 ∙ ap (relocated_at khr_meshopt spans) is,
    record {
      first = first;
      second = second_lies (subst (LiesAt khr_meshopt spans) is made.1);
    },
  )
