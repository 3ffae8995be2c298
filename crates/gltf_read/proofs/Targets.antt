-- From the handle of a morph target to what was read of it.
use Rattle.std.proofs.Common.{ℕ, subst}
use Rattle.std.specs.Prelude.{Option, Some}
use Rattle.gltf_json.specs.declared.root.Root.{Root}
use Rattle.gltf_rules.specs.contracts.records.ValidRecords.TheImpl as valid
use Rattle.gltf_handles.specs.Positions.{Position, Nth, Last}
use Rattle.gltf_items.specs.declared.item.Item.{Ghosts}
use Rattle.gltf_data.specs.Answers.{Results}
use Rattle.gltf_data.specs.declared.accessor_iter.Iter.{Iter}
use Rattle.gltf_scene.specs.Meshes.{primitive_handle, morph_target_handle, IsMorphTarget}
use Rattle.gltf_scene.specs.declared.mesh.MorphTarget.{MorphTarget}
use Rattle.gltf_scene.specs.declared.mesh.iter.MorphTargetsOf.{MorphTargetsOf}
use Rattle.gltf_read.specs.MorphTargets.{IsTargetRead, GivesTarget}

target_given : {X : Type 0} {t : Ghosts X} (Gives : Results)
    (source : MorphTargetsOf Root valid.ghosts) (i : ℕ) (target : MorphTarget Root valid.ghosts)
    (x : Option (Iter X t) × Option (Iter X t) × Option (Iter X t))
    → IsMorphTarget (primitive_handle source.primitive) i target
    → IsTargetRead Gives (morph_target_handle target).document (morph_target_handle target).json x
    → GivesTarget Gives source i x
target_given Gives source i target x is reads =
    let record_ = (morph_target_handle target).json in
    (record_, is.json, subst (λ d. IsTargetRead Gives d record_ x) is.document reads)

pub nth_given : {X : Type 0} {t : Ghosts X} (Gives : Results)
    (old new : Position (MorphTargetsOf Root valid.ghosts)) (n : ℕ)
    (target : MorphTarget Root valid.ghosts) (x : Option (Iter X t) × Option (Iter X t) × Option
    (Iter X t))
    → Nth (λ s i m. IsMorphTarget (primitive_handle s.primitive) i m) old n (Some target) new
    → IsTargetRead Gives (morph_target_handle target).document (morph_target_handle target).json x
    → Nth (GivesTarget Gives) old n (Some x) new
nth_given Gives old new n target x is reads = record {
  source = is.source;
  end = is.end;
  item = (is.item.0, target_given Gives old.source _ target x is.item.1 reads, is.item.2);
}

pub last_given : {X : Type 0} {t : Ghosts X} (Gives : Results)
    (p : Position (MorphTargetsOf Root valid.ghosts)) (target : MorphTarget Root valid.ghosts)
    (x : Option (Iter X t) × Option (Iter X t) × Option (Iter X t))
    → Last (λ s i m. IsMorphTarget (primitive_handle s.primitive) i m) p (Some target)
    → IsTargetRead Gives (morph_target_handle target).document (morph_target_handle target).json x
    → Last (GivesTarget Gives) p (Some x)
last_given Gives p target x is reads =
    (is.0, target_given Gives p.source _ target x is.1 reads)
