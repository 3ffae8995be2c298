-- What is read of the morph targets of a primitive (glTF 2.0, section 3.7.2.2, "Morph Targets").
use Rattle.std.specs.Prelude.{◌≡◌, ℕ, Option, Some, slice_get}
use Rattle.gltf_json_geometry.specs.declared.mesh.MorphTarget.{MorphTarget as MorphTargetRecord}
use Rattle.gltf_json.specs.declared.root.Root.{Root}
use Rattle.gltf_rules.specs.contracts.records.ValidRecords.TheImpl as valid
use Rattle.gltf_handles.specs.Lists.{position}
use Rattle.gltf_handles.specs.Positions.{Position}
use Rattle.gltf_items.specs.declared.item.Item.{Ghosts}
use Rattle.gltf_data.specs.Answers.{Results}
use Rattle.gltf_data.specs.declared.accessor_iter.Iter.{Iter}
use Rattle.gltf_scene.specs.Meshes.{primitive_handle}
use Rattle.gltf_scene.specs.declared.mesh.iter.MorphTargetsOf.{MorphTargetsOf}
use Rattle.gltf_read.specs.Reading.{AreItems, ReadsMember}
use Rattle.gltf_read.specs.declared.morph_targets.ReadMorphTargets.{ReadMorphTargets}

-- the morph targets that are left
abbrev pub targets_left : {F : Type 0} → ReadMorphTargets F
    → Position (MorphTargetsOf Root valid.ghosts)
targets_left t = position t.targets

-- the closure that gives the bytes of buffers
abbrev pub closure_of : {F : Type 0} → ReadMorphTargets F → F
closure_of t = t.get_buffer_data.now

-- what it adds to positions, normals and tangents, each read of the accessor that it names
pub record IsTargetRead {X : Type 0} {t : Ghosts X} (Gives : Results) (r : Root)
    (target : MorphTargetRecord)
    (x : Option (Iter X t) × Option (Iter X t) × Option (Iter X t)) : Type 0 where
  pub positions : ReadsMember AreItems Gives r target.positions x.0
  pub normals : ReadsMember AreItems Gives r target.normals x.1
  pub tangents : ReadsMember AreItems Gives r target.tangents x.2

-- the same of target i of a primitive
abbrev pub GivesTarget : {X : Type 0} → {t : Ghosts X} → Results
    → MorphTargetsOf Root valid.ghosts → ℕ
    → Option (Iter X t) × Option (Iter X t) × Option (Iter X t) → Type 0
GivesTarget Gives source i x =
    (target : MorphTargetRecord)
    × (slice_get (primitive_handle source.primitive).json.targets.items i ≡ Some target)
    × IsTargetRead Gives (primitive_handle source.primitive).document target x
