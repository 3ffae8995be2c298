-- Handles of meshes, and of the primitives and morph targets that stand in them.
use Rattle.std.specs.Prelude.{ℕ}
use Rattle.gltf_json.specs.declared.root.Root.{Root}
use Rattle.gltf_json_geometry.specs.declared.mesh.Mesh.{Mesh as MeshRecord}
use Rattle.gltf_json_geometry.specs.declared.mesh.Primitive.{Primitive as PrimitiveRecord}
use Rattle.gltf_json_geometry.specs.declared.mesh.MorphTarget.{MorphTarget as MorphTargetRecord}
use Rattle.gltf_rules.specs.declared.records.Records.{Ghosts}
use Rattle.gltf_handles.specs.Handle.{Handle, IsAt}
use Rattle.gltf_handles.specs.Inner.{handle_at}
use Rattle.gltf_scene.specs.declared.mesh.Mesh.{Mesh}
use Rattle.gltf_scene.specs.declared.mesh.Primitive.{Primitive}
use Rattle.gltf_scene.specs.declared.mesh.MorphTarget.{MorphTarget}

module _ {D : Type 0} {G : Ghosts D} where
  -- what they show
  abbrev pub mesh_handle : Mesh D G → Handle MeshRecord
  mesh_handle m = handle_at m.inner m.index

  abbrev pub primitive_handle : Primitive D G → Handle PrimitiveRecord
  primitive_handle p = handle_at p.inner p.index

  abbrev pub morph_target_handle : MorphTarget D G → Handle MorphTargetRecord
  morph_target_handle t = handle_at t.inner t.index

  -- the handle of mesh i of a document
  abbrev pub IsMesh : Root → ℕ → Mesh D G → Type 0
  IsMesh r i m = IsAt r.meshes.items r i (mesh_handle m)

  -- the handle of primitive i of a mesh
  abbrev pub IsPrimitive : Handle MeshRecord → ℕ → Primitive D G → Type 0
  IsPrimitive m i p = IsAt m.json.primitives.items m.document i (primitive_handle p)

  -- the handle of morph target i of a primitive
  abbrev pub IsMorphTarget : Handle PrimitiveRecord → ℕ → MorphTarget D G → Type 0
  IsMorphTarget p i t = IsAt p.json.targets.items p.document i (morph_target_handle t)
