-- The lists of a mesh's primitives, and of what stands in these.
use Rattle.std.specs.Prelude.{◌≡◌, List, [], length, Option, Some, None}
use Rattle.std.specs.Option.{option_and_then}
use Rattle.gltf_json_geometry.specs.declared.mesh.Mesh.{Mesh as MeshRecord}
use Rattle.gltf_json_geometry.specs.declared.mesh.Primitive.{Primitive as PrimitiveRecord}
use Rattle.gltf_json_geometry.specs.declared.extensions.mesh.Mapping.{Mapping as MappingRecord}
use Rattle.gltf_json_geometry.specs.declared.extensions.mesh.Primitive as extended
use Rattle.gltf_json_geometry.specs.declared.extensions.mesh.KhrMaterialsVariants.{
  KhrMaterialsVariants,
}
use Rattle.gltf_rules.specs.declared.records.Records.{Ghosts}
use Rattle.gltf_handles.specs.Handle.{Handle}
use Rattle.gltf_handles.specs.Positions.{Position, IsWhole}
use Rattle.gltf_scene.specs.Meshes.{mesh_handle, primitive_handle}
use Rattle.gltf_scene.specs.declared.mesh.iter.PrimitivesOf.{PrimitivesOf}
use Rattle.gltf_scene.specs.declared.mesh.iter.MorphTargetsOf.{MorphTargetsOf}
use Rattle.gltf_scene.specs.declared.mesh.iter.MappingsOf.{MappingsOf}

-- the mappings of a primitive (KHR_materials_variants): none, where the extension is absent
abbrev pub mappings_within : Option KhrMaterialsVariants → List MappingRecord
mappings_within None = []
mappings_within (Some extension) = extension.mappings.items

abbrev pub mappings_of : Option extended.Primitive → List MappingRecord
mappings_of extensions =
    mappings_within (option_and_then (λ e. e.khr_materials_variants) extensions)

module _ {D : Type 0} {G : Ghosts D} where
  -- the primitives of a mesh, all of them
  abbrev pub ArePrimitives : Handle MeshRecord → Position (PrimitivesOf D G) → Type 0
  ArePrimitives m p = IsWhole (λ s. mesh_handle s.mesh ≡ m) (length m.json.primitives.items) p

  -- the morph targets and the mappings of a primitive, all of them
  abbrev pub AreMorphTargets : Handle PrimitiveRecord → Position (MorphTargetsOf D G) → Type 0
  AreMorphTargets q p =
      IsWhole (λ s. primitive_handle s.primitive ≡ q) (length q.json.targets.items) p

  abbrev pub AreMappings : Handle PrimitiveRecord → Position (MappingsOf D G) → Type 0
  AreMappings q p =
      IsWhole (λ s. primitive_handle s.primitive ≡ q) (length (mappings_of q.json.extensions)) p
