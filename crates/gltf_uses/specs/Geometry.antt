-- The indices in accessors (glTF 2.0, section 3.6.2), buffer views (section 3.6.1) and meshes
-- (section 3.7), in the order of their members.
use Rattle.std.specs.Prelude.{codes, List, [], ◌∷◌}
use Rattle.gltf_json_geometry.specs.Semantics.{semantic_name}
use Rattle.gltf_json_geometry.specs.declared.accessor.sparse.Indices.{Indices}
use Rattle.gltf_json_geometry.specs.declared.accessor.sparse.Values.{Values}
use Rattle.gltf_json_geometry.specs.declared.accessor.sparse.Sparse.{Sparse}
use Rattle.gltf_json_geometry.specs.declared.accessor.Accessor.{Accessor}
use Rattle.gltf_json_geometry.specs.declared.buffer.View.{View}
use Rattle.gltf_json_geometry.specs.declared.extensions.mesh.KhrMaterialsVariants.{
  KhrMaterialsVariants,
}
use Rattle.gltf_json_geometry.specs.declared.extensions.mesh.Mapping.{Mapping}
use Rattle.gltf_json_geometry.specs.declared.extensions.mesh.Primitive as extended
use Rattle.gltf_json_geometry.specs.declared.mesh.Mesh.{Mesh}
use Rattle.gltf_json_geometry.specs.declared.mesh.MorphTarget.{MorphTarget}
use Rattle.gltf_json_geometry.specs.declared.mesh.Primitive.{Primitive}
use Rattle.gltf_json_geometry.specs.declared.semantic.Semantic.{Semantic}
use Rattle.gltf_json_record.specs.Place.{keyed}
use Rattle.gltf_uses.specs.declared.kind.Kind.TheVariants as list
use Rattle.gltf_uses.specs.Uses.{Uses, Nothing, Use, At, ◌&◌, member, optional_uses, list_uses}

abbrev pub indices_uses : Indices → Uses
indices_uses r = member (codes "bufferView") (Use list.View r.buffer_view)

abbrev pub values_uses : Values → Uses
values_uses r = member (codes "bufferView") (Use list.View r.buffer_view)

abbrev pub sparse_uses : Sparse → Uses
sparse_uses r =
    member (codes "indices") (indices_uses r.indices)
    & member (codes "values") (values_uses r.values)

abbrev pub accessor_uses : Accessor → Uses
accessor_uses r =
    member (codes "bufferView") (optional_uses (Use list.View) r.buffer_view)
    & member (codes "sparse") (optional_uses sparse_uses r.sparse)

abbrev pub view_uses : View → Uses
view_uses r = member (codes "buffer") (Use list.Buffer r.buffer)

abbrev pub morph_target_uses : MorphTarget → Uses
morph_target_uses r =
    member (codes "POSITION") (optional_uses (Use list.Accessor) r.positions)
    & member (codes "NORMAL") (optional_uses (Use list.Accessor) r.normals)
    & member (codes "TANGENT") (optional_uses (Use list.Accessor) r.tangents)

-- the attributes, in the order of their meanings
abbrev pub entries_uses : {T : Type 0} → (T → Uses) → List (Semantic × T) → Uses
entries_uses uses [] = Nothing
entries_uses uses (entry ∷ entries) =
    At (keyed (semantic_name entry.0)) (uses entry.1) & entries_uses uses entries

-- the material that variants give to a primitive (KHR_materials_variants)
abbrev pub mapping_uses : Mapping → Uses
mapping_uses r = member (codes "material") (Use list.Material r.material)

abbrev pub variants_uses : KhrMaterialsVariants → Uses
variants_uses r = member (codes "mappings") (list_uses mapping_uses r.mappings.items)

abbrev pub primitive_extensions_uses : extended.Primitive → Uses
primitive_extensions_uses r =
    member (codes "KHR_materials_variants") (optional_uses variants_uses r.khr_materials_variants)

abbrev pub primitive_uses : Primitive → Uses
primitive_uses r =
    member (codes "attributes") (entries_uses (Use list.Accessor) r.attributes.entries)
    & member (codes "indices") (optional_uses (Use list.Accessor) r.indices)
    & member (codes "material") (optional_uses (Use list.Material) r.material)
    & member (codes "targets") (list_uses morph_target_uses r.targets.items)
    & member (codes "extensions") (optional_uses primitive_extensions_uses r.extensions)

abbrev pub mesh_uses : Mesh → Uses
mesh_uses r = member (codes "primitives") (list_uses primitive_uses r.primitives.items)
