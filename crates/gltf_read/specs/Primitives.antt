-- What the reader of a primitive reads.
use Rattle.std.specs.Prelude.{ℕ, Option}
use Rattle.std.specs.BTreeMap.{get_by}
use Rattle.gltf_json_geometry.specs.Semantics.{semantic_cmp}
use Rattle.gltf_json_geometry.specs.declared.mesh.Primitive.{Primitive as PrimitiveRecord}
use Rattle.gltf_json_geometry.specs.declared.semantic.Semantic.{Semantic}
use Rattle.gltf_handles.specs.Handle.{Handle}
use Rattle.gltf_scene.specs.Meshes.{primitive_handle}
use Rattle.gltf_read.specs.declared.mesh.Reader.{Reader}

-- the primitive
abbrev pub primitive_of : {F : Type 0} → Reader F → Handle PrimitiveRecord
primitive_of reader = primitive_handle reader.primitive

-- the closure that gives the bytes of buffers
abbrev pub closure_of : {F : Type 0} → Reader F → F
closure_of reader = reader.get_buffer_data.now

-- the index that a primitive has for an attribute
abbrev pub attribute : Handle PrimitiveRecord → Semantic → Option ℕ
attribute p s = get_by (semantic_cmp s) p.json.attributes
