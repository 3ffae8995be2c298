-- The rules of meshes, their primitives and morph targets (glTF 2.0, section 3.7), in the order of
-- their members.
use Rattle.std.specs.Prelude.{codes, false, List, [], ◌∷◌}
use Rattle.std.specs.String.{string_bytes}
use Rattle.std.specs.declared.string.String.{String}
use Rattle.std.specs.declared.alloc.Global.{Global}
use Rattle.gltf_json_geometry.specs.Semantics.{semantic_name}
use Rattle.gltf_json_geometry.specs.declared.semantic.Semantic.{Semantic}
use Rattle.gltf_json_geometry.specs.declared.mesh.MorphTarget.{MorphTarget}
use Rattle.gltf_json_geometry.specs.declared.mesh.Primitive.{Primitive}
use Rattle.gltf_json_geometry.specs.declared.mesh.Mesh.{Mesh}
use Rattle.gltf_json_record.specs.Place.{keyed}
use Rattle.gltf_validation.specs.declared.counts.Counts.{Counts}
use Rattle.gltf_validation.specs.declared.error.Error.TheVariants.{Invalid}
use Rattle.gltf_validation.specs.Rules.{Rules, Nothing, Condition, At, ◌&◌}
use Rattle.gltf_validation.specs.Members.{member, code_rules, index_rules, list_rules}
use Rattle.gltf_validation.specs.Members.{optional_rules}

abbrev pub morph_target_rules : Counts → MorphTarget → Rules
morph_target_rules c r =
    member (codes "POSITION") (optional_rules (index_rules c.accessors) r.positions)
    & member (codes "NORMAL") (optional_rules (index_rules c.accessors) r.normals)
    & member (codes "TANGENT") (optional_rules (index_rules c.accessors) r.tangents)

-- the attributes that have a meaning, in the order of their meanings
abbrev pub entries_rules : {T : Type 0} → (T → Rules) → List (Semantic × T) → Rules
entries_rules rules [] = Nothing
entries_rules rules (entry ∷ entries) =
    At (keyed (semantic_name entry.0)) (rules entry.1) & entries_rules rules entries

-- no attribute that has none is in order
abbrev pub unknown_rules : List (String Global) → Rules
unknown_rules [] = Nothing
unknown_rules (name ∷ names) =
    At (keyed (string_bytes name)) (Condition false Invalid) & unknown_rules names

abbrev pub primitive_rules : Counts → Primitive → Rules
primitive_rules c r =
    member (codes "attributes")
    (entries_rules (index_rules c.accessors) r.attributes.entries
    & unknown_rules r.unknown_attributes.items)
    & member (codes "indices") (optional_rules (index_rules c.accessors) r.indices)
    & member (codes "material") (optional_rules (index_rules c.materials) r.material)
    & member (codes "mode") (code_rules r.mode)
    & member (codes "targets") (list_rules (morph_target_rules c) r.targets.items)

abbrev pub mesh_rules : Counts → Mesh → Rules
mesh_rules c r =
    member (codes "primitives") (list_rules (primitive_rules c) r.primitives.items)
