-- Meshes and their primitives (glTF 2.0, section 3.7).
use Rattle.std.specs.Prelude.{codes}
use Rattle.serde_json.specs.View.{view}
use Rattle.serde_json.specs.declared.value.Value.{Value}
use Rattle.std.specs.Prelude.{ℕ, Bool}
use Rattle.gltf_json.specs.declared.root.Root.{Root}
use Rattle.gltf_json_geometry.specs.declared.mesh.Mesh.{Mesh}
use Rattle.gltf_json_geometry.specs.declared.mesh.Primitive.{Primitive}
use Rattle.gltf_findings.specs.declared.code.Code.TheVariants.{UnequalTargetsCount}
use Rattle.gltf_findings.specs.declared.code.Code.TheVariants.{MeshInvalidWeightsCount}
use Rattle.gltf_findings.specs.Checks.{Checks, Condition, ◌&◌, member, optional_checks, list_checks}
use Rattle.gltf_inspect_meshes.specs.Coords.{material_checks}
use Rattle.gltf_inspect_meshes.specs.Formats.{formats_checks, declares_quantization}
use Rattle.gltf_inspect_meshes.specs.Modes.{drawn, mode_checks}
use Rattle.gltf_inspect_meshes.specs.Sets.{sets_checks}
use Rattle.gltf_inspect_meshes.specs.Targets.{targets_checks, have_targets, target_count}
use Rattle.gltf_inspect_meshes.specs.Weights.{is_list_of}

abbrev pub primitive_checks : Root → Bool → Primitive → Checks
primitive_checks r quantized p =
    member (codes "attributes")
    (sets_checks p.attributes.entries & formats_checks r quantized p.attributes.entries)
    & optional_checks (mode_checks p.mode) (drawn r.accessors.items p.indices p.attributes.entries)
    & material_checks r p
    & member (codes "targets") (targets_checks r.accessors.items p)

abbrev pub weights_checks : ℕ → Value → Checks
weights_checks count weights = Condition (is_list_of count (view weights)) MeshInvalidWeightsCount

abbrev pub mesh_checks : Root → Bool → Mesh → Checks
mesh_checks r quantized m =
    member (codes "primitives")
    (Condition (have_targets (target_count m.primitives.items) m.primitives.items)
    UnequalTargetsCount
    & list_checks (primitive_checks r quantized) m.primitives.items)
    & member (codes "weights")
    (optional_checks (weights_checks (target_count m.primitives.items)) m.weights)

abbrev pub meshes_checks : Root → Checks
meshes_checks r =
    member (codes "meshes") (list_checks (mesh_checks r (declares_quantization r)) r.meshes.items)
