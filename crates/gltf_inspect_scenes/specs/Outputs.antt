-- The values of samplers (glTF 2.0, section 3.11): their formats, and how many there are.
use Rattle.std.specs.Prelude.{ℕ, ◌==◌, ◌&&◌, if◌then◌else◌, Bool, true, false, not, slice_get}
use Rattle.std.specs.Prelude.{Option, Some, None, option_map, nat_lt}
use Rattle.std.specs.Option.{option_and_then}
use Rattle.gltf_json.specs.declared.root.Root.{Root}
use Rattle.gltf_json_record.specs.declared.validation.Checked.{Checked}
use Rattle.gltf_json_record.specs.declared.validation.Checked.TheVariants.{Valid, Invalid}
use Rattle.gltf_json_animation.specs.declared.animation.Interpolation.{Interpolation}
use Rattle.gltf_json_animation.specs.declared.animation.Interpolation.TheVariants.{CubicSpline}
use Rattle.gltf_json_animation.specs.declared.animation.Property.{Property}
use Rattle.gltf_json_animation.specs.declared.animation.Property.TheVariants.{Translation, Rotation}
use Rattle.gltf_json_animation.specs.declared.animation.Property.TheVariants.{Scale}
use Rattle.gltf_json_animation.specs.declared.animation.Property.TheVariants.{MorphTargetWeights}
use Rattle.gltf_json_geometry.specs.declared.accessor.ComponentType.{ComponentType}
use Rattle.gltf_json_geometry.specs.declared.accessor.ComponentType.TheVariants.{U32, F32}
use Rattle.gltf_json_geometry.specs.declared.accessor.Accessor.{Accessor}
use Rattle.gltf_json_geometry.specs.declared.mesh.Mesh.{Mesh}
use Rattle.gltf_json_scene.specs.declared.scene.Node.{Node}
use Rattle.gltf_inspect_meshes.specs.Formats.{width, is_float}
use Rattle.gltf_inspect_meshes.specs.Targets.{target_count}

-- "float, signed normalized byte, unsigned normalized byte, signed normalized short, unsigned
-- normalized short"
abbrev pub is_number : Checked ComponentType → Bool → Bool
is_number Invalid normalized = false
is_number (Valid U32) normalized = false
is_number (Valid F32) normalized = not normalized
is_number (Valid _) normalized = normalized

-- the table of paths; what is in no table is not asked
abbrev pub fits_path : Checked Property → Accessor → Bool
fits_path Invalid a = true
fits_path (Valid Translation) a = width a.type_ == 3 && is_float a.component_type a.normalized
fits_path (Valid Rotation) a = width a.type_ == 4 && is_number a.component_type a.normalized
fits_path (Valid Scale) a = width a.type_ == 3 && is_float a.component_type a.normalized
fits_path (Valid MorphTargetWeights) a =
    width a.type_ == 1 && is_number a.component_type a.normalized

abbrev pub is_weights : Checked Property → Bool
is_weights (Valid MorphTargetWeights) = true
is_weights _ = false

abbrev pub is_spline : Checked Interpolation → Bool
is_spline (Valid CubicSpline) = true
is_spline _ = false

abbrev pub mesh_morphs : Mesh → ℕ
mesh_morphs m = target_count m.primitives.items

abbrev pub index_morphs : Root → Option ℕ → Option ℕ
index_morphs r None = Some 0
index_morphs r (Some i) = option_map (λ m. mesh_morphs m) (slice_get r.meshes.items i)

-- how many morph targets the mesh of a node has: none is known where the node names a mesh that is
-- not there
abbrev pub node_morphs : Root → Node → Option ℕ
node_morphs r n = index_morphs r n.mesh

-- there are some, or none is known
abbrev pub are_some : Option ℕ → Bool
are_some None = true
are_some (Some count) = nat_lt 0 count

-- the values at a time: an in-tangent, a value and an out-tangent for a spline
abbrev pub values_at_time : Checked Interpolation → ℕ
values_at_time interpolation = if is_spline interpolation then 3 else 1

-- the items of a value: a weight for each morph target; none is known where the node or its mesh is
-- not there
abbrev pub items_of_value : Root → Checked Property → Option Node → Option ℕ
items_of_value r path node =
    if is_weights path then option_and_then (node_morphs r) node else Some 1
