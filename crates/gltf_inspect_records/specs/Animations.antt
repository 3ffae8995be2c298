-- Animations (glTF 2.0, section 3.11).
use Rattle.std.specs.Prelude.{◌&&◌, ◌||◌, not, is_none, nat_le, slice_get, codes}
use Rattle.gltf_json.specs.declared.root.Root.{Root}
use Rattle.gltf_json_record.specs.declared.validation.Checked.{Checked}
use Rattle.gltf_json_animation.specs.declared.animation.Animation.{Animation}
use Rattle.gltf_json_animation.specs.declared.animation.Channel.{Channel}
use Rattle.gltf_json_animation.specs.declared.animation.Interpolation.{Interpolation}
use Rattle.gltf_json_animation.specs.declared.animation.Property.{Property}
use Rattle.gltf_json_animation.specs.declared.animation.Sampler.{Sampler}
use Rattle.gltf_json_geometry.specs.declared.accessor.Accessor.{Accessor}
use Rattle.gltf_json_scene.specs.declared.scene.Node.{Node}
use Rattle.gltf_findings.specs.declared.code.Code.TheVariants.{EmptyEntity, ChannelTargetMatrix}
use Rattle.gltf_findings.specs.declared.code.Code.TheVariants.{InputInvalidFormat}
use Rattle.gltf_findings.specs.declared.code.Code.TheVariants.{InputWithoutBounds}
use Rattle.gltf_findings.specs.declared.code.Code.TheVariants.{InputTooFewElements}
use Rattle.gltf_findings.specs.Checks.{Checks, Condition, ◌&◌, member, optional_checks, list_checks}
use Rattle.gltf_inspect_meshes.specs.Facts.{has_elements, is_bounded}
use Rattle.gltf_inspect_scenes.specs.Outputs.{is_weights, is_spline}
use Rattle.gltf_inspect_records.specs.Meshes.{is_scalar}
use Rattle.gltf_inspect_records.specs.Scenes.{is_float}

-- "when a node is targeted for animation (referenced by an animation.channel.target), only TRS
-- properties MAY be present; matrix MUST NOT be present" (5.25)
abbrev pub target_node_checks : Checked Property → Node → Checks
target_node_checks path n = Condition (is_weights path || is_none n.matrix) ChannelTargetMatrix

abbrev pub channel_checks : Root → Channel → Checks
channel_checks r c =
    member (codes "target") (member (codes "path")
    (optional_checks (target_node_checks c.target.path) (slice_get r.nodes.items c.target.node)))

-- the times are SCALAR floats, with min and max; a cubic spline has two at least (5.8)
abbrev pub input_checks : Checked Interpolation → Accessor → Checks
input_checks interpolation a =
    Condition (is_float a.component_type && is_scalar a.type_) InputInvalidFormat
    & Condition (is_bounded a) InputWithoutBounds
    & Condition (not (is_spline interpolation) || nat_le 2 a.count) InputTooFewElements

abbrev pub sampler_checks : Root → Sampler → Checks
sampler_checks r s =
    member (codes "input")
    (optional_checks (input_checks s.interpolation) (slice_get r.accessors.items s.input))

-- an animation has one channel and one sampler at least (5.5)
abbrev pub animation_checks : Root → Animation → Checks
animation_checks r a =
    member (codes "channels") (Condition (has_elements a.channels.items) EmptyEntity
    & list_checks (channel_checks r) a.channels.items)
    & member (codes "samplers") (Condition (has_elements a.samplers.items) EmptyEntity
    & list_checks (sampler_checks r) a.samplers.items)
