-- Animations and what they animate (glTF 2.0, section 3.11).
use Rattle.std.specs.Prelude.{ℕ, ◌*◌, ◌==◌, ◌||◌, not, slice_get, List, [], ◌∷◌, codes}
use Rattle.gltf_json.specs.declared.root.Root.{Root}
use Rattle.gltf_json_record.specs.Place.{numbered}
use Rattle.gltf_json_animation.specs.declared.animation.Animation.{Animation}
use Rattle.gltf_json_animation.specs.declared.animation.Channel.{Channel}
use Rattle.gltf_json_animation.specs.declared.animation.Sampler.{Sampler}
use Rattle.gltf_json_geometry.specs.declared.accessor.Accessor.{Accessor}
use Rattle.gltf_json_scene.specs.declared.scene.Node.{Node}
use Rattle.gltf_findings.specs.declared.code.Code.TheVariants.{ChannelTargetNoMorphs}
use Rattle.gltf_findings.specs.declared.code.Code.TheVariants.{OutputInvalidFormat}
use Rattle.gltf_findings.specs.declared.code.Code.TheVariants.{OutputInvalidCount}
use Rattle.gltf_findings.specs.Checks.{Checks, Nothing, Condition, At, ◌&◌, member, optional_checks}
use Rattle.gltf_findings.specs.Checks.{list_checks}
use Rattle.gltf_inspect_scenes.specs.Outputs.{fits_path, is_weights, node_morphs, values_at_time}
use Rattle.gltf_inspect_scenes.specs.Outputs.{items_of_value, are_some}

-- weights are animated only where the node has a mesh with morph targets
abbrev pub target_checks : Root → Channel → Node → Checks
target_checks r c n =
    Condition (not (is_weights c.target.path) || are_some (node_morphs r n)) ChannelTargetNoMorphs

abbrev pub channel_checks : Root → Channel → Checks
channel_checks r c =
    member (codes "target") (member (codes "path")
    (optional_checks (target_checks r c) (slice_get r.nodes.items c.target.node)))

-- as many items as the times call for
abbrev pub product_checks : Sampler → Accessor → Accessor → ℕ → Checks
product_checks s output input items =
    Condition (output.count == input.count * values_at_time s.interpolation * items)
    OutputInvalidCount

abbrev pub count_checks : Root → Channel → Sampler → Accessor → Accessor → Checks
count_checks r c s output input =
    optional_checks (product_checks s output input)
    (items_of_value r c.target.path (slice_get r.nodes.items c.target.node))

abbrev pub output_checks : Root → Channel → Sampler → Accessor → Checks
output_checks r c s output =
    Condition (fits_path c.target.path output) OutputInvalidFormat
    & optional_checks (count_checks r c s output) (slice_get r.accessors.items s.input)

abbrev pub sampler_checks : Root → Channel → Sampler → Checks
sampler_checks r c s =
    member (codes "output") (optional_checks (output_checks r c s)
    (slice_get r.accessors.items s.output))

-- the output of the sampler of a channel, where the sampler stands
abbrev pub channel_output_checks : Root → List Sampler → Channel → Checks
channel_output_checks r samplers c =
    At (numbered c.sampler) (optional_checks (sampler_checks r c) (slice_get samplers c.sampler))

abbrev pub outputs_checks : Root → List Sampler → List Channel → Checks
outputs_checks r samplers [] = Nothing
outputs_checks r samplers (c ∷ cs) =
    channel_output_checks r samplers c & outputs_checks r samplers cs

abbrev pub animation_checks : Root → Animation → Checks
animation_checks r a =
    member (codes "channels") (list_checks (channel_checks r) a.channels.items)
    & member (codes "samplers") (outputs_checks r a.samplers.items a.channels.items)
