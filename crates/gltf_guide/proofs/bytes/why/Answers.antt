use Rattle.std.proofs.Common.{rules}
use Rattle.gltf_json_geometry.specs.declared.semantic.Semantic.TheVariants as attributes
use Rattle.gltf_read.specs.Primitives.{attribute}
use Rattle.gltf_scene.specs.Meshes.{primitive_handle}
use Rattle.gltf.specs.Shown.{bytes_of_each}
use Rattle.gltf_guide.proofs.Reasons.{why_alike}
use Rattle.gltf_guide.proofs.bytes.why.Goals as goal

pub returns : goal.returns
returns c =
    let p = primitive_handle c.args.primitive.now in
    why_alike (bytes_of_each c.args.buffers.now) (λ b given i is gave. search rules)
    (attribute p attributes.Positions) c.why_not_read.result c.why_not_read.ensures.why
