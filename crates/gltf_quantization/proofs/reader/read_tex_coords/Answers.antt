use Rattle.gltf_quantization.specs.Quantized.{AreQuantized}
use Rattle.gltf_quantization.specs.declared.accepted.QuantizedAttribute.TheVariants as added
use Rattle.gltf_quantization.proofs.Members.{of_member}
use Rattle.gltf_quantization.proofs.reader.read_tex_coords.Goals as goal

pub returns : goal.returns
returns g c =
    of_member (AreQuantized added.TexCoord)
    (λ b o. goal.F-post g c.args.get_buffer_data.now b o) _ _
    c.in_ok-accessor.accessor c.read_as.result c.in_ok-accessor.ensures c.read_as.ensures
