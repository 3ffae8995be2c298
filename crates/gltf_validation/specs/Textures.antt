-- The rules of textures, their samplers and their uses (glTF 2.0, section 3.8), in the order of
-- their members.
use Rattle.std.specs.Prelude.{codes}
use Rattle.gltf_json_scene.specs.declared.texture.Sampler.{Sampler}
use Rattle.gltf_json_scene.specs.declared.texture.Texture.{Texture}
use Rattle.gltf_json_material.specs.declared.texture.Info.{Info}
use Rattle.gltf_validation.specs.declared.counts.Counts.{Counts}
use Rattle.gltf_validation.specs.Rules.{Rules, ◌&◌}
use Rattle.gltf_validation.specs.Members.{member, code_rules, index_rules, optional_rules}

abbrev pub sampler_rules : Counts → Sampler → Rules
sampler_rules c r =
    member (codes "magFilter") (optional_rules code_rules r.mag_filter)
    & member (codes "minFilter") (optional_rules code_rules r.min_filter)
    & member (codes "wrapS") (code_rules r.wrap_s)
    & member (codes "wrapT") (code_rules r.wrap_t)

abbrev pub texture_rules : Counts → Texture → Rules
texture_rules c r =
    member (codes "sampler") (optional_rules (index_rules c.samplers) r.sampler)
    & member (codes "source") (index_rules c.images r.source)

abbrev pub info_rules : Counts → Info → Rules
info_rules c r =
    member (codes "index") (index_rules c.textures r.index)
