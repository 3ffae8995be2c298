-- Uses of textures, row by row.
use Rattle.std.specs.Prelude.{codes, [], ◌∷◌}
use Rattle.gltf_json_record.specs.Kind.{Kind}
use Rattle.gltf_json_record.specs.Scalars.{n32, index, any}
use Rattle.gltf_json_record.specs.Table.{required, optional, defaulted, others, ◌&◌, table}
use Rattle.gltf_json_material.specs.declared.extensions.texture.TextureTransform.{TextureTransform}
use Rattle.gltf_json_material.specs.declared.extensions.texture.Info as extension
use Rattle.gltf_json_material.specs.declared.texture.Info.{Info}

-- the extension KHR_texture_transform
unfoldable pub texture_transform : Kind TextureTransform
texture_transform = table
    (optional (codes "offset") (λ r. r.offset) any
    & optional (codes "rotation") (λ r. r.rotation) any
    & optional (codes "scale") (λ r. r.scale) any
    & optional (codes "texCoord") (λ r. r.tex_coord) n32
    & optional (codes "extras") (λ r. r.extras) any)

-- the member `extensions` of a texture info
unfoldable pub texture_info_extensions : Kind extension.Info
texture_info_extensions = table
    (optional (codes "KHR_texture_transform") (λ r. r.texture_transform) texture_transform
    & others (codes "KHR_texture_transform" ∷ []) (λ r. r.others))

-- glTF 2.0, section 5.30, "Texture Info"
unfoldable pub texture_info : Kind Info
texture_info = table
    (required (codes "index") (λ r. r.index) index
    & defaulted (codes "texCoord") (λ r. r.tex_coord) 0 n32
    & optional (codes "extensions") (λ r. r.extensions) texture_info_extensions
    & optional (codes "extras") (λ r. r.extras) any)
