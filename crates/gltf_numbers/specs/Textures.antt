-- The numbers of the uses of textures (KHR_texture_transform).
use Rattle.std.specs.Prelude.{Option, Some}
use Rattle.gltf_json_material.specs.declared.extensions.texture.TextureTransform.{
  TextureTransform as TransformRecord,
}
use Rattle.gltf_numbers.specs.Numbers.{given, number_or, numbers_or}
use Rattle.gltf_numbers.specs.declared.texture.TextureTransform.{TextureTransform}
use Rattle.gltf_numbers.specs.Defaults.{default_texture_offset, default_texture_rotation}
use Rattle.gltf_numbers.specs.Defaults.{default_texture_scale}

abbrev pub transform_numbers : TransformRecord → Option TextureTransform
transform_numbers t =
    given (numbers_or 2 default_texture_offset t.offset) (λ offset.
    given (number_or default_texture_rotation t.rotation) (λ rotation.
    given (numbers_or 2 default_texture_scale t.scale) (λ scale.
    Some (record { offset = offset; rotation = rotation; scale = scale }))))
