-- What stands where a document has no record.
use Rattle.std.specs.Prelude.{None}
use Rattle.gltf_json_record.specs.declared.validation.Checked.TheVariants.{Valid}
use Rattle.gltf_json_scene.specs.declared.texture.Sampler.{Sampler}
use Rattle.gltf_json_scene.specs.declared.texture.WrappingMode.TheVariants.{Repeat}

-- a sampler with no members (glTF 2.0, section 5.26)
abbrev pub default_sampler : Sampler
default_sampler = record {
  mag_filter = None;
  min_filter = None;
  wrap_s = Valid Repeat;
  wrap_t = Valid Repeat;
  name = None;
  extensions = None;
  extras = None;
}
