-- The lists of a document: all cameras, images, lights, variants, samplers and textures.
use Rattle.std.specs.Prelude.{◌≡◌, length}
use Rattle.gltf_json.specs.declared.root.Root.{Root}
use Rattle.gltf_handles.specs.Positions.{Position, IsWhole}
use Rattle.gltf_rules.specs.Extensions.{variants_of}
use Rattle.gltf_validation.specs.Lights.{lights_of}
use Rattle.gltf_look.specs.declared.iter.AllCameras.{AllCameras}
use Rattle.gltf_look.specs.declared.iter.AllImages.{AllImages}
use Rattle.gltf_look.specs.declared.iter.AllLights.{AllLights}
use Rattle.gltf_look.specs.declared.iter.AllVariants.{AllVariants}
use Rattle.gltf_look.specs.declared.iter.AllSamplers.{AllSamplers}
use Rattle.gltf_look.specs.declared.iter.AllTextures.{AllTextures}

abbrev pub AreCameras : Root → Position AllCameras → Type 0
AreCameras r p = IsWhole (λ s. s.document.now ≡ r) (length r.cameras.items) p

abbrev pub AreImages : Root → Position AllImages → Type 0
AreImages r p = IsWhole (λ s. s.document.now ≡ r) (length r.images.items) p

abbrev pub AreLights : Root → Position AllLights → Type 0
AreLights r p = IsWhole (λ s. s.document.now ≡ r) (length (lights_of r.extensions)) p

abbrev pub AreVariants : Root → Position AllVariants → Type 0
AreVariants r p = IsWhole (λ s. s.document.now ≡ r) (length (variants_of r.extensions)) p

abbrev pub AreSamplers : Root → Position AllSamplers → Type 0
AreSamplers r p = IsWhole (λ s. s.document.now ≡ r) (length r.samplers.items) p

abbrev pub AreTextures : Root → Position AllTextures → Type 0
AreTextures r p = IsWhole (λ s. s.document.now ≡ r) (length r.textures.items) p
