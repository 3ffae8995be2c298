-- Handles of textures and of their samplers.
use Rattle.std.specs.Prelude.{ℕ, unwrap_or}
use Rattle.std.specs.Option.{option_copied}
use Rattle.gltf_json.specs.declared.root.Root.{Root}
use Rattle.gltf_json_scene.specs.declared.texture.Sampler.{Sampler as SamplerRecord}
use Rattle.gltf_json_scene.specs.declared.texture.Texture.{Texture as TextureRecord}
use Rattle.gltf_rules.specs.declared.records.Records.{Ghosts}
use Rattle.gltf_handles.specs.Handle.{Handle, IsAt, Placed, IsPlaced, IsDefault}
use Rattle.gltf_handles.specs.Inner.{handle_at}
use Rattle.gltf_look.specs.Defaults.{default_sampler}
use Rattle.gltf_look.specs.declared.texture.Sampler.{Sampler}
use Rattle.gltf_look.specs.declared.texture.Texture.{Texture}

module _ {D : Type 0} {G : Ghosts D} where
  -- what they show: a sampler without a record shows the defaults
  abbrev pub sampler_handle : Sampler D G → Placed SamplerRecord
  sampler_handle s = record {
    document = G.root s.document.now;
    index = s.index;
    json = unwrap_or (option_copied s.json) default_sampler;
  }

  abbrev pub texture_handle : Texture D G → Handle TextureRecord
  texture_handle t = handle_at t.inner t.index

  -- the handle of sampler i of a document, and that of a texture which names none
  abbrev pub IsSampler : Root → ℕ → Sampler D G → Type 0
  IsSampler r i s = IsPlaced r.samplers.items r i (sampler_handle s)

  abbrev pub IsDefaultSampler : Root → Sampler D G → Type 0
  IsDefaultSampler r s = IsDefault default_sampler r (sampler_handle s)

  -- the handle of texture i of a document
  abbrev pub IsTexture : Root → ℕ → Texture D G → Type 0
  IsTexture r i t = IsAt r.textures.items r i (texture_handle t)
