-- What an element that no member names means to the rules.
use Rattle.std.specs.Prelude.{ℕ, ◌==◌, if◌then◌else◌}
use Rattle.gltf_validation.specs.declared.counts.Counts.{Counts}
use Rattle.gltf_uses.specs.declared.kind.Kind.{Kind}
use Rattle.gltf_uses.specs.declared.kind.Kind.TheVariants as list
use Rattle.gltf_uses.specs.Kinds.{number}

-- the lengths of the lists, but that one list has n elements
abbrev pub with_length : Kind → ℕ → Counts → Counts
with_length kind n c = record {
  accessors = if number list.Accessor == number kind then n else c.accessors;
  animation_samplers = c.animation_samplers;
  buffers = if number list.Buffer == number kind then n else c.buffers;
  cameras = if number list.Camera == number kind then n else c.cameras;
  images = if number list.Image == number kind then n else c.images;
  lights = if number list.Light == number kind then n else c.lights;
  materials = if number list.Material == number kind then n else c.materials;
  meshes = if number list.Mesh == number kind then n else c.meshes;
  nodes = if number list.Node == number kind then n else c.nodes;
  samplers = if number list.Sampler == number kind then n else c.samplers;
  scenes = if number list.Scene == number kind then n else c.scenes;
  skins = if number list.Skin == number kind then n else c.skins;
  textures = if number list.Texture == number kind then n else c.textures;
  views = if number list.View == number kind then n else c.views;
}
