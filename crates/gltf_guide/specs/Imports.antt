-- What the examples of imports accept, and what they refuse (glTF 2.0, section 3.12, "Specifying
-- Extensions"). No name of a buffer's URI leads to a file.
use Rattle.std.specs.Prelude.{◌≡◌, ℕ, List, [], ◌∷◌, map, true, codes}
use Rattle.gltf_glb.specs.declared.error.Error.{Error}
use Rattle.gltf_buffers.specs.Names.{Nowhere}
use Rattle.gltf.specs.Shown.{bytes_of_each}
use Rattle.gltf_options.specs.Import.{AcceptsBesides, RefusesImportBesides, IsNotAcceptedBesides}
use Rattle.gltf_options.specs.Names.{texts}
use Rattle.gltf_options.specs.declared.imports.Imported.{Imported}
use Rattle.gltf_extensions.specs.Supported.{supported_names}
use Rattle.gltf_lenient.specs.Import.{AcceptsMended, RefusesMendedImport, IsNotAcceptedMended}
use Rattle.gltf_lenient.specs.Import.{also_of}
use Rattle.gltf_lenient.specs.declared.options.Options.{Options}

-- ---- `open`

-- the extensions that its caller handles
abbrev pub handled : List (List ℕ)
handled = codes "KHR_mesh_quantization" ∷ codes "STUDIO_terrain" ∷ []

-- the bytes are a file of this document, without these names, and of these buffers
abbrev pub OpensAs : List ℕ → Imported → Type 0
OpensAs bytes read =
    AcceptsBesides handled Nowhere bytes read.document (texts read.also_required.items)
    (bytes_of_each read.buffers.items)

-- the error says what is wrong with the bytes
abbrev pub RefusesToOpen : List ℕ → Error → Type 0
RefusesToOpen bytes e = RefusesImportBesides handled Nowhere bytes e

-- they are no file of any document
abbrev pub OpensAsNone : List ℕ → Type 0
OpensAsNone bytes = IsNotAcceptedBesides handled Nowhere bytes

-- ---- `import`

-- its options: the extensions that `gltf_extensions` reads, and each mend, with an image of Basis
-- before one of WebP
pub record AreLenient (options : Options) : Type 0 where
  pub also : also_of options ≡ supported_names
  pub channels : options.mends.skip_channels_without_node ≡ true
  pub attributes : options.mends.skip_unknown_attributes ≡ true
  pub sources : map (λ n. n.now) options.mends.texture_sources.now
      ≡ codes "KHR_texture_basisu" ∷ codes "EXT_texture_webp" ∷ []

-- the bytes are a file of this document, as it is mended and without these names, and of these
-- buffers
abbrev pub MendsAs : List ℕ → Imported → Type 0
MendsAs bytes read =
    (options : Options) × AreLenient options
    × AcceptsMended options Nowhere bytes read.document (texts read.also_required.items)
    (bytes_of_each read.buffers.items)

-- the error says what is wrong with the bytes
abbrev pub RefusesToMend : List ℕ → Error → Type 0
RefusesToMend bytes e =
    (options : Options) × AreLenient options × RefusesMendedImport options Nowhere bytes e

-- they are no file of any document as it is mended
abbrev pub MendsAsNone : List ℕ → Type 0
MendsAsNone bytes =
    (options : Options) × AreLenient options × IsNotAcceptedMended options Nowhere bytes
