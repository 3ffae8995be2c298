-- Laws over the definitions.
use Rattle.std.specs.Prelude.{◌≡◌, ℕ, List}
use Rattle.gltf_glb.specs.declared.error.Error.{Error}
use Rattle.gltf_json.specs.declared.root.Root.{Root}
use Rattle.gltf_names.specs.Named.{Named}
use Rattle.gltf_buffers.specs.Names.{Names}
use Rattle.gltf.specs.Files.{RefusesFileAt}
use Rattle.gltf.specs.Import.{AcceptsWith}
use Rattle.gltf_options.specs.Besides.{required_of}
use Rattle.gltf_options.specs.Names.{taken_of}
use Rattle.gltf_lenient.specs.Files.{RefusesMendedFileAt}
use Rattle.gltf_lenient.specs.Import.{also_of, AcceptsMended}
use Rattle.gltf_lenient.specs.declared.options.Options.{Options}
use Rattle.gltf_required.specs.Files.{RefusesFileAs}
use Rattle.gltf_required.specs.Import.{AcceptsAs}
use Rattle.gltf_required.specs.Required.{IsLeft}
use Rattle.gltf_required.specs.declared.required.Required.{Required}
use Rattle.gltf_required.specs.declared.required.Required.TheVariants.{Supported, Mended}

-- where no further name passes, what is accepted is what `gltf` accepts
abbrev pub SupportedIsTheImport : Type 0
SupportedIsTheImport =
    (names : Names) (bytes : List ℕ) (r : Root) (buffers : List (List ℕ))
    → AcceptsAs Supported names bytes r buffers → AcceptsWith names bytes r buffers

-- and a file at a path is refused as it is there
abbrev pub RefusedAsByTheImport : Type 0
RefusedAsByTheImport =
    (names : Names) (path : List ℕ) (old new : List Named) (e : Error)
    → RefusesFileAs Supported names path old new e → RefusesFileAt names path old new e

-- where a document is mended, what is left of it is the document of the calls of `gltf_lenient` with
-- the same options, over the same buffers
pub record IsLeftMended (options : Options) (names : Names) (bytes : List ℕ) (r : Root)
    (buffers : List (List ℕ)) : Type 0 where
  pub left : Root
  pub is_left : IsLeft (Mended options) r left
  pub accepted : AcceptsMended options names bytes left
      (taken_of (also_of options) (required_of r)) buffers

abbrev pub MendedIsTheImport : Type 0
MendedIsTheImport =
    (options : Options) (names : Names) (bytes : List ℕ) (r : Root) (buffers : List (List ℕ))
    → AcceptsAs (Mended options) names bytes r buffers → IsLeftMended options names bytes r buffers

-- and a file at a path is refused as it is there
abbrev pub RefusedAsByTheMended : Type 0
RefusedAsByTheMended =
    (options : Options) (names : Names) (path : List ℕ) (old new : List Named) (e : Error)
    → RefusesFileAs (Mended options) names path old new e
    → RefusesMendedFileAt options names path old new e

-- what is left of a document has all other members of it
abbrev pub AreOfOneDocument : Type 0
AreOfOneDocument =
    (required : Required) (r s : Root) → IsLeft required r s
    → s ≡ record r { extensions_required = s.extensions_required }
