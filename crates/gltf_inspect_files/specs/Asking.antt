-- Which names a source is asked for where a file is looked at (glTF 2.0, sections 2.8 and 3.6.1).
use Rattle.std.specs.Prelude.{ℕ, List, Option}
use Rattle.std.specs.List.{AllByRecursion}
use Rattle.gltf_json.specs.declared.root.Root.{Root}
use Rattle.gltf_names.specs.Named.{Named, File}
use Rattle.gltf_buffers.specs.Buffers.{sources_of}
use Rattle.gltf.specs.Import.{IsDocument}
use Rattle.gltf_shared.specs.Asked.{Asked, AreOnce, IsNamedBy}

-- a buffer of the document that these bytes hold leads to the name
abbrev pub IsNameOf : List ℕ → Named → Type 0
IsNameOf bytes name =
    (r : Root) × (blob : Option (List ℕ)) × IsDocument bytes r blob
    × IsNamedBy (sources_of r) name

-- the source was asked for such names alone, and for none of them twice
pub record AsksOnceOf {S : Type 0} (asks : S → Named → S → Type 0) (bytes : List ℕ) (old new : S)
    : Type 0 where
  pub names : List Named
  pub once : AreOnce names
  pub named : AllByRecursion (IsNameOf bytes) names
  pub asked : Asked asks old names new

-- the source was asked for the file at a path, which has these bytes, and then for such names
abbrev pub AsksForFileOf : {S : Type 0} → (S → Named → S → Type 0) → List ℕ → List ℕ → S → S
    → Type 0
AsksForFileOf {S} asks path bytes old new =
    (mid : S) × asks old (File path) mid × AsksOnceOf asks bytes mid new
