-- Laws over the definitions.
use Rattle.std.specs.Prelude.{◌≡◌, ◌↔◌, ℕ, List, ◌++◌, replicate}
use Rattle.serde_json.specs.Data.{Data}
use Rattle.gltf_json.specs.Reading.{Reads}
use Rattle.gltf_json.specs.declared.root.Root.{Root}
use Rattle.gltf_glb.specs.declared.error.Error.{Error}
use Rattle.gltf_glb.specs.declared.error.Error.TheVariants.{Memory}
use Rattle.gltf.specs.Import.{Accepts, RefusesImport}
use Rattle.gltf_pack.specs.Repacked.{IsRepacked, IsOnlyAnswer, RefusesToRepack}

-- spaces after a text do not change its reading
abbrev pub SpacesBehind : Type 0
SpacesBehind = (n : ℕ) (text : List ℕ) (d : Data) → Reads (text ++ replicate n 32) d ↔ Reads text d

-- the one is imported where the other is, with the same document and the same buffers, and refused
-- with the same faults
pub record SameImport (bytes answer : List ℕ) : Type 0 where
  pub accepted : (r : Root) (buffers : List (List ℕ))
      → Accepts bytes r buffers ↔ Accepts answer r buffers
  pub refused : (e : Error) → RefusesImport bytes e ↔ RefusesImport answer e

-- the import of what was repacked is that of the bytes before
abbrev pub ImportKept : Type 0
ImportKept = (bytes answer : List ℕ) → IsRepacked bytes answer → SameImport bytes answer

-- the bytes are repacked only to themselves, and refused only for lack of memory
pub record IsFixed (bytes : List ℕ) : Type 0 where
  pub same : IsRepacked bytes bytes
  pub only : IsOnlyAnswer bytes bytes
  pub memory : (e : Error) → RefusesToRepack bytes e → e ≡ Memory

-- repacking once more changes nothing
abbrev pub RepackedAgain : Type 0
RepackedAgain = (bytes answer : List ℕ) → IsRepacked bytes answer → IsFixed answer

-- bytes are repacked to one answer at most
abbrev pub OneAnswer : Type 0
OneAnswer = (bytes answer : List ℕ) → IsRepacked bytes answer → IsOnlyAnswer bytes answer
