-- What one layer of a file says of its report.
use Rattle.std.specs.Prelude.{◌≡◌, ◌≢◌, ◌++◌, ℕ, List, [], length, map, Option}
use Rattle.std.specs.Prelude.{MatchOption, Result, Ok, ⊤}
use Rattle.std.specs.List.{AllByRecursion}
use Rattle.gltf_json.specs.declared.root.Root.{Root}
use Rattle.gltf_glb.specs.declared.error.Error.{Error}
use Rattle.gltf_buffers.specs.Buffers.{sources_of, AreBytes}
use Rattle.gltf_buffers.specs.Each.{AreAnswers}
use Rattle.gltf_buffers.specs.Names.{Names}
use Rattle.gltf.specs.Import.{IsDocument, IsOnlyDocument, AcceptsWith}
use Rattle.gltf_shared.specs.Shared.{AreShared}
use Rattle.gltf_shared.specs.Shown.{bytes_of_each}
use Rattle.gltf_inspect_files.specs.declared.layers.Read.{Read}
use Rattle.gltf_inspect_files.specs.declared.layers.Read.TheVariants.{Had, Fail}
use Rattle.gltf_inspect_files.specs.declared.lent.Lent.{Lent}
use Rattle.gltf_inspect_files.specs.Buffers.{buffers_findings, SaysSomething}
use Rattle.gltf_inspect_files.specs.Reports.{Found, IsFound, lent_of, records_findings}

-- all five layers hold, and what is found in the records was found: items were not looked at yet
pub record PassesLayers (names : Names) (bytes : List ℕ) (root : Root) (buffers : List (List ℕ))
    (found : Found) : Type 0 where
  pub accepted : AcceptsWith names bytes root buffers
  pub same : found ≡ records_findings root

-- what is known of a file whose layers were looked at
abbrev pub IsOfLayers : Names → List ℕ → Lent → Type 0
IsOfLayers names bytes file =
    IsFound PassesLayers names bytes file.cause (lent_of file.imported) file.report

-- that holds of any bytes whose records these are, with this blob
abbrev pub IsOfRecords : Names → Root → Option (List ℕ) → Lent → Type 0
IsOfRecords names r blob file =
    (bytes : List ℕ) → IsDocument bytes r blob → IsOnlyDocument bytes r blob
    → IsOfLayers names bytes file

-- some buffers have a fault: each of these, and then what is found in the records
pub record SomeFail (names : Names) (r : Root) (blob : Option (List ℕ)) (records found : Found)
    : Type 0 where
  pub answers : List (Result (List ℕ) Error)
  pub each : AreAnswers names (sources_of r) blob (length (sources_of r)) answers
  pub told : AllByRecursion SaysSomething answers
  pub some : buffers_findings 0 answers ≢ []
  pub same : found ≡ buffers_findings 0 answers ++ records

-- what was read of the buffers: the bytes of all, or what is found in a file where some fail
abbrev pub IsRead : Names → Root → Option (List ℕ) → Found → Read → Type 0
IsRead names r blob records (Had buffers) =
    AreBytes names (sources_of r) blob (length (sources_of r)) (bytes_of_each buffers.items)
IsRead names r blob records (Fail report) = SomeFail names r blob records report

-- buffers that lead to one name have the same bytes
abbrev pub IsSharedRead : Root → Read → Type 0
IsSharedRead r (Had buffers) = AreShared (sources_of r) (map Ok (bytes_of_each buffers.items))
IsSharedRead r (Fail report) = ⊤

abbrev pub IsShared : Lent → Type 0
IsShared file =
    MatchOption file.imported ⊤
    (λ read. AreShared (sources_of read.0) (map Ok (bytes_of_each read.1.items)))
