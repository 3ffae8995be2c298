-- Laws of readings, and of bytes that decide.
use Rattle.std.proofs.Common.{◌≡◌, ℕ, List, [], Option, Ok, Err, refl, append-nil}
use Rattle.std.proofs.lemmas.Result.{IfOk-at_ok}
use Rattle.gltf_glb.specs.Faults.{Short}
use Rattle.gltf_glb.specs.Reader.{NamesReaderFault}
use Rattle.gltf_glb.specs.Reading.{Reading, IsReaderReadingOf, Decides}
use Rattle.gltf_glb.specs.Steps.{fault_of}
use Rattle.gltf_glb.specs.declared.binary.Error as container
use Rattle.gltf_glb.specs.declared.binary.Error.TheVariants as binary

-- readings that are one have the same parts
pub same_parts : {a x : List ℕ} {b y : Option (List ℕ)}
    → ◌≡◌ {A = Reading} (Ok (a, b)) (Ok (x, y)) → (a ≡ x) × (b ≡ y)
same_parts {a} {x} {b} {y} same =
    IfOk-at_ok (λ (parts : List ℕ × Option (List ℕ)). (a ≡ parts.0) × (b ≡ parts.1)) same
    (refl, refl)

-- bytes that decide have their reading where nothing follows them
pub decided_here : (came : List ℕ) (reading : Reading) → Decides came reading
    → IsReaderReadingOf came reading
decided_here came reading decides = rw append-nil at (decides [])

-- an error names the fault that they decide
pub names_whole : (came : List ℕ) (cause : container.Error) → Decides came (Err (fault_of cause))
    → NamesReaderFault came cause
names_whole came (binary.Io cause) decides = decided_here came (Err Short) decides
names_whole came _ decides = decides
