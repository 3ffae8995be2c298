-- What a reader gives of a file, as a function of its bytes.
use Rattle.std.specs.Prelude.{ℕ, List, Option, slice_get}
use Rattle.gltf_json.specs.declared.root.Root.{Root}
use Rattle.gltf_read.specs.Reading.{Table, IsMember}
use Rattle.gltf.specs.Import.{Accepts, IsOnlyImport}

-- the bytes are accepted, and whatever document and buffers they are, the reader gives this of the
-- document, by what is answered for each buffer
pub record ReadsOfFile {E : Type 0} (Reads : Root → (ℕ → Option (List ℕ)) → E → Type 0)
    (bytes : List ℕ) (result : E) : Type 0 where
  pub root : Root
  pub buffers : List (List ℕ)
  pub accepted : Accepts bytes root buffers
  pub each : (r : Root) (others : List (List ℕ)) → Accepts bytes r others
      → Reads r (slice_get others) result

-- the bytes are accepted as this document and these buffers, and as no others that show otherwise
pub record IsImport (bytes : List ℕ) (r : Root) (buffers : List (List ℕ)) : Type 0 where
  pub accepted : Accepts bytes r buffers
  pub only : IsOnlyImport bytes r buffers

-- what a reader gives of one import of some bytes it gives of each: of the accessor at the index
-- that the document has, by the table that it has
abbrev pub IsOfBytes : {E : Type 0} → (Root → Table E) → (Root → Option ℕ) → Type 0
IsOfBytes {E} Are index =
    (bytes : List ℕ) (r : Root) (buffers : List (List ℕ)) → IsImport bytes r buffers
    → (result : Option E) → IsMember (Are r) r (slice_get buffers) (index r) result
    → ReadsOfFile (λ s answer. IsMember (Are s) s answer (index s)) bytes result
