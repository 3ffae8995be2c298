-- Files from their bytes, with the names of extensions that the caller handles (glTF 2.0, sections
-- 2.8, 3.6.1, 3.12 and 4.4).
use Rattle.std.specs.Prelude.{◌≡◌, ◌⊎◌, ℕ, List, length, Option, None, false}
use Rattle.gltf_json.specs.declared.root.Root.{Root}
use Rattle.gltf_buffers.specs.Buffers.{sources_of}
use Rattle.gltf_buffers.specs.Names.{Nowhere}
use Rattle.gltf.specs.Shown.{bytes_of_each}
use Rattle.gltf_options.specs.Import.{AcceptsBesides, IsOnlyImportBesides, IsNotAcceptedBesides}
use Rattle.gltf_options.specs.Import.{RefusesDocumentBesides}
use Rattle.gltf_options.specs.Import.{IsValidBesides, IsOnlyBesides, IsNoValidBesides}
use Rattle.gltf_c_open.specs.Buffers.{HaveOrAwait, HasFault}
use Rattle.gltf_c_open.specs.Refusals.{out_of_memory, RefusesBuffer}
use Rattle.gltf_c_open.specs.declared.file.File.{File}
use Rattle.gltf_c_open.specs.declared.refusal.Refusal.{Refusal}
use Rattle.gltf_c_open.specs.declared.wanted.Wanted.{Wanted}

-- the loader imports the bytes as this document and these buffers, and in no other way
abbrev pub IsImport : List (List ℕ) → List ℕ → Root → List (List ℕ) → List (List ℕ) → Type 0
IsImport also bytes r taken buffers =
    AcceptsBesides also Nowhere bytes r taken buffers
    × IsOnlyImportBesides also Nowhere bytes r taken buffers

-- container, text, records and rules hold, of this document and of no other; each buffer has its
-- bytes, or waits for them. Where none may wait, the loader imports the same
pub record Holds (wanted : Wanted) (also : List (List ℕ)) (bytes : List ℕ) (file : File)
    : Type 0 where
  pub taken : List (List ℕ)
  pub blob : Option (List ℕ)
  pub valid : IsValidBesides also bytes file.document taken blob
  pub only : IsOnlyBesides also bytes file.document taken blob
  pub data_ : HaveOrAwait wanted (sources_of file.document) blob
      (length (sources_of file.document)) (bytes_of_each file.buffers.items) file.waiting.items
  pub lengths : file.exact ≡ wanted.exact
  pub loaded : wanted.may_wait ≡ false
      → IsImport also bytes file.document taken (bytes_of_each file.buffers.items)

-- container, text, records or rules do not hold of any document
pub record HaveNoDocument (also : List (List ℕ)) (bytes : List ℕ) (refusal : Refusal)
    : Type 0 where
  pub of_no_buffer : refusal.buffer ≡ None
  pub fault : RefusesDocumentBesides also bytes refusal.error
  pub exact : IsNoValidBesides also bytes

-- they hold of this document and of no other; a buffer has a fault that refuses the file. Where
-- none may wait and the zeros count, the loader does not import the bytes either
pub record HaveNoBuffers (wanted : Wanted) (also : List (List ℕ)) (bytes : List ℕ)
    (refusal : Refusal) : Type 0 where
  pub root : Root
  pub taken : List (List ℕ)
  pub blob : Option (List ℕ)
  pub valid : IsValidBesides also bytes root taken blob
  pub only : IsOnlyBesides also bytes root taken blob
  pub fault : RefusesBuffer (HasFault wanted (sources_of root) blob) refusal
  pub not_loaded : wanted.may_wait ≡ false → wanted.exact ≡ false
      → IsNotAcceptedBesides also Nowhere bytes

-- the first layer that does not hold; or there was not enough memory
abbrev pub IsRefused : Wanted → List (List ℕ) → List ℕ → Refusal → Type 0
IsRefused wanted also bytes refusal =
    (refusal ≡ out_of_memory) ⊎ (HaveNoDocument also bytes refusal
    ⊎ HaveNoBuffers wanted also bytes refusal)
