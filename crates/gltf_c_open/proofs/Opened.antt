-- What is held and what is refused, by the document and its buffers.
use Rattle.std.proofs.Common.{◌≡◌, ◌≢◌, ℕ, List, length, refl, sym, inl, inr}
use Rattle.std.specs.Prelude.{Option, false}
use Rattle.gltf_glb.specs.declared.error.Error.{Error}
use Rattle.gltf_glb.specs.declared.error.Error.TheVariants as error
use Rattle.gltf_json.specs.declared.root.Root.{Root}
use Rattle.gltf_buffers.specs.Buffers.{sources_of}
use Rattle.gltf_buffers.specs.ErrorLaws.{named_fault}
use Rattle.gltf_buffers.specs.Names.{Nowhere}
use Rattle.gltf.specs.Errors.{OutOfMemoryOr}
use Rattle.gltf.specs.Shown.{bytes_of_each}
use Rattle.gltf_options.specs.Alike.{HaveOneBuffers, HaveNoBuffers}
use Rattle.gltf_options.specs.Import.{RefusesDocumentBesides, IsNoValidBesides}
use Rattle.gltf_options.specs.Import.{IsValidBesides, IsOnlyBesides, IsNotAcceptedBesides}
use Rattle.gltf_c_open.specs.Buffers.{HaveOrAwait, HasFault}
use Rattle.gltf_c_open.specs.Opened.{IsImport, Holds, IsRefused}
use Rattle.gltf_c_open.specs.Refusals.{of_no_buffer, RefusedAt, RefusesBuffer}
use Rattle.gltf_c_open.specs.declared.file.File.{File}
use Rattle.gltf_c_open.specs.declared.refusal.Refusal.{Refusal}
use Rattle.gltf_c_open.specs.declared.wanted.Wanted.{Wanted}
use Rattle.gltf_c_open.proofs.Loaded.{imported, loader_fault}

-- ---- what is held

loaded : (wanted : Wanted) (also : List (List ℕ)) (bytes : List ℕ) (file : File)
    (taken : List (List ℕ)) (blob : Option (List ℕ)) → HaveOneBuffers
    → IsValidBesides also bytes file.document taken blob
    → IsOnlyBesides also bytes file.document taken blob
    → HaveOrAwait wanted (sources_of file.document) blob (length (sources_of file.document))
    (bytes_of_each file.buffers.items) file.waiting.items
    → wanted.may_wait ≡ false
    → IsImport also bytes file.document taken (bytes_of_each file.buffers.items)
loaded wanted also bytes file taken blob one valid only had none =
    let r = file.document in
    let buffers = bytes_of_each file.buffers.items in
    let all = imported wanted (sources_of r) blob (length (sources_of r)) buffers
    file.waiting.items none had in (
      record { blob = blob; valid = valid; data_ = all },
      λ s others data_ accepted.
          let same = only s others accepted.blob accepted.valid.document in (
            same.0,
            same.1,
            one Nowhere s r blob data_ buffers tt same.0 (rw same.2 at accepted.data_) all,
          ),
    )

pub held : (wanted : Wanted) (also : List (List ℕ)) (bytes : List ℕ) (file : File)
    (taken : List (List ℕ)) (blob : Option (List ℕ)) → HaveOneBuffers
    → IsValidBesides also bytes file.document taken blob
    → IsOnlyBesides also bytes file.document taken blob
    → HaveOrAwait wanted (sources_of file.document) blob (length (sources_of file.document))
    (bytes_of_each file.buffers.items) file.waiting.items
    → file.exact ≡ wanted.exact → Holds wanted also bytes file
held wanted also bytes file taken blob one valid only had lengths = record {
  taken = taken;
  blob = blob;
  valid = valid;
  only = only;
  data_ = had;
  lengths = lengths;
  loaded = loaded wanted also bytes file taken blob one valid only had;
}

-- ---- what is refused

pub document_refused : (wanted : Wanted) (also : List (List ℕ)) (bytes : List ℕ) (e : Error)
    → OutOfMemoryOr (RefusesDocumentBesides also bytes) e
    → (e ≢ error.Memory → IsNoValidBesides also bytes)
    → IsRefused wanted also bytes (of_no_buffer e)
document_refused wanted also bytes error.Memory told exact = inl refl
document_refused wanted also bytes e told exact =
    inr (inl (record { of_no_buffer = refl; fault = told; exact = exact (λ is. cc) }))

not_loaded : (wanted : Wanted) (also : List (List ℕ)) (bytes : List ℕ) (r : Root)
    (taken : List (List ℕ)) (blob : Option (List ℕ)) (refusal : Refusal) → HaveNoBuffers
    → IsOnlyBesides also bytes r taken blob
    → RefusesBuffer (HasFault wanted (sources_of r) blob) refusal
    → wanted.may_wait ≡ false → wanted.exact ≡ false → IsNotAcceptedBesides also Nowhere bytes
not_loaded wanted also bytes r taken blob refusal none_has only told none counted s others data_ accepted =
    let same = only s others accepted.blob accepted.valid.document in
    let named = named_fault (HasFault wanted (sources_of r) blob told.index) refusal.error told.fault in
    let wrong = loader_fault wanted (sources_of r) blob told.index named.0 none counted named.1 in
    none_has Nowhere r s blob wrong.0 data_ tt (sym same.0) wrong.1 (rw same.2 at accepted.data_)

pub buffer_refused : (wanted : Wanted) (also : List (List ℕ)) (bytes : List ℕ) (r : Root)
    (taken : List (List ℕ)) (blob : Option (List ℕ)) (refusal : Refusal) → HaveNoBuffers
    → IsValidBesides also bytes r taken blob → IsOnlyBesides also bytes r taken blob
    → RefusedAt (HasFault wanted (sources_of r) blob) refusal
    → IsRefused wanted also bytes refusal
buffer_refused wanted also bytes r taken blob refusal none_has valid only (inl none) = inl none
buffer_refused wanted also bytes r taken blob refusal none_has valid only (inr wrong) =
    inr (inr (record {
      root = r;
      taken = taken;
      blob = blob;
      valid = valid;
      only = only;
      fault = wrong;
      not_loaded = not_loaded wanted also bytes r taken blob refusal none_has only wrong;
    }))
