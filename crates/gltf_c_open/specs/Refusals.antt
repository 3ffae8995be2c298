-- Why bytes are not opened, and which buffer is at fault.
use Rattle.std.specs.Prelude.{◌≡◌, ◌⊎◌, ℕ, Bool, true, Some, None}
use Rattle.gltf_glb.specs.declared.error.Error.{Error}
use Rattle.gltf_glb.specs.declared.error.Error.TheVariants.{Memory}
use Rattle.gltf_glb.specs.declared.error.Error.TheVariants.{ExternalReferenceInSliceImport}
use Rattle.gltf_buffers.specs.Buffers.{BufferFault}
use Rattle.gltf_buffers.specs.Errors.{NamesFault}
use Rattle.gltf_c_open.specs.declared.refusal.Refusal.{Refusal}

abbrev pub of_no_buffer : Error → Refusal
of_no_buffer e = record { error = e; buffer = None }

-- there was not enough memory, which says nothing of the bytes
abbrev pub out_of_memory : Refusal
out_of_memory = of_no_buffer Memory

abbrev pub of_buffer : ℕ → Error → Refusal
of_buffer index Memory = out_of_memory
of_buffer index e = record { error = e; buffer = Some index }

-- a buffer leads to another file, and may wait for its bytes
abbrev pub Waits : Bool → Error → Type 0
Waits may_wait ExternalReferenceInSliceImport = may_wait ≡ true
Waits may_wait e = ⊥

-- the error names a fault that P has of the buffer which is named
pub record RefusesBuffer (P : ℕ → BufferFault → Type 0) (refusal : Refusal) : Type 0 where
  pub index : ℕ
  pub at : refusal.buffer ≡ Some index
  pub fault : NamesFault (P index) refusal.error

-- the fault is one that P has of the buffer at this index
abbrev pub IsAt : ℕ → (BufferFault → Type 0) → ℕ → BufferFault → Type 0
IsAt index P i fault = (i ≡ index) × P fault

-- that, or there was not enough memory
abbrev pub RefusedAt : (ℕ → BufferFault → Type 0) → Refusal → Type 0
RefusedAt P refusal = (refusal ≡ out_of_memory) ⊎ RefusesBuffer P refusal
