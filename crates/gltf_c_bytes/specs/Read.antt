-- The items of accessors that C reads (glTF 2.0, section 3.6.2): the bytes of their components
-- without the padding of small matrices (3.6.2.4), and zeros where there is no view (5.1.1).
use Rattle.std.specs.Prelude.{◌≡◌, ℕ, List, Option, Some, None, Result, Ok, Err, slice_get}
use Rattle.gltf_json_geometry.specs.declared.accessor.Accessor.{Accessor}
use Rattle.gltf_handles.specs.Sizes.{item_size}
use Rattle.gltf_access.specs.Flat.{IsWritten}
use Rattle.gltf_access.specs.Components.{ComponentsBy}
use Rattle.gltf_access.specs.declared.flat.NotWritten.{NotWritten}
use Rattle.gltf_access.specs.declared.flat.NotWritten.TheVariants as not_written
use Rattle.gltf.specs.Shown.{bytes_of_each}
use Rattle.gltf_c_open.specs.declared.file.File.{File}
use Rattle.gltf_c_fault.specs.declared.status.Status.{Status}
use Rattle.gltf_c_fault.specs.declared.status.Status.TheVariants.{Success, NoSuchIndex, Unreadable}
use Rattle.gltf_c_fault.specs.declared.status.Status.TheVariants.{NoRoom}

-- how a call of C reports whether items were written
abbrev pub status_of : Result ℕ NotWritten → Status
status_of (Ok size) = Success
status_of (Err not_written.Unreadable) = Unreadable
status_of (Err not_written.NoRoom) = NoRoom

-- the items of an accessor that is there
pub record IsReadAs (file : File) (a : Accessor) (status : Status) (old new : List ℕ) : Type 0 where
  pub items : Option (List (List ℕ))
  pub result : Result ℕ NotWritten
  pub reads : ComponentsBy (slice_get (bytes_of_each file.buffers.items)) file.document a items
  pub written : IsWritten (item_size a) items result old new
  pub reported : status ≡ status_of result

-- the items of the accessor at an index, where it is there
abbrev pub IsRead : File → ℕ → Option Accessor → Status → List ℕ → List ℕ → Type 0
IsRead file index None status old new = (status ≡ NoSuchIndex) × (new ≡ old)
IsRead file index (Some a) status old new = IsReadAs file a status old new
