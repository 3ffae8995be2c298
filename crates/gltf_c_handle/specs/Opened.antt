-- Opening files, as C sees it (glTF 2.0, sections 2.8, 3.6.1, 3.12 and 4.4).
use Rattle.std.specs.Prelude.{◌≡◌, ◌⊎◌, ◌==◌, ◌/◌, ◌%◌, ◌||◌, ℕ, List, nat_lt}
use Rattle.std.specs.Prelude.{Option, Some, None, if◌then◌else◌}
use Rattle.gltf_c_fault.specs.Fault.{IsFault, no_fault, argument_fault}
use Rattle.gltf_c_fault.specs.Status.{code, status_of}
use Rattle.gltf_c_fault.specs.declared.fault.GltfFault.{GltfFault}
use Rattle.gltf_c_fault.specs.declared.status.Status.TheVariants.{Success, BadArgument}
use Rattle.gltf_c_open.specs.Names.{AreNames}
use Rattle.gltf_c_open.specs.Opened.{Holds, IsRefused as Refuses}
use Rattle.gltf_c_open.specs.Refusals.{out_of_memory}
use Rattle.gltf_c_open.specs.declared.file.File.{File}
use Rattle.gltf_c_open.specs.declared.refusal.Refusal.{Refusal}
use Rattle.gltf_c_open.specs.declared.wanted.Wanted.{Wanted}

-- what flags ask of the buffers: the lowest bit that those in other files may wait, the next one
-- that zeros do not count. All others are 0, and so is what is reserved
abbrev pub wanted_of : ℕ → ℕ → Option Wanted
wanted_of flags reserved =
    if nat_lt 3 flags || nat_lt 0 reserved then None
    else Some (record { may_wait = (flags % 2) == 1; exact = (flags / 2) == 1 })

-- the bytes are held with the names that the caller handles, by their block
pub record HoldsAs (wanted : Wanted) (names bytes : List ℕ) (file : File) : Type 0 where
  pub also : List (List ℕ)
  pub are_names : AreNames names also
  pub holds : Holds wanted also bytes file

pub record RefusesNamed (wanted : Wanted) (names bytes : List ℕ) (refusal : Refusal)
    : Type 0 where
  pub also : List (List ℕ)
  pub are_names : AreNames names also
  pub refuses : Refuses wanted also bytes refusal

-- that, or there was no memory for the names
abbrev pub RefusesAs : Wanted → List ℕ → List ℕ → Refusal → Type 0
RefusesAs wanted names bytes refusal =
    (refusal ≡ out_of_memory) ⊎ RefusesNamed wanted names bytes refusal

-- why a file was not opened
pub record IsRefused (wanted : Wanted) (names bytes : List ℕ) (status : ℕ) (fault : GltfFault)
    : Type 0 where
  pub refusal : Refusal
  pub refused : RefusesAs wanted names bytes refusal
  pub names_status : status ≡ code (status_of refusal.error)
  pub is_fault : IsFault refusal.error refusal.buffer fault

-- opened, without a fault; or closed, with one
abbrev pub IsOpenedAs : Wanted → List ℕ → List ℕ → ℕ → Option File → GltfFault → Type 0
IsOpenedAs wanted names bytes status None fault = IsRefused wanted names bytes status fault
IsOpenedAs wanted names bytes status (Some file) fault =
    (status ≡ code Success) × (fault ≡ no_fault) × HoldsAs wanted names bytes file

-- the same by what flags ask; where they ask for nothing that is known, it is closed
abbrev pub IsOpened : Option Wanted → List ℕ → List ℕ → ℕ → Option File → GltfFault → Type 0
IsOpened None names bytes status file fault =
    (status ≡ code BadArgument) × (file ≡ None) × (fault ≡ argument_fault)
IsOpened (Some wanted) names bytes status file fault =
    IsOpenedAs wanted names bytes status file fault
