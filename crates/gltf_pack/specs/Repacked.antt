-- Which bytes a file is repacked to, and why it may not be.
use Rattle.std.specs.Prelude.{◌≡◌, ◌<◌, ◌^◌, ◌⊎◌, ℕ, List, Option}
use Rattle.gltf_glb.specs.Glb.{RefusesToWrite}
use Rattle.gltf_glb.specs.Written.{container_bytes, total_of}
use Rattle.gltf_glb.specs.declared.error.Error.{Error}
use Rattle.gltf.specs.Import.{AreParts, RefusesContainer}

-- the answer is the container of the JSON text and the blob of the bytes (glTF 2.0, section 4.4)
pub record IsRepacked (bytes answer : List ℕ) : Type 0 where
  pub text : List ℕ
  pub blob : Option (List ℕ)
  pub parts : AreParts bytes text blob
  pub fits : total_of text blob < 2 ^ 32
  pub written : answer ≡ container_bytes text blob

-- the bytes have a text and may have a blob, whose container is too long for its header, or memory
-- ran out
pub record RefusesToWriteParts (bytes : List ℕ) (e : Error) : Type 0 where
  pub text : List ℕ
  pub blob : Option (List ℕ)
  pub parts : AreParts bytes text blob
  pub refused : RefusesToWrite text blob e

-- the bytes begin with `glTF` and are no container, or their parts cannot be written
abbrev pub RefusesToRepack : List ℕ → Error → Type 0
RefusesToRepack bytes e = RefusesContainer bytes e ⊎ RefusesToWriteParts bytes e

-- these bytes alone are what the bytes are repacked to
abbrev pub IsOnlyAnswer : List ℕ → List ℕ → Type 0
IsOnlyAnswer bytes answer = (other : List ℕ) → IsRepacked bytes other → other ≡ answer

-- there are no bytes that these are repacked to
abbrev pub HasNoAnswer : List ℕ → Type 0
HasNoAnswer bytes = (answer : List ℕ) → IsRepacked bytes answer → ⊥
