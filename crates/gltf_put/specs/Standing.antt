-- Which files that stand on a disk may be written over.
use Rattle.std.specs.Prelude.{◌≡◌, List, Bool, true, false, ◌⊎◌, Any}
use Rattle.gltf_put.specs.declared.standing.FileId.{FileId}
use Rattle.gltf_put.specs.declared.standing.Standing.{Standing}
use Rattle.gltf_put.specs.declared.standing.Standing.TheVariants.{Source, Other}

-- the file is one of these
abbrev pub IsAmong : FileId → List FileId → Type 0
IsAmong file files = Any (λ other. other ≡ file) files

-- it is none that was read, and one of the writer's own, or any may be written over
abbrev pub MayBeReplaced : FileId → List FileId → List FileId → Bool → Type 0
MayBeReplaced file sources own force =
    (¬ IsAmong file sources) × (IsAmong file own ⊎ (force ≡ true))

-- it stays, for this reason
abbrev pub Stays : Standing → FileId → List FileId → List FileId → Bool → Type 0
Stays Source file sources own force = IsAmong file sources
Stays Other file sources own force =
    (¬ IsAmong file sources) × (¬ IsAmong file own) × (force ≡ false)
