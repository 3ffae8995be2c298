-- A reading that stopped within the header.
use Rattle.std.proofs.Common.{◌≡◌, ℕ, ◌<◌, List, length, Some, arith}
use Rattle.gltf_glb.specs.Faults.{Short, front_fault}
use Rattle.gltf_glb.specs.Front.{IsStop, IsFrontFault}
use Rattle.gltf_glb.specs.declared.binary.Error.TheVariants as binary
use Rattle.gltf_glb.specs.declared.error.Error.{Error}
use Rattle.gltf_glb.specs.declared.error.Error.TheVariants as refusal

pub stopped_front : (came : List ℕ) (e : Error) → IsStop e → length came < 12
    → front_fault came ≡ Some Short → IsFrontFault came e
stopped_front came (refusal.Binary (binary.Io cause)) why few is = (few, is)
stopped_front came refusal.Memory why few is = few
stopped_front came _ why few is = absurd why

pub few_of : (came : List ℕ) → length came < 4 → length came < 12
few_of came few = omega arith
