-- What holds unless there was not enough memory.
use Rattle.std.proofs.Common.{◌≡◌, Result, Ok, Err, refl, false}
use Rattle.std.specs.declared.alloc.Global.{Global}
use Rattle.std.specs.declared.rc.Rc.{Rc}
use Rattle.gltf_glb.specs.declared.error.Error.{Error}
use Rattle.gltf_glb.specs.declared.error.Error.TheVariants as error
use Rattle.gltf_buffers.specs.declared.data.Data.{Data}
use Rattle.gltf_shared.specs.Asked.{UnlessMemory, says_memory}
use Rattle.gltf_shared.specs.Shown.{answer_of}

pub unless : {X : Type 0} (r : Result X Error) (P : Type 0) → UnlessMemory r P
    → says_memory r ≡ false → P
unless (Ok x) P fact says = fact
unless (Err error.Memory) P fact says = cc
unless (Err e) P fact says = fact

pub unless_is : {X : Type 0} (r : Result X Error) (P : Type 0) → (says_memory r ≡ false → P)
    → UnlessMemory r P
unless_is (Ok x) P fact = fact refl
unless_is (Err error.Memory) P fact = tt
unless_is (Err e) P fact = fact refl

pub same_memory : (r : Result (Rc Data Global) Error) → says_memory (answer_of r) ≡ says_memory r
same_memory (Ok x) = refl
same_memory (Err error.Memory) = refl
same_memory (Err e) = refl

pub both_unless : (X Y : Type 0) (e : Error) (P Q R : Type 0) → (P → Q → R)
    → UnlessMemory {X = X} (Err e) P → UnlessMemory {X = X} (Err e) Q
    → UnlessMemory {X = Y} (Err e) R
both_unless X Y error.Memory P Q R law p q = tt
both_unless X Y e P Q R law p q = law p q
