-- The memory of a blob, through the layers of a document.
use Rattle.std.proofs.Common.{ℕ, Option, Some, None, Result, Ok, Err, ap, ◌∙◌}
use Rattle.std.specs.Prelude.{IfOk, IfSome, Vec, vec_capacity, ⊤}
use Rattle.std.specs.declared.alloc.Global.{Global}
use Rattle.std.specs.declared.borrow.CowSlice.{CowSlice}
use Rattle.std.specs.declared.borrow.CowSlice.TheVariants as part
use Rattle.gltf_glb.specs.declared.binary.glb.Glb.{Glb}
use Rattle.gltf_glb.specs.declared.error.Error.{Error}
use Rattle.gltf.specs.Room.{StaysInRoom, IsInRoomOf, IsOwnedOf, KeepsRoom}

any_of : {X : Type 0} (o : Option X) → IfSome o (λ _. ⊤)
any_of None = tt
any_of (Some x) = tt

-- of lent bytes nothing is said
pub stays_of_lent : (lent : CowSlice ℕ Global) (result : Result Glb Error)
    → IfOk result (λ glb. IfSome glb.bin (λ _. ⊤))
stays_of_lent lent (Ok glb) = any_of glb.bin
stays_of_lent lent (Err e) = tt

one_in_room : (given cut : CowSlice ℕ Global) (blob : Vec ℕ Global) → StaysInRoom given cut
    → IsOwnedOf cut blob → IsInRoomOf given blob
one_in_room (part.Borrowed bytes) cut blob stays owned = tt
one_in_room (part.Owned bytes) (part.Borrowed lent) blob stays owned = absurd stays
one_in_room (part.Owned bytes) (part.Owned kept) blob stays owned = ap vec_capacity owned ∙ stays

-- what stays in the room of the bytes and is owned then is in that room
pub in_room : (given : CowSlice ℕ Global) (cut : Option (CowSlice ℕ Global))
    (blob : Option (Vec ℕ Global)) → IfSome cut (StaysInRoom given) → KeepsRoom cut blob
    → IfSome blob (IsInRoomOf given)
in_room given cut None stays owned = tt
in_room given (Some cut) (Some blob) stays owned = one_in_room given cut blob stays owned
in_room given None (Some blob) stays owned = let apart = owned.1 in cc
