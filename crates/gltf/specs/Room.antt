-- The memory of bytes that are given up.
use Rattle.std.specs.Prelude.{◌≡◌, ◌<◌, ◌≤◌, ◌+◌, ◌^◌, ℕ, Option, Some, None, length, ⊤, Vec}
use Rattle.std.specs.Prelude.{vec_capacity}
use Rattle.std.specs.declared.alloc.Global.{Global}
use Rattle.std.specs.declared.borrow.CowSlice.{CowSlice}
use Rattle.std.specs.declared.borrow.CowSlice.TheVariants as part
use Rattle.gltf_glb.specs.Glb.{HasRoom}

-- a part of bytes that are given up is in the room that they had
abbrev pub StaysInRoom : CowSlice ℕ Global → CowSlice ℕ Global → Type 0
StaysInRoom (part.Borrowed bytes) cut = ⊤
StaysInRoom (part.Owned bytes) cut = HasRoom (vec_capacity bytes) cut

-- the same of a blob
abbrev pub IsInRoomOf : CowSlice ℕ Global → Vec ℕ Global → Type 0
IsInRoomOf (part.Borrowed bytes) blob = ⊤
IsInRoomOf (part.Owned bytes) blob = vec_capacity blob ≡ vec_capacity bytes

-- a copy of lent bytes has room for three zeros behind them, and bytes that are given up stay where
-- they are
abbrev pub IsOwnedOf : CowSlice ℕ Global → Vec ℕ Global → Type 0
IsOwnedOf (part.Borrowed bytes) blob =
    length bytes.now + 3 < 2 ^ 64 → length bytes.now + 3 ≤ vec_capacity blob
IsOwnedOf (part.Owned bytes) blob = blob ≡ bytes

-- the same of a blob that may be absent
abbrev pub KeepsRoom : Option (CowSlice ℕ Global) → Option (Vec ℕ Global) → Type 0
KeepsRoom (Some given) (Some blob) = IsOwnedOf given blob
KeepsRoom given blob = (given ≡ None) × (blob ≡ None)
